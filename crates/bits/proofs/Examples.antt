-- The definitions of `specs/Bits.antt` and `specs/Complement.antt` at work on small numbers, each computed. Assumes nothing.
use Rattle.std.specs.Prelude.{true, false, [], ◌∷◌, ◌≡◌, refl, negsuc}
use Rattle.bits.specs.Bits.{odd, bits, digit, value, bits_of, first_byte, bytes_from, byte_count, bytes_of, inside, field_at, with_field, packed_bits}
use Rattle.bits.specs.Complement.{half_range, signed_of, fits_signed, twos_complement}

-- most significant bit first: five in four bits is 0101
five : bits 4 5 ≡ false ∷ true ∷ false ∷ true ∷ []
unfolding bits odd
five = refl

-- the middle eight of sixteen bits, read and written
middle : field_at (0x12 ∷ 0x34 ∷ []) 4 8 ≡ 0x23
unfolding field_at inside value digit bits_of bits odd
middle = refl

middle_written : with_field (0x12 ∷ 0x34 ∷ []) 4 8 0xab ≡ 0x1a ∷ 0xb4 ∷ []
unfolding with_field inside value digit bits_of bits odd bytes_of bytes_from byte_count first_byte
middle_written = refl

-- a field that passes the end by one bit
past_the_end : field_at (0xff ∷ 0xff ∷ []) 9 8 ≡ 0
unfolding field_at inside
past_the_end = refl

-- the head of a sheet of kind 1, code 1, n = 0, with L = 150: fields of 4, 4, 4 and 10 bits, and two filling bits
head : bytes_of (packed_bits (record { width = 4; holds = 1 } ∷ record { width = 4; holds = 1 } ∷ record { width = 4; holds = 0 } ∷ record { width = 10; holds = 150 } ∷ []))
    ≡ 0x11 ∷ 0x02 ∷ 0x58 ∷ []
unfolding packed_bits value digit bits odd bytes_of bytes_from byte_count first_byte
head = refl

-- a sine difference of −1 and of −9,999 in 15 bits
minus_one : signed_of 15 0x7fff ≡ negsuc 0
unfolding signed_of half_range
minus_one = refl

lowest_difference : twos_complement 15 (negsuc 9998) ≡ 0x58f1
unfolding twos_complement fits_signed half_range
lowest_difference = refl

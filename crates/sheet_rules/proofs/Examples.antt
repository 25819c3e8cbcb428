-- The definitions at work: sheets that are read, and sheets that are turned back, each computed.
use Rattle.std.specs.Prelude.{Err}
use Rattle.sheet_rules.specs.Sheet.{Reading, read_as}
use Rattle.std.specs.Prelude.{Err}
use Rattle.std.specs.Prelude.{ℕ, List, [], ◌∷◌, ◌++◌, ◌≡◌, refl, pos, neg_ℤ, replicate}
use Rattle.whole.specs.Lists.{listed}
use Rattle.refusals.specs.{declared.Refusal.Refusal, Order.answer_of, Order.lowest_place}
use Rattle.bits.specs.Bits.{odd, bits, digit, value, bits_of, first_byte, bytes_from, byte_count, bytes_of, inside, field_at, packed_bits, total_width}
use Rattle.bits.specs.Complement.{half_range, signed_of, fits_signed, twos_complement}
use Rattle.figures.specs.{declared.Figure.Figure, Figure.figure_of}
use Rattle.figures.specs.declared.Figure.TheVariants.{Quadrilateral, PointInTriangle, CentralTriangle}
use Rattle.sheet_layout.specs.{declared.Kind.Kind, Head.head_of, Head.head_rows, Head.look_of}
use Rattle.sheet_layout.specs.declared.Kind.TheVariants.{One, Two, Four, Five}
use Rattle.sheet_layout.specs.Layout.{layout, bit_count, sheet_size, sort, number_of_item, same, position_of, held}
use Rattle.sheet_rules.specs.Sheet.{Values, values_read, packed_sheet, values_from}
use Rattle.sheet_rules.specs.Judging.{own_lengths, body_rows, reader_rows, reading_of, given_rows, writer_rows, writing_of}

-- ---- sheets that are read

pub record Sample : Type 0 where
  pub kind : Kind
  pub figure : Figure
  pub values : Values
  pub bytes : List ℕ

-- the first printed sheet of document 01, "Sheets worked through": kind 1, code 1, L = 0, angle 1 of 1620004 and seven of 1620000
abbrev printed : Sample
printed = record {
  kind = One;
  figure = Quadrilateral;
  values =
      values_from 0 (1620004 ∷ 1620000 ∷ 1620000 ∷ 1620000 ∷ 1620000 ∷ 1620000 ∷ 1620000 ∷ 1620000 ∷ []) (replicate 8 1) [] [] [] [];
  bytes =
      0x11 ∷ 0x00 ∷ 0x00 ∷ 0xc5 ∷ 0xc1 ∷ 0x21 ∷ 0x8b ∷ 0x82 ∷ 0x03 ∷ 0x17 ∷ 0x04 ∷ 0x06 ∷ 0x2e ∷ 0x08 ∷ 0x0c ∷ 0x5c ∷ 0x10 ∷ 0x18 ∷ 0xb8
      ∷ 0x20 ∷ 0x31 ∷ 0x70 ∷ 0x40 ∷ 0x62 ∷ 0xe0 ∷ 0x80 ∷ [];
}

-- the values of sheets/point-in-triangle-first.sheet and so on, packed by tests/packed.py, one with the largest L and one with the
-- largest e
abbrev point_first : Sample
point_first = record {
  kind = One;
  figure = PointInTriangle;
  values =
      values_from 600 (4540265 ∷ 950457 ∷ 989272 ∷ 4174479 ∷ 1116755 ∷ 1188767 ∷ 4245251 ∷ 1174924 ∷ 1059792 ∷ []) (replicate 9 1)
      (2010251 ∷ 2106028 ∷ 2363721 ∷ []) [] [] [];
  bytes =
      0x12 ∷ 0x39 ∷ 0x62 ∷ 0x2a ∷ 0x3b ∷ 0x48 ∷ 0xe8 ∷ 0x0b ∷ 0x91 ∷ 0xe3 ∷ 0x0b ∷ 0x0f ∷ 0xec ∷ 0xa3 ∷ 0xc8 ∷ 0x85 ∷ 0x29 ∷ 0x92 ∷ 0x23
      ∷ 0x9f ∷ 0x81 ∷ 0x8e ∷ 0x06 ∷ 0x47 ∷ 0xb6 ∷ 0x30 ∷ 0x81 ∷ 0x5e ∷ 0x81 ∷ 0xea ∷ 0xc8 ∷ 0xb4 ∷ 0x04 ∷ 0x55 ∷ 0x89 ∷ 0x04 ∷ 0x52 ∷ 0x40 ∷ [];
}

abbrev point_second : Sample
point_second = record {
  kind = Two;
  figure = PointInTriangle;
  values =
      values_from 0 (4540268 ∷ 950455 ∷ 989277 ∷ 4174473 ∷ 1116751 ∷ 1188775 ∷ 4245259 ∷ 1174946 ∷ 1059796 ∷ []) (replicate 9 1) []
      (99073033 ∷ 96480271 ∷ 96641130 ∷ 99538169 ∷ 97121024 ∷ 97363599 ∷ 99462413 ∷ 97318469 ∷ 96915176 ∷ [])
      (neg_ℤ (pos 154) ∷ pos 424 ∷ pos 405 ∷ neg_ℤ (pos 103) ∷ pos 350 ∷ pos 324 ∷ neg_ℤ (pos 112) ∷ pos 329 ∷ pos 373 ∷ []) [];
  bytes =
      0x22 ∷ 0x30 ∷ 0x22 ∷ 0xa3 ∷ 0xb6 ∷ 0x5e ∷ 0x7b ∷ 0xc0 ∷ 0x9f ∷ 0xec ∷ 0xc3 ∷ 0xa0 ∷ 0x2d ∷ 0xee ∷ 0x01 ∷ 0x60 ∷ 0x78 ∷ 0x1a ∷ 0x81
      ∷ 0xe3 ∷ 0x0b ∷ 0xb7 ∷ 0x0a ∷ 0x81 ∷ 0xa8 ∷ 0x0c ∷ 0xab ∷ 0xfb ∷ 0x28 ∷ 0x9b ∷ 0xdd ∷ 0xa9 ∷ 0xf3 ∷ 0xfe ∷ 0x64 ∷ 0x88 ∷ 0x52 ∷ 0x7d
      ∷ 0xc9 ∷ 0xf3 ∷ 0x00 ∷ 0x02 ∷ 0xbc ∷ 0x48 ∷ 0x8e ∷ 0x9e ∷ 0xe6 ∷ 0xd3 ∷ 0x47 ∷ 0x81 ∷ 0x44 ∷ 0x81 ∷ 0x8e ∷ 0x17 ∷ 0x7b ∷ 0x6b ∷ 0x43
      ∷ 0x7f ∷ 0xc8 ∷ 0x11 ∷ 0xed ∷ 0xa2 ∷ 0xb9 ∷ 0x9e ∷ 0xc8 ∷ 0xa0 ∷ 0x52 ∷ 0x48 ∷ 0x15 ∷ 0xea ∷ 0x5c ∷ 0x6c ∷ 0xee ∷ 0x80 ∷ 0x2e ∷ 0xa0 ∷ [];
}

abbrev polygon_first : Sample
polygon_first = record {
  kind = One;
  figure = CentralTriangle;
  values =
      values_from 0 (4258721 ∷ 1129342 ∷ 1091899 ∷ 4179504 ∷ 1086150 ∷ 1214352 ∷ 4521768 ∷ 1015872 ∷ 942384 ∷ []) (replicate 9 1) [] [] [] [];
  bytes =
      0x13 ∷ 0x30 ∷ 0x02 ∷ 0x07 ∷ 0xdd ∷ 0x09 ∷ 0x13 ∷ 0xb7 ∷ 0xe2 ∷ 0x15 ∷ 0x27 ∷ 0x6f ∷ 0xf1 ∷ 0x8c ∷ 0x08 ∷ 0x49 ∷ 0x63 ∷ 0x12 ∷ 0x87
      ∷ 0x90 ∷ 0x89 ∷ 0xfe ∷ 0x50 ∷ 0x3e ∷ 0x01 ∷ 0x00 ∷ 0x73 ∷ 0x09 ∷ 0x80 ∷ [];
}

abbrev polygon_second : Sample
polygon_second = record {
  kind = Two;
  figure = CentralTriangle;
  values =
      values_from 50 (4258735 ∷ 1129354 ∷ 1091911 ∷ 4179503 ∷ 1086147 ∷ 1214349 ∷ 4521761 ∷ 1015863 ∷ 942375 ∷ []) (replicate 9 1) []
      (99447256 ∷ 97164847 ∷ 97032850 ∷ 99532997 ∷ 97012040 ∷ 97445338 ∷ 99101201 ∷ 96747087 ∷ 96445833 ∷ [])
      (neg_ℤ (pos 113) ∷ pos 345 ∷ pos 360 ∷ neg_ℤ (pos 103) ∷ pos 362 ∷ pos 315 ∷ neg_ℤ (pos 151) ∷ pos 392 ∷ pos 428 ∷ []) [];
  bytes =
      0x23 ∷ 0x3c ∷ 0xa0 ∷ 0x7d ∷ 0xd7 ∷ 0xde ∷ 0xd7 ∷ 0x1d ∷ 0x8f ∷ 0xf1 ∷ 0xe4 ∷ 0x4e ∷ 0xe2 ∷ 0xae ∷ 0x54 ∷ 0xf1 ∷ 0x78 ∷ 0x15 ∷ 0x92
      ∷ 0x15 ∷ 0x28 ∷ 0xf7 ∷ 0x22 ∷ 0x6a ∷ 0x48 ∷ 0x0b ∷ 0x43 ∷ 0xfc ∷ 0x62 ∷ 0xfb ∷ 0xdd ∷ 0x81 ∷ 0x8b ∷ 0xfe ∷ 0x64 ∷ 0x84 ∷ 0x96 ∷ 0x1d
      ∷ 0xc8 ∷ 0x49 ∷ 0x48 ∷ 0x02 ∷ 0xd4 ∷ 0x4a ∷ 0x1e ∷ 0x36 ∷ 0xe7 ∷ 0x72 ∷ 0xed ∷ 0x01 ∷ 0x3b ∷ 0x89 ∷ 0xfe ∷ 0x43 ∷ 0x7a ∷ 0x0a ∷ 0x84
      ∷ 0x7f ∷ 0xb4 ∷ 0x8f ∷ 0x80 ∷ 0x37 ∷ 0xb8 ∷ 0x87 ∷ 0xc9 ∷ 0xe0 ∷ 0x62 ∷ 0x07 ∷ 0x30 ∷ 0x93 ∷ 0xdb ∷ 0xfa ∷ 0x58 ∷ 0x90 ∷ 0x35 ∷ 0x80 ∷ [];
}

-- the same with rounds, from M-106: kind 4 of the point in a triangle, kind 5 of the central triangle
abbrev point_rounds : Sample
point_rounds = record {
  kind = Four;
  figure = PointInTriangle;
  values =
      values_from 0 (4540265 ∷ 950457 ∷ 989272 ∷ 4174479 ∷ 1116755 ∷ 1188767 ∷ 4245251 ∷ 1174924 ∷ 1059792 ∷ [])
      (4 ∷ 255 ∷ 1 ∷ 2 ∷ 3 ∷ 6 ∷ 12 ∷ 9 ∷ 128 ∷ []) (2010251 ∷ 2106028 ∷ 2363721 ∷ []) [] [] [];
  bytes =
      0x42 ∷ 0x30 ∷ 0x02 ∷ 0x2a ∷ 0x3b ∷ 0x48 ∷ 0x20 ∷ 0xe8 ∷ 0x0b ∷ 0x9f ∷ 0xf1 ∷ 0xe3 ∷ 0x0b ∷ 0x00 ∷ 0x2f ∷ 0xec ∷ 0xa3 ∷ 0xc0 ∷ 0x88
      ∷ 0x85 ∷ 0x29 ∷ 0x81 ∷ 0x92 ∷ 0x23 ∷ 0x9f ∷ 0x06 ∷ 0x81 ∷ 0x8e ∷ 0x06 ∷ 0x18 ∷ 0x47 ∷ 0xb6 ∷ 0x30 ∷ 0x24 ∷ 0x81 ∷ 0x5e ∷ 0x84 ∷ 0x01
      ∷ 0xea ∷ 0xc8 ∷ 0xb4 ∷ 0x04 ∷ 0x55 ∷ 0x89 ∷ 0x04 ∷ 0x52 ∷ 0x40 ∷ [];
}

abbrev polygon_rounds : Sample
polygon_rounds = record {
  kind = Five;
  figure = CentralTriangle;
  values =
      values_from 50 (4258735 ∷ 1129354 ∷ 1091911 ∷ 4179503 ∷ 1086147 ∷ 1214349 ∷ 4521761 ∷ 1015863 ∷ 942375 ∷ [])
      (255 ∷ 1 ∷ 2 ∷ 3 ∷ 4 ∷ 5 ∷ 6 ∷ 7 ∷ 254 ∷ []) []
      (99447256 ∷ 97164847 ∷ 97032850 ∷ 99532997 ∷ 97012040 ∷ 97445338 ∷ 99101201 ∷ 96747087 ∷ 96445833 ∷ [])
      (neg_ℤ (pos 113) ∷ pos 345 ∷ pos 360 ∷ neg_ℤ (pos 103) ∷ pos 362 ∷ pos 315 ∷ neg_ℤ (pos 151) ∷ pos 392 ∷ pos 428 ∷ []) [];
  bytes =
      0x53 ∷ 0x3c ∷ 0xa0 ∷ 0x7d ∷ 0xd7 ∷ 0xff ∷ 0xde ∷ 0xd7 ∷ 0x1d ∷ 0x8f ∷ 0xf1 ∷ 0xe4 ∷ 0x4e ∷ 0xe2 ∷ 0x80 ∷ 0x6e ∷ 0x54 ∷ 0xf1 ∷ 0x78
      ∷ 0x15 ∷ 0x92 ∷ 0x15 ∷ 0x28 ∷ 0xe0 ∷ 0x57 ∷ 0x22 ∷ 0x6a ∷ 0x48 ∷ 0x0b ∷ 0x43 ∷ 0xfc ∷ 0x62 ∷ 0xf0 ∷ 0x3b ∷ 0xdd ∷ 0x81 ∷ 0x8b ∷ 0xfe
      ∷ 0x64 ∷ 0x84 ∷ 0x96 ∷ 0x18 ∷ 0x25 ∷ 0xc8 ∷ 0x49 ∷ 0x48 ∷ 0x02 ∷ 0xd4 ∷ 0x4a ∷ 0x1e ∷ 0x34 ∷ 0x16 ∷ 0xe7 ∷ 0x72 ∷ 0xed ∷ 0x01 ∷ 0x3b
      ∷ 0x89 ∷ 0xfe ∷ 0x42 ∷ 0x0d ∷ 0x7a ∷ 0x0a ∷ 0x84 ∷ 0x7f ∷ 0xb4 ∷ 0x8f ∷ 0x80 ∷ 0x37 ∷ 0x07 ∷ 0xb8 ∷ 0x87 ∷ 0xc9 ∷ 0xe0 ∷ 0x62 ∷ 0x07
      ∷ 0x30 ∷ 0x93 ∷ 0xff ∷ 0x5b ∷ 0xfa ∷ 0x58 ∷ 0x90 ∷ 0x35 ∷ 0x80 ∷ [];
}

-- each is read into slices of its lengths, holds its values, and is what they pack to
abbrev AllRead : List Sample → Type 0
AllRead [] = Unit {0}
AllRead (s ∷ others) =
    (reading_of s.bytes (own_lengths s.kind s.figure) ≡ read_as s.kind s.figure s.values.limit_or_tolerance)
    × (values_read s.kind s.figure s.bytes ≡ s.values) × (packed_sheet s.kind s.figure s.values ≡ s.bytes) × AllRead others

samples_read : AllRead (printed ∷ point_first ∷ point_second ∷ polygon_first ∷ polygon_second ∷ point_rounds ∷ polygon_rounds ∷ [])
unfolding reading_of reader_rows look_of head_of head_rows body_rows answer_of lowest_place held position_of same sort number_of_item field_at inside value digit bits_of bits odd figure_of sheet_size bit_count layout total_width byte_count packed_sheet packed_bits bytes_of bytes_from first_byte values_read listed signed_of twos_complement fits_signed half_range
samples_read = (refl, refl, refl, (refl, refl, refl, (refl, refl, refl, (refl, refl, refl, (refl, refl, refl, (refl, refl, refl, (refl, refl, refl, tt)))))))

-- ---- sheets that are turned back

empty_sheet : (lent : List ℕ) → reading_of [] lent ≡ Err Refusal.WrongSheetLength
unfolding reading_of reader_rows look_of head_of head_rows answer_of
empty_sheet lent = refl

-- kind 1, code 1, n = 0, with a byte too many
one_byte_too_many : (lent : List ℕ) → reading_of (0x11 ∷ replicate 26 0) lent ≡ Err Refusal.WrongSheetLength
unfolding reading_of reader_rows look_of head_of head_rows body_rows answer_of held position_of same sort number_of_item field_at inside value digit bits_of bits odd figure_of sheet_size bit_count layout total_width byte_count
one_byte_too_many lent = refl

-- the last bit is a filling bit; L is 1,023 and every angle is 0, but 13 comes before 3 and 4
filling_bit : reading_of (0x11 ∷ 0x0f ∷ 0xfc ∷ (replicate 22 0 ++ (1 ∷ []))) (own_lengths One Quadrilateral) ≡ Err Refusal.FillingBitSet
unfolding reading_of reader_rows look_of head_of head_rows body_rows answer_of held position_of same sort number_of_item field_at inside value digit bits_of bits odd figure_of sheet_size bit_count layout total_width byte_count
filling_bit = refl

limit-601 : reading_of (packed_sheet One Quadrilateral (values_from 601 (replicate 8 1620000) (replicate 8 1) [] [] [] [])) (own_lengths One Quadrilateral)
    ≡ Err Refusal.LimitOrToleranceOutOfRange
unfolding reading_of reader_rows look_of head_of head_rows body_rows answer_of held position_of same sort number_of_item field_at inside value digit bits_of bits odd figure_of sheet_size bit_count layout total_width byte_count packed_sheet packed_bits bytes_of bytes_from first_byte values_read
limit-601 = refl

-- −10,000 at angle 3
difference-below-range :
    reading_of (packed_sheet Two Quadrilateral
    (values_from 0 (replicate 8 1620000) (replicate 8 1) [] (replicate 8 98494850) (pos 300 ∷ pos 169 ∷ neg_ℤ (pos 10000) ∷ replicate 5 (pos 100)) []))
    (own_lengths Two Quadrilateral)
    ≡ Err (Refusal.SineEntryOutOfRange 3)
unfolding reading_of reader_rows look_of head_of head_rows body_rows answer_of lowest_place held position_of same sort number_of_item field_at inside value digit bits_of bits odd figure_of sheet_size bit_count layout total_width byte_count packed_sheet packed_bits bytes_of bytes_from first_byte values_read listed signed_of twos_complement fits_signed half_range
difference-below-range = refl

-- M-106: a round count of 0 at the first angle or the last gives 16
abbrev eight_angles : (angles rounds : List ℕ) → Values
eight_angles angles rounds = values_from 0 angles rounds [] [] [] []

abbrev answer_to : (angles rounds : List ℕ) → Reading
answer_to angles rounds = reading_of (packed_sheet Four Quadrilateral (eight_angles angles rounds)) (own_lengths Four Quadrilateral)

first_rounds-0 : answer_to (replicate 8 1620000) (0 ∷ replicate 7 4) ≡ Err (Refusal.RoundsOutOfRange 1)
unfolding reading_of reader_rows look_of head_of head_rows body_rows answer_of lowest_place held position_of same sort number_of_item field_at inside value digit bits_of bits odd figure_of sheet_size bit_count layout total_width byte_count packed_sheet packed_bits bytes_of bytes_from first_byte values_read listed signed_of twos_complement fits_signed half_range
first_rounds-0 = refl

last_rounds-0 : answer_to (replicate 8 1620000) (replicate 7 255 ++ (0 ∷ [])) ≡ Err (Refusal.RoundsOutOfRange 8)
unfolding reading_of reader_rows look_of head_of head_rows body_rows answer_of lowest_place held position_of same sort number_of_item field_at inside value digit bits_of bits odd figure_of sheet_size bit_count layout total_width byte_count packed_sheet packed_bits bytes_of bytes_from first_byte values_read listed signed_of twos_complement fits_signed half_range
last_rounds-0 = refl

-- 4 comes before 16, whatever their places
angle_before_rounds : answer_to (replicate 7 1620000 ++ (0 ∷ [])) (0 ∷ replicate 7 4) ≡ Err (Refusal.AngleOutOfRange 8)
unfolding reading_of reader_rows look_of head_of head_rows body_rows answer_of lowest_place held position_of same sort number_of_item field_at inside value digit bits_of bits odd figure_of sheet_size bit_count layout total_width byte_count packed_sheet packed_bits bytes_of bytes_from first_byte values_read listed signed_of twos_complement fits_signed half_range
angle_before_rounds = refl

-- an older kind is written with one round for each angle alone, and 16 names the lowest that has another count
older_with-2 : writing_of 3 1 0 (eight_angles (replicate 8 1620000) (1 ∷ 2 ∷ 1 ∷ 3 ∷ replicate 4 1)) 26 ≡ Err (Refusal.RoundsOutOfRange 2)
unfolding writing_of writer_rows given_rows head_of answer_of lowest_place figure_of sheet_size bit_count layout total_width byte_count
older_with-2 = refl

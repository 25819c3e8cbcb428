-- Two words and the number that they are worth: the words of a number, joined, are the number, and two words are those of what they
-- join to. Assumes nothing.
use Rattle.std.specs.Prelude.{◌≡◌, refl, ℕ, suc, ◌+◌, ◌-◌, ◌*◌, ◌/◌, ◌%◌, ◌^◌, ◌<◌, ℤ, pos, negsuc, neg_ℤ, ◌+ℤ◌, nat_abs}
use Rattle.std.specs.Int.{int_div_euclid, int_rem_euclid}
use Rattle.vocabulary.specs.{sym, ap, ◌∙◌, div-add-mod', mod-lt, arith, digits_div, digits_mod, lit<, lt_z}
use Rattle.whole.proofs.Ring.{ring, ◌≐◌, ◌⊕◌, ⊝◌}
use Rattle.wide.specs.{Wide.radix, Wide.value_of, declared.Wide.Wide}
use Rattle.wide.proofs.Signs.{signed_own}
use Rattle.wide_words.specs.Words.{joined, high_word, low_word}

word : (n : ℕ) → n < 2 ^ 64 → n < radix
unfolding radix
word n h = h

radix_some : 0 < radix
unfolding radix
radix_some = lit< tt

-- −(n + k) + k is −n
taken_back : (n k : ℕ) → neg_ℤ (pos (n + k)) +ℤ pos k ≡ neg_ℤ (pos n)
taken_back n k = ring 2 (λ n k. ⊝ (n ⊕ k) ⊕ k ≐ ⊝ n) tt (pos n) (pos k)

-- ---- From 0 up, and below zero

pub joined_above : (high low : ℕ) → pos (high * radix + low) ≡ joined (pos high) low
unfolding joined
joined_above high low = refl

-- a size that lacks the low word of the high word's own size, moved up by a word
pub joined_less : (high size low : ℕ) → size + low ≡ suc high * radix → neg_ℤ (pos size) ≡ joined (negsuc high) low
unfolding joined
joined_less high size low e = sym (ap (λ (n : ℕ). neg_ℤ (pos n) +ℤ pos low) (sym e) ∙ taken_back size low)

pub joined_below : (high low : ℕ) → low < radix → joined (negsuc high) low ≡ negsuc (high * radix + (radix - 1 - low))
joined_below high low h = sym (joined_less high (suc (high * radix + (radix - 1 - low))) low (omega arith))

rest_within : (low : ℕ) → low < radix → radix - 1 - low < radix
rest_within low h = omega arith

-- ---- There and back

pub joined_words : (z : ℤ) → joined (high_word z) (low_word z) ≡ z
unfolding joined high_word low_word
joined_words (pos n) = ap pos (div-add-mod' n radix)
joined_words (negsuc n) =
    let left : n % radix < radix = mod-lt n radix_some in
    joined_below (n / radix) (radix - 1 - n % radix) (omega arith)
    ∙ ap negsuc (omega (arith, div-add-mod' n radix))

pub high_joined : (high : ℤ) (low : ℕ) → low < 2 ^ 64 → high_word (joined high low) ≡ high
unfolding joined high_word
high_joined (pos a) low h = ap pos (digits_div a (word low h))
high_joined (negsuc a) low h =
    ap high_word (joined_below a low (word low h)) ∙ ap negsuc (digits_div a (rest_within low (word low h)))

pub low_joined : (high : ℤ) (low : ℕ) → low < 2 ^ 64 → low_word (joined high low) ≡ low
unfolding joined low_word
low_joined (pos a) low h = digits_mod a (word low h)
low_joined (negsuc a) low h =
    let within : low < radix = word low h in
    ap low_word (joined_below a low within) ∙ ap (λ (n : ℕ). radix - 1 - n) (digits_mod a (rest_within low within)) ∙ omega arith

-- ---- As the machine finds them

pub high_word_is : (z : ℤ) → int_div_euclid z (pos (2 ^ 64)) ≡ high_word z
unfolding high_word radix
high_word_is (pos n) = refl
high_word_is (negsuc n) = refl

pub low_word_is : (z : ℤ) → int_rem_euclid z (pos (2 ^ 64)) ≡ pos (low_word z)
unfolding low_word radix
low_word_is (pos n) = refl
low_word_is (negsuc n) = refl

-- a number by its own sign and size
pub value_own : (z : ℤ) → value_of (record { negative = lt_z z (pos 0); size = nat_abs z }) ≡ z
unfolding value_of
value_own z = signed_own z

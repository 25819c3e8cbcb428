-- Laws of a number's text: it reads back as the number, so that no two numbers have one text; what its bytes are; how long it is at most.
-- Each goes by the number without its last digit. Assumes nothing.
use Rattle.std.specs.Prelude.{◌≡◌, refl, Bool, true, false, ◌||◌, List, [], ◌∷◌, ◌++◌, map, ℕ, zero, suc, ◌+◌, ◌*◌, ◌-◌, ◌/◌, ◌%◌, ◌^◌, ◌≤◌}
use Rattle.std.specs.Prelude.{◌<◌, T, leb, ltb, eqb, ℤ, pos, negsuc, neg_ℤ, nat_abs, length, get_or}
use Rattle.vocabulary.specs.{sym, ap, ap₂, ◌∙◌, subst, subst⁻¹, lt_z, not-suc-le-zero, pow-suc, div-lt_iff_lt-mul, div-eq_of_lt, mod-eq_of_lt, arith}
use Rattle.vocabulary.specs.{ne_eqb, ltb-true, ltb-false, leb→le, le→leb, eqb→eq, lit<, length-append, list-get_or_append}
use Rattle.whole.specs.Lists.{every}
use Rattle.whole.proofs.Computed.{and_left}
use Rattle.text.proofs.Tests.{and_both, or_left, or_cases, every_append, every_also}
use Rattle.text.specs.Text.{space, line_feed, minus, digit, is_digit, digits, natural, decimal, read_digits, read_number, is_plain, is_word}

-- ---- The digits, from the last one backwards

ten_or_more : (P : Type 0) (n : ℕ) → (n < 10 → P) → (10 ≤ n → P) → P
ten_or_more P n one more = go (ltb n 10) refl
  where
    go : (b : Bool) → ltb n 10 ≡ b → P
    go true e = one (ltb-true n 10 e)
    go false e = more (ltb-false n 10 e)

digits_none : (places : ℕ) → digits places 0 ≡ []
unfolding digits
digits_none zero = refl
digits_none (suc places) = refl

-- more places than needed change nothing
digits_enough : (p q n : ℕ) → n ≤ p → n ≤ q → digits p n ≡ digits q n
unfolding digits
digits_enough zero q zero hp hq = sym (digits_none q)
digits_enough zero q (suc m) hp hq = absurd (not-suc-le-zero hp)
digits_enough (suc p) q zero hp hq = sym (digits_none q)
digits_enough (suc p) zero (suc m) hp hq = absurd (not-suc-le-zero hq)
digits_enough (suc p) (suc q) (suc m) hp hq = ap (λ (l : List ℕ). l ++ (digit (suc m % 10) ∷ [])) (digits_enough p q (suc m / 10) (omega arith) (omega arith))

pub natural_last : (n : ℕ) → n < 10 → natural n ≡ digit n ∷ []
unfolding natural digits
natural_last zero h = refl
natural_last (suc m) h = rw (div-eq_of_lt h, mod-eq_of_lt h, digits_none m)

pub natural_before : (n : ℕ) → 10 ≤ n → natural n ≡ natural (n / 10) ++ (digit (n % 10) ∷ [])
unfolding natural digits
natural_before zero h = absurd (not-suc-le-zero h)
natural_before (suc m) h = ap (λ (l : List ℕ). l ++ (digit (suc m % 10) ∷ [])) (one_more (suc m / 10) (omega arith) (omega arith))
  where
    one_more : (k : ℕ) → 0 < k → k ≤ m → digits m k ≡ natural k
    one_more zero b c = absurd (not-suc-le-zero b)
    one_more (suc k) b c = digits_enough m (suc k) (suc k) c (omega arith)

pub length_last : (n : ℕ) → n < 10 → length (natural n) ≡ 1
length_last n h = ap length (natural_last n h)

pub length_before : (n : ℕ) → 10 ≤ n → length (natural n) ≡ length (natural (n / 10)) + 1
length_before n h = ap length (natural_before n h) ∙ length-append (natural (n / 10)) (digit (n % 10) ∷ [])

tens_together : (n : ℕ) → n / 10 / 10 / 10 / 10 ≡ n / 10000
tens_together n = omega arith

pub length_four_more : (n : ℕ) → 10000 ≤ n → length (natural n) ≡ length (natural (n / 10000)) + 4
length_four_more n h =
    let e : length (natural n) ≡ length (natural (n / 10 / 10 / 10 / 10)) + 4 =
    omega (arith, length_before n (omega arith), length_before (n / 10) (omega arith), length_before (n / 10 / 10) (omega arith), length_before (n / 10 / 10 / 10) (omega arith)) in
    e ∙ ap (λ (k : ℕ). length (natural k) + 4) (tens_together n)

module _ (P : ℕ → Type 0) (one : (n : ℕ) → n < 10 → P n) (more : (n : ℕ) → 10 ≤ n → P (n / 10) → P n) where
  up_to : (k n : ℕ) → n < k → P n
  up_to zero n h = absurd (not-suc-le-zero h)
  up_to (suc k) n h = ten_or_more (P n) n (one n) (λ ten. more n ten (up_to k (n / 10) (omega arith)))

  by_digits : (n : ℕ) → P n
  by_digits n = up_to (suc n) n (omega arith)

-- what holds of one digit's text, and of a text with one digit more where it holds of the text, holds of the text of every number from 0 up
module _ (Q : List ℕ → Type 0) (one : (n : ℕ) → n < 10 → Q (digit n ∷ [])) (more : (l : List ℕ) (n : ℕ) → n < 10 → Q l → Q (l ++ (digit n ∷ []))) where
  by_text : (n : ℕ) → Q (natural n)
  by_text =
      by_digits (λ n. Q (natural n)) (λ n h. subst⁻¹ Q (natural_last n h) (one n h))
      (λ n h q. subst⁻¹ Q (natural_before n h) (more (natural (n / 10)) (n % 10) (omega arith) q))

-- the text of a number below zero, and of any other
pub decimal_below : (z : ℤ) → lt_z z (pos 0) ≡ true → decimal z ≡ minus ∷ natural (nat_abs z)
unfolding decimal
decimal_below (pos n) e = absurd (not-suc-le-zero (ltb-true n 0 e))
decimal_below (negsuc n) e = refl

pub decimal_other : (z : ℤ) → lt_z z (pos 0) ≡ false → decimal z ≡ natural (nat_abs z)
unfolding decimal
decimal_other (pos n) e = refl
decimal_other (negsuc n) e = absurd (subst T e tt)

-- ---- Reading back

read_digits_more : (before : ℕ) (l : List ℕ) (d : ℕ) → read_digits before (l ++ (digit d ∷ [])) ≡ read_digits before l * 10 + d
unfolding read_digits
read_digits_more before [] d = omega arith
read_digits_more before (b ∷ l) d = read_digits_more (before * 10 + (b - digit 0)) l d

pub read_natural : (n : ℕ) → read_digits 0 (natural n) ≡ n
unfolding read_digits
read_natural =
    by_digits (λ n. read_digits 0 (natural n) ≡ n) (λ n h. rw (natural_last n h) (omega arith))
    (λ n h e. rw (natural_before n h, read_digits_more 0 (natural (n / 10)) (n % 10), e) (omega arith))

-- ---- The bytes

digit_is_digit : (d : ℕ) → d < 10 → T (every is_digit (digit d ∷ []))
digit_is_digit d h =
    and_both (is_digit (digit d)) true
    (and_both (leb (digit 0) (digit d)) (leb (digit d) (digit 9)) (le→leb (digit 0) (digit d) (omega arith)) (le→leb (digit d) (digit 9) (omega arith)))
    tt

-- a number from 0 up has digits and nothing else
pub natural_digits : (n : ℕ) → T (every is_digit (natural n))
natural_digits = by_text (λ l. T (every is_digit l)) digit_is_digit (λ l d h t. every_append is_digit l (digit d ∷ []) t (digit_is_digit d h))

-- so that only a negative number has a minus sign
pub no_minus : (n : ℕ) → T (every is_digit (decimal (pos n)))
unfolding decimal
no_minus n = natural_digits n

pub decimal_bytes : (z : ℤ) → T (every (λ b. is_digit b || eqb b minus) (decimal z))
unfolding decimal
decimal_bytes (pos n) = every_also is_digit (λ b. is_digit b || eqb b minus) (λ b t. or_left (is_digit b) (eqb b minus) t) (natural n) (natural_digits n)
decimal_bytes (negsuc n) = every_also is_digit (λ b. is_digit b || eqb b minus) (λ b t. or_left (is_digit b) (eqb b minus) t) (natural (suc n)) (natural_digits (suc n))

pub natural_some : (n : ℕ) → 0 < length (natural n)
natural_some = by_text (λ l. 0 < length l) (λ d h. lit< tt) (λ l d h b. rw (length-append l (digit d ∷ [])) (omega arith))

pub decimal_some : (z : ℤ) → 0 < length (decimal z)
unfolding decimal
decimal_some (pos n) = natural_some n
decimal_some (negsuc n) = omega arith

-- the first digit is 0 in the number 0 alone
pub natural_first : (n : ℕ) → get_or (natural n) 0 0 ≡ digit 0 → n ≡ 0
natural_first =
    by_digits (λ n. get_or (natural n) 0 0 ≡ digit 0 → n ≡ 0) (λ n h e. last n e (natural_last n h))
    (λ n h more e.
    let none : n / 10 ≡ 0 = more (sym (list-get_or_append (natural (n / 10)) (digit (n % 10) ∷ []) 0 0 (natural_some (n / 10))) ∙ ap (λ (l : List ℕ). get_or l 0 0) (sym (natural_before n h)) ∙ e) in
    omega arith)
  where
    last : (n : ℕ) → get_or (natural n) 0 0 ≡ digit 0 → natural n ≡ digit n ∷ [] → n ≡ 0
    last n e same = let first : digit n ≡ digit 0 = ap (λ (l : List ℕ). get_or l 0 0) (sym same) ∙ e in omega arith

-- so a zero is first in the text of 0, which is that one digit, and after no minus sign
pub zero_text : decimal (pos 0) ≡ digit 0 ∷ []
unfolding decimal
zero_text = natural_last 0 (lit< tt)

pub zero_first : (z : ℤ) → get_or (decimal z) 0 0 ≡ digit 0 → z ≡ pos 0
unfolding decimal
zero_first (pos n) e = ap pos (natural_first n e)
zero_first (negsuc n) e = let no : ◌≡◌ {A = ℕ} minus (digit 0) = e in absurd (omega arith)

pub zero_after_minus : (n : ℕ) → get_or (decimal (negsuc n)) 1 0 ≡ digit 0 → ⊥
unfolding decimal
zero_after_minus n e = let none : suc n ≡ 0 = natural_first (suc n) e in omega arith

-- ---- Reading a number

not_minus : (b : ℕ) → T (is_digit b) → eqb b minus ≡ false
not_minus b t = ne_eqb b minus (λ e. let above : digit 0 ≤ b = leb→le (digit 0) b (and_left (leb (digit 0) b) (leb b (digit 9)) t) in omega arith)

read_digits_lem : (l : List ℕ) → T (every is_digit l) → read_number l ≡ pos (read_digits 0 l)
unfolding read_number read_digits
read_digits_lem [] t = refl
read_digits_lem (b ∷ l) t = rw (not_minus b (and_left (is_digit b) (every is_digit l) t))

pub read_decimal : (z : ℤ) → read_number (decimal z) ≡ z
unfolding decimal read_number
read_decimal (pos n) = read_digits_lem (natural n) (natural_digits n) ∙ ap pos (read_natural n)
read_decimal (negsuc n) = ap (λ (k : ℕ). neg_ℤ (pos k)) (read_natural (suc n))

pub decimal_injective : (y z : ℤ) → decimal y ≡ decimal z → y ≡ z
decimal_injective y z e = sym (read_decimal y) ∙ ap read_number e ∙ read_decimal z

pub read_decimals : (zs : List ℤ) → map read_number (map decimal zs) ≡ zs
read_decimals [] = refl
read_decimals (z ∷ zs) = ap₂ ◌∷◌ (read_decimal z) (read_decimals zs)

-- ---- A number is a part of a line

pub decimal_word : (z : ℤ) → T (is_word (decimal z))
decimal_word z = word (decimal z) (decimal_some z) (every_also (λ b. is_digit b || eqb b minus) is_plain plain (decimal z) (decimal_bytes z))
  where
    word : (l : List ℕ) → 0 < length l → T (every is_plain l) → T (is_word l)
    word [] h t = absurd (not-suc-le-zero h)
    word (b ∷ l) h t = t

    above : (b : ℕ) → minus ≤ b → T (is_plain b)
    above b h = rw (ne_eqb b space (λ e. omega arith), ne_eqb b line_feed (λ e. omega arith)) tt

    plain : (b : ℕ) → T (is_digit b || eqb b minus) → T (is_plain b)
    plain b t =
        or_cases (is_digit b) (eqb b minus) (T (is_plain b))
        (λ d. let from : digit 0 ≤ b = leb→le (digit 0) b (and_left (leb (digit 0) b) (leb b (digit 9)) d) in above b (omega arith))
        (λ m. let same : b ≡ minus = eqb→eq b minus m in above b (omega arith))
        t

pub decimal_words : (zs : List ℤ) → T (every is_word (map decimal zs))
decimal_words [] = tt
decimal_words (z ∷ zs) = and_both (is_word (decimal z)) (every is_word (map decimal zs)) (decimal_word z) (decimal_words zs)

-- ---- Lengths

pub length_natural : (k n : ℕ) → 0 < k → n < 10 ^ k → length (natural n) ≤ k
length_natural zero n b h = absurd (not-suc-le-zero b)
length_natural (suc zero) n b h = rw (natural_last n h) (omega arith)
length_natural (suc (suc k)) n b h =
    ten_or_more (length (natural n) ≤ suc (suc k)) n (λ one. rw (natural_last n one) (omega arith))
    (λ ten. rw (natural_before n ten, length-append (natural (n / 10)) (digit (n % 10) ∷ []))
    (omega (arith, length_natural (suc k) (n / 10) (omega arith) ((div-lt_iff_lt-mul (lit< tt)).1 (rw (pow-suc 10 (suc k)) at h)))))

-- a number of 64 bits has at most 20 digits
pub length_word : (n : ℕ) → n < 2 ^ 64 → length (natural n) ≤ 20
length_word n h = length_natural 20 n (lit< tt) (omega arith)

pub length_decimal : (k : ℕ) (z : ℤ) → 0 < k → nat_abs z < 10 ^ k → length (decimal z) ≤ k + 1
unfolding decimal
length_decimal k (pos n) b h = omega (arith, length_natural k n b h)
length_decimal k (negsuc n) b h = omega (arith, length_natural k (suc n) b h)

pub length_positive : (k n : ℕ) → 0 < k → n < 10 ^ k → length (decimal (pos n)) ≤ k
unfolding decimal
length_positive k n b h = length_natural k n b h

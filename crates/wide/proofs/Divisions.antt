-- Laws of the division of sizes: the leading bits of two sizes, how often the one goes into the other at least, and the rounded quotient
-- from a quotient and what it leaves (M-105). Assumes nothing.
use Rattle.std.specs.Prelude.{◌≡◌, ℕ, zero, suc, ◌+◌, ◌-◌, ◌*◌, ◌/◌, ◌%◌, ◌^◌, ◌≤◌, ◌<◌}
use Rattle.std.proofs.lemmas.Nat.{shr_below}
use Rattle.vocabulary.specs.{sym, ap, ◌∙◌, subst, arith, digits_div, digits_mod, mul-le-mul_right, mul-le-mul_left, div-mul-le_self, mul-zero, not-suc-le-zero}
use Rattle.vocabulary.specs.{ap₂, add-mul, one-mul, zero-mul, zero-add, le-mul_of_pos_right, lt_of_le_of_lt, lt-div-mul-add, mul_assoc, mul_comm, le-div_iff_mul-le, pow_mono, pow_pos, lt_of_lt_of_le, lt_of_not-le, le_trans, count_leading_zeros, leading_top}
use Rattle.whole.specs.Quotient.{nearest}
use Rattle.whole.proofs.Quotient.{nearest_down, nearest_up}
use Rattle.wide.specs.Wide.{radix}

-- ---- The leading bits

-- what has a bit past 64 needs more than 64 bits
past_word : (n bits : ℕ) → 2 ^ 64 ≤ n → n < 2 ^ bits → 64 < bits
past_word n bits h w = lt_of_not-le (λ few. (let e : 2 ^ bits ≤ 2 ^ 64 = pow_mono {i = bits} {j = 64} few in omega (arith, e)))

module _ (n : ℕ) (h : radix ≤ n) (w : n < 2 ^ 128) where
  pub few_places : count_leading_zeros 128 n ≤ 64
  unfolding radix
  few_places =
      let top = leading_top 128 n (omega arith) w in
      omega (arith, top.1, past_word n (suc top.0) h top.3)

  pub word_left : n < 2 ^ (64 + (64 - count_leading_zeros 128 n))
  unfolding radix
  word_left =
      let top = leading_top 128 n (omega arith) w in
      let e : suc top.0 ≡ 64 + (64 - count_leading_zeros 128 n) = omega (arith, top.1, past_word n (suc top.0) h top.3) in
      subst (λ (k : ℕ). n < 2 ^ k) e top.3

pub word_fits : (n places : ℕ) → n < 2 ^ (64 + places) → n / 2 ^ places < 2 ^ 64
word_fits n places h = shr_below n 64 places h

-- ---- The high word of a quotient

radix_some : 0 < radix
unfolding radix
radix_some = pow_pos 64

pub high_within : (n d : ℕ) → n / radix / d * radix * d ≤ n
high_within n d =
    let q = n / radix / d in
    let most : q * d * radix ≤ n / radix * radix = mul-le-mul_right radix (div-mul-le_self (n / radix) d) in
    omega (arith, most, div-mul-le_self n radix, mul_assoc q radix d, mul_assoc q d radix, mul_comm radix d)

pub high_left : (n d : ℕ) → 0 < d → n < n / radix / d * radix * d + radix * d
high_left n d some =
    let q = n / radix / d in
    let next : n / radix + 1 ≤ q * d + d = omega (arith, lt-div-mul-add {a = n / radix} {b = d} some) in
    let more : (n / radix + 1) * radix ≤ (q * d + d) * radix = mul-le-mul_right radix next in
    let spread : (n / radix + 1) * radix ≡ n / radix * radix + radix = add-mul (n / radix) 1 radix ∙ ap (λ (k : ℕ). n / radix * radix + k) (one-mul radix) in
    let spread' : (q * d + d) * radix ≡ q * radix * d + radix * d =
    add-mul (q * d) d radix ∙ ap₂ ◌+◌ (mul_assoc q d radix ∙ ap (λ (k : ℕ). q * k) (mul_comm d radix) ∙ sym (mul_assoc q radix d)) (mul_comm d radix) in
    let below : n < n / radix * radix + radix = lt-div-mul-add {a = n} {b = radix} radix_some in
    omega (arith, more, below, spread, spread')

pub high_none : (n d : ℕ) → n < 2 ^ 128 → radix ≤ d → n < 0 * d + radix * d
unfolding radix
high_none n d w h = subst (λ (x : ℕ). n < x) (sym (ap (λ (x : ℕ). x + 2 ^ 64 * d) (zero-mul d) ∙ zero-add (2 ^ 64 * d))) (lt_of_lt_of_le w (mul-le-mul_left (2 ^ 64) h))

-- a divisor that goes into less than a word of it is not 0
pub divisor_some : (n d : ℕ) → n < radix * d → 0 < d
divisor_some n zero h = absurd (not-suc-le-zero (subst (λ (x : ℕ). n < x) (mul-zero radix) h))
divisor_some n (suc d) h = omega arith

-- ---- How often at least

-- both cut off at the same unit, and one more of the divisor than is left of it: so the quotient of these is never too much
times_within_unit : (n d unit : ℕ) → 0 < unit → n / unit / (d / unit + 1) * d ≤ n
times_within_unit n d unit some =
    let upper = n / unit in
    let lower = d / unit + 1 in
    let times = upper / lower in
    let covered : d ≤ lower * unit = omega (arith, lt-div-mul-add {a = d} {b = unit} some) in
    let most : times * d ≤ times * (lower * unit) = mul-le-mul_left times covered in
    let again : times * lower * unit ≤ upper * unit = mul-le-mul_right unit (div-mul-le_self upper lower) in
    omega (arith, div-mul-le_self n unit, mul_assoc times lower unit)

pub times_within : (n d places : ℕ) → n / 2 ^ places / (d / 2 ^ places + 1) * d ≤ n
times_within n d places = times_within_unit n d (2 ^ places) (pow_pos places)

pub times_some : (upper lower : ℕ) → lower < upper → 0 < upper / (lower + 1)
times_some upper lower h = (le-div_iff_mul-le {k = lower + 1} {x = 1} {y = upper} (omega arith)).1 (omega arith)

pub quotient_some : (n d : ℕ) → 0 < d → d ≤ n → 0 < n / d
quotient_some n d some h = (le-div_iff_mul-le {k = d} {x = 1} {y = n} some).1 (omega arith)

-- ---- A turn

module _ (n d quotient remainder times : ℕ) (whole : quotient * d + remainder ≡ n) (some : 0 < d) (within : times * d ≤ remainder) where
  pub turn_fits : n < 2 ^ 128 → quotient + times < 2 ^ 128
  turn_fits w =
      let most : (quotient + times) * d ≤ n = omega (arith, whole, within, add-mul quotient times d) in
      lt_of_le_of_lt (le_trans (le-mul_of_pos_right (quotient + times) some) most) w

  pub turn_smaller : 0 < times → d ≤ remainder → remainder - times * d + 1 - d < remainder + 1 - d
  turn_smaller more h =
      let least : 1 * d ≤ times * d = mul-le-mul_right d more in
      omega (arith, least, one-mul d, within)

-- ---- The rounded quotient, from the quotient and what is left

module _ (n d quotient rest : ℕ) (e : quotient * d + rest ≡ n) (h : rest < d) where
  divide : n / d ≡ quotient
  divide = ap (λ (x : ℕ). x / d) (sym e) ∙ digits_div quotient h

  leave : n % d ≡ rest
  leave = ap (λ (x : ℕ). x % d) (sym e) ∙ digits_mod quotient h

  pub rounded_down : rest + quotient % 2 ≤ d - rest → quotient ≡ nearest n d
  rounded_down low = sym (nearest_down n d (omega arith) (rw (leave, divide) low) ∙ divide)

  pub rounded_up : d - rest < rest + quotient % 2 → quotient + 1 ≡ nearest n d
  rounded_up high = sym (nearest_up n d (omega arith) (rw (leave, divide) high) ∙ ap (λ (x : ℕ). x + 1) divide)

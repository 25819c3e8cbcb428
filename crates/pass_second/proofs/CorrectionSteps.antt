-- The exact corrections of the second pass, as the code works them: what a clamped quotient is, how the angles are filled in, and that one
-- sine condition and two make the corrections of the definitions. Assumes nothing.
use Rattle.std.proofs.lemmas.Int.{clamps, ints}
use Rattle.std.specs.Int.{int_max, int_min}
use Rattle.std.specs.Prelude.{Bool, ltb, refl, ◌≡◌, true, false, List, ℕ, suc, ◌+◌, ◌*◌, ◌≤◌, ◌<◌, ℤ, pos, negsuc, neg_ℤ, nat_abs, ◌*ℤ◌, length, set}
use Rattle.vocabulary.specs.{sym, ap, ap₂, ◌∙◌, le_refl, le_trans, arith, ltb-true, ltb-false, eq-eqb, ne_eqb, lit≤}
use Rattle.whole.specs.{Lists.listed, Sums.vector}
use Rattle.whole.proofs.Lists.{Filled, filled_none, filled_more, filled_all, listed_ext}
use Rattle.whole.proofs.Ring.{ring, ◌≐◌, ◌⊗◌}
use Rattle.wide.specs.Wide.{value_of}
use Rattle.pass_pair.specs.{declared.Pair.Pair, declared.PairFactors.PairFactors, declared.PairCorrection.PairCorrection}
use Rattle.pass_pair.specs.Pair.{first_factor, second_factor, determinant, most_tenths, clamped}
use Rattle.pass_pair.proofs.{Clamping.size_large, Clamping.clamped_small, Exact.Bounded, Exact.correction_exact}
use Rattle.pass_steps.specs.Premises.{Within, most_denominator, most_reduced}
use Rattle.pass_second.specs.Steps.{SmallPair, factor_of, exact_from, divisor_from, exact_correction, pair_correction}
use Rattle.pass_second.proofs.Exact.{product_magnitude}

-- ---- a quotient of 64 bits, clamped as the code does it

pub clamp_is : (z : ℤ) → int_max (neg_ℤ (pos most_tenths)) (int_min z (pos most_tenths)) ≡ clamped z
unfolding clamped
clamp_is z = go z (ltb most_tenths (nat_abs z)) refl
  where
    go : (z : ℤ) (t : Bool) → ltb most_tenths (nat_abs z) ≡ t → int_max (neg_ℤ (pos most_tenths)) (int_min z (pos most_tenths)) ≡ clamped z
    go z false e =
        let few : nat_abs z ≤ most_tenths = ltb-false most_tenths (nat_abs z) e in
        sym (clamped_small z few ∙ omega (arith, ints, clamps, few))
    go (pos n) true e =
        let many : most_tenths ≤ n = omega (arith, ltb-true most_tenths n e) in
        sym (ap pos (size_large n many) ∙ omega (arith, ints, clamps, many))
    go (negsuc n) true e =
        let many : most_tenths ≤ suc n = omega (arith, ltb-true most_tenths (suc n) e) in
        sym (ap (λ (k : ℕ). neg_ℤ (pos k)) (size_large (suc n) many) ∙ omega (arith, ints, clamps, many))

-- ---- both loops over the angles

-- what n angles hold once all have their corrections
abbrev pub AllCorrected : (n : ℕ) → (correction : ℕ → PairCorrection) → (high : List ℤ) → (low : List ℕ) → (tenths : List ℤ) → Type 0
AllCorrected n correction high low tenths =
    (high ≡ listed n (λ i. (correction i).high))
    × ((low ≡ listed n (λ i. (correction i).low)) × (tenths ≡ listed n (λ i. (correction i).tenths)))

-- the first i of n angles have their corrections
pub record Corrected (n : ℕ) (correction : ℕ → PairCorrection) (i : ℕ) (high : List ℤ) (low : List ℕ) (tenths : List ℤ) : Type 0 where
  pub highs : Filled n (λ k. (correction k).high) i high
  pub lows : Filled n (λ k. (correction k).low) i low
  pub rounded : Filled n (λ k. (correction k).tenths) i tenths

pub corrected_none : (n : ℕ) (correction : ℕ → PairCorrection) (high : List ℤ) (low : List ℕ) (tenths : List ℤ)
    → length high ≡ n → length low ≡ n → length tenths ≡ n → Corrected n correction 0 high low tenths
corrected_none n correction high low tenths h l t =
    record { highs = filled_none n _ high h; lows = filled_none n _ low l; rounded = filled_none n _ tenths t }

pub corrected_more : {n i : ℕ} {correction : ℕ → PairCorrection} {high : List ℤ} {low : List ℕ} {tenths : List ℤ}
    {x z : ℤ} {y : ℕ} {made : PairCorrection}
    → Corrected n correction i high low tenths → i < n → made ≡ correction i → x ≡ made.high → y ≡ made.low → z ≡ made.tenths
    → Corrected n correction (i + 1) (set high i x) (set low i y) (set tenths i z)
corrected_more d b is x-is y-is z-is = record {
  highs = filled_more d.highs b (x-is ∙ ap (λ (c : PairCorrection). c.high) is);
  lows = filled_more d.lows b (y-is ∙ ap (λ (c : PairCorrection). c.low) is);
  rounded = filled_more d.rounded b (z-is ∙ ap (λ (c : PairCorrection). c.tenths) is);
}

pub corrected_all : {n i : ℕ} {correction : ℕ → PairCorrection} {high : List ℤ} {low : List ℕ} {tenths : List ℤ}
    → Corrected n correction i high low tenths → n ≤ i → AllCorrected n correction high low tenths
corrected_all d b = (filled_all d.highs b, (filled_all d.lows b, filled_all d.rounded b))

-- ---- from the sums to the corrections

pub factor_magnitude : (denominator : ℕ) → denominator ≤ most_denominator → nat_abs (factor_of denominator) ≤ 100 * most_denominator
factor_magnitude denominator few = product_magnitude (neg_ℤ (pos 100)) (pos denominator) 100 most_denominator (le_refl 100) few

module _ (denominator sides : ℕ) (p : Pair) (a b : List ℤ) where
  -- that of an angle; of all angles they are `highs_from`, `lows_from` and `tenths_from`
  abbrev pub correction : ℕ → PairCorrection
  correction i = exact_correction (exact_from denominator sides p a b i) (nat_abs (divisor_from sides p))

  pub corrections_are : {high : List ℤ} {low : List ℕ} {tenths : List ℤ} (made : ℕ → PairCorrection) → ((i : ℕ) → made i ≡ correction i)
      → AllCorrected (length a) made high low tenths → AllCorrected (length a) correction high low tenths
  corrections_are made same are = (
    are.0 ∙ listed_ext (length a) _ _ (λ i h. ap (λ (c : PairCorrection). c.high) (same i)),
    (
      are.1.0 ∙ listed_ext (length a) _ _ (λ i h. ap (λ (c : PairCorrection). c.low) (same i)),
      are.1.1 ∙ listed_ext (length a) _ _ (λ i h. ap (λ (c : PairCorrection). c.tenths) (same i)),
    ),
  )

  module _ (small : SmallPair p) where
    -- with one sine condition
    pub one_is : (divisor : ℕ) → sides ≡ 0 → pos divisor ≡ divisor_from sides p
        → (i : ℕ) → exact_correction (factor_of denominator *ℤ p.wa *ℤ vector a i) divisor ≡ correction i
    one_is divisor none is i =
        let test = eq-eqb sides 0 none in
        let sums : pos divisor ≡ p.aa = rw test at is in
        let numerator = ring 3 (λ k w a. k ⊗ w ⊗ a ≐ k ⊗ a ⊗ w) tt (factor_of denominator) p.wa (vector a i) in
        rw test (ap₂ exact_correction numerator (ap nat_abs sums))

    -- with two
    pub two_is : (factors : PairFactors) → (sides ≡ 0 → ⊥) → denominator ≤ most_denominator → Within most_reduced a → Within most_reduced b
        → value_of factors.first ≡ first_factor p.ab p.bb p.wa p.wb
        → value_of factors.second ≡ second_factor p.aa p.ab p.wa p.wb
        → value_of factors.determinant ≡ determinant p.aa p.ab p.bb
        → (i : ℕ) → pair_correction (factor_of denominator) factors a b i ≡ correction i
    two_is factors some few a_small b_small first second divisor i =
        rw (first, second, divisor, ne_eqb sides 0 some) (correction_exact bounded (nat_abs (determinant p.aa p.ab p.bb)))
      where
        bounded : Bounded (factor_of denominator) p.aa p.ab p.bb p.wa p.wb (vector a i) (vector b i)
        bounded = record {
          factor_few = factor_magnitude denominator few;
          aa_few = small.aa_small;
          ab_few = small.ab_small;
          bb_few = small.bb_small;
          wa_few = small.wa_small;
          wb_few = small.wb_small;
          a_few = le_trans (a_small i) (lit≤ tt);
          b_few = le_trans (b_small i) (lit≤ tt);
        }

    -- all angles with one
    pub by_one : (scale : ℤ) (divisor : ℕ) → scale ≡ factor_of denominator *ℤ p.wa → sides ≡ 0 → pos divisor ≡ divisor_from sides p
        → {high : List ℤ} {low : List ℕ} {tenths : List ℤ}
        → AllCorrected (length a) (λ i. exact_correction (scale *ℤ vector a i) divisor) high low tenths
        → AllCorrected (length a) correction high low tenths
    by_one scale divisor scale-is none is =
        corrections_are _ (λ i. ap (λ (z : ℤ). exact_correction (z *ℤ vector a i) divisor) scale-is ∙ one_is divisor none is i)

    -- and with two
    pub by_two : (factor : ℤ) (factors : PairFactors) → factor ≡ factor_of denominator → (sides ≡ 0 → ⊥) → denominator ≤ most_denominator
        → Within most_reduced a → Within most_reduced b
        → value_of factors.first ≡ first_factor p.ab p.bb p.wa p.wb
        → value_of factors.second ≡ second_factor p.aa p.ab p.wa p.wb
        → value_of factors.determinant ≡ determinant p.aa p.ab p.bb
        → {high : List ℤ} {low : List ℕ} {tenths : List ℤ}
        → AllCorrected (length a) (pair_correction factor factors a b) high low tenths
        → AllCorrected (length a) correction high low tenths
    by_two factor factors factor-is some few a_small b_small first second divisor =
        corrections_are _
        (λ i. ap (λ (z : ℤ). pair_correction z factors a b i) factor-is ∙ two_is factors some few a_small b_small first second divisor i)

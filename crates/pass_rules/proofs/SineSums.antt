-- The sums of a sine condition: no known side stands in the pole, and of a side condition that a figure has not every sum is 0. Assumes
-- nothing.
use Rattle.std.specs.Prelude.{false, ◌≡◌, refl, [], ℕ, ◌<◌, ℤ, pos, ◌+ℤ◌, ◌*ℤ◌, replicate}
use Rattle.vocabulary.specs.{ap, ap₂, ◌∙◌, dec_lt, arith, length-replicate, get_or-replicate, list-get_or_eq_default}
use Rattle.whole.specs.Sums.{sum, dot, vector}
use Rattle.whole.proofs.{Ring.ring, Ring.◌≐◌, Ring.◌⊕◌, Ring.◌⊗◌, Ring.constant, Sums.dot_comm, Sums.dot_zero}
use Rattle.figures.specs.declared.Figure.{Figure}
use Rattle.figures.specs.Figure.{SineCondition, angle_count, pole, side, has_side, no_sine}
use Rattle.figures.proofs.Figures.{pole_sides, side_absent}
use Rattle.pass_rules.specs.Pass.{given}
use Rattle.pass_rules.specs.SecondPass.{SineEntries, signed_in, misclosure_in, difference_squares_in, sine_misclosure, side_misclosure}

-- a list of zeros is 0 at every index
zeros_at : (n i : ℕ) → vector (replicate n (pos 0)) i ≡ pos 0
zeros_at n i = go (dec_lt i n)
  where
    go : Dec (i < n) → vector (replicate n (pos 0)) i ≡ pos 0
    go (yes h) = get_or-replicate n i (pos 0) (pos 0) h
    go (no h) = list-get_or_eq_default (replicate n (pos 0)) (pos 0) {n = i} (omega (arith, length-replicate n (pos 0)))

module _ (f : Figure) (e : SineEntries) where
  -- "W is the signed sum of log-sines", and nothing more
  pub pole_misclosure : sine_misclosure f e ≡ dot (angle_count f) (vector (pole f).signs) (given e.log_sines)
  unfolding misclosure_in dot sum
  pole_misclosure =
      let part : ℤ = dot (angle_count f) (vector (pole f).signs) (given e.log_sines) in
      ap (λ (k : ℕ). part +ℤ dot k (vector (pole f).sides) (given e.log_sides)) (pole_sides f)
      ∙ ring 1 (λ x. x ⊕ constant (pos 0) ≐ x) tt part

  -- ---- without a side condition

  nothing : dot 0 (vector []) (given e.log_sides) ≡ pos 0
  unfolding dot sum
  nothing = refl

  pub none_misclosure : misclosure_in f (no_sine f) e ≡ pos 0
  unfolding misclosure_in
  none_misclosure =
      ap₂ ◌+ℤ◌
      (dot_comm (angle_count f) (vector (no_sine f).signs) (given e.log_sines)
      ∙ dot_zero (angle_count f) (given e.log_sines) (vector (no_sine f).signs) (λ i h. zeros_at (angle_count f) i)) nothing

  none_at : (i : ℕ) → signed_in (no_sine f) e i ≡ pos 0
  unfolding signed_in
  none_at i =
      ap (λ (z : ℤ). z *ℤ vector e.differences i) (zeros_at (angle_count f) i)
      ∙ ring 1 (λ z. constant (pos 0) ⊗ z ≐ constant (pos 0)) tt (vector e.differences i)

  none_squared : difference_squares_in f (no_sine f) e ≡ pos 0
  unfolding difference_squares_in
  none_squared = dot_zero (angle_count f) (signed_in (no_sine f) e) (signed_in (no_sine f) e) (λ i h. none_at i)

  module _ (none : has_side f ≡ false) where
    pub no_misclosure : side_misclosure f e ≡ pos 0
    no_misclosure = ap (λ (c : SineCondition). misclosure_in f c e) (side_absent f none) ∙ none_misclosure

    pub no_squares : difference_squares_in f (side f) e ≡ pos 0
    no_squares = ap (λ (c : SineCondition). difference_squares_in f c e) (side_absent f none) ∙ none_squared

-- What is held of a number, and that every sum over a condition of small numbers is. Assumes nothing.
use Rattle.std.specs.Prelude.{Bool, true, false, cond, List, ◌≡◌, ℕ, ◌≤◌, ◌<◌, T, ℤ, pos, negsuc, nat_abs, length}
use Rattle.vocabulary.specs.{sym, ap, ◌∙◌, subst, le_trans, arith, lt-ltb, le-ltb, ltb-true, ltb-false, lit≤, lt_z}
use Rattle.whole.specs.{Lists.listed, Sums.vector}
use Rattle.whole.proofs.Lists.{listed_ext}
use Rattle.figures.specs.{declared.Figure.Figure, Figure.angle_count, Figure.condition_count, Numerators.condition_sum}
use Rattle.pass_steps.specs.Premises.{Within, most_summed, most_total}
use Rattle.pass_steps.specs.Steps.{fitting, held, most_held, sums_of}
use Rattle.pass_steps.proofs.{Bounds.condition_magnitude, Fitting.fits, StepLaws.listed_within}

-- −mostHeld
abbrev pub least_held : ℤ
least_held = negsuc 2147483646

pub below : (z : ℤ) → lt_z z least_held ≡ true → most_held < nat_abs z
below (pos n) e = absurd (subst T (sym e) tt)
below (negsuc n) e = omega (arith, ltb-true 2147483646 n e)

pub above : (z : ℤ) → lt_z (pos most_held) z ≡ true → most_held < nat_abs z
above (pos n) e = ltb-true most_held n e
above (negsuc n) e = absurd (subst T (sym e) tt)

pub between : (z : ℤ) → lt_z z least_held ≡ false → lt_z (pos most_held) z ≡ false → nat_abs z ≤ most_held
between (pos n) e f = ltb-false most_held n f
between (negsuc n) e f = omega (arith, ltb-false 2147483646 n e)

pub not_held : (z : ℤ) → most_held < nat_abs z → pos 0 ≡ held z
unfolding held
not_held z h = sym (ap (λ (b : Bool). cond b (pos 0) z) (lt-ltb most_held (nat_abs z) h))

pub is_held : (z : ℤ) → nat_abs z ≤ most_held → z ≡ held z
unfolding held
is_held z h = sym (ap (λ (b : Bool). cond b (pos 0) z) (le-ltb most_held (nat_abs z) h))

module _ (f : Figure) (x : List ℤ) (small : Within most_summed x) where
  total : (j : ℕ) → nat_abs (condition_sum f (vector x) j) ≤ most_total
  total = condition_magnitude f (vector x) most_summed small

  pub totals_within : Within most_total (listed (condition_count f) (condition_sum f (vector x)))
  totals_within = listed_within (condition_count f) (condition_sum f (vector x)) most_total (λ j h. total j)

  pub sums_are : (lent entry : List ℤ) {exit : List ℤ} → lent ≡ x → length lent ≡ angle_count f → length entry ≡ condition_count f
      → exit ≡ fitting (length lent) (angle_count f) (length entry) (condition_count f) (sums_of f lent) entry → exit ≡ listed (condition_count f) (condition_sum f (vector x))
  sums_are lent entry e n m made =
      made ∙ fits (length lent) (angle_count f) (length entry) (condition_count f) (sums_of f lent) entry n m ∙ ap (sums_of f) e
      ∙ listed_ext (condition_count f) _ _ (λ j h. sym (is_held (condition_sum f (vector x) j) (le_trans (total j) (lit≤ tt))))

-- The steps of a sine condition are those of the definitions. Assumes nothing.
use Rattle.std.specs.Prelude.{◌≡◌, refl, List, ℕ, ◌≤◌, ◌<◌, ℤ, pos, nat_abs, ◌+ℤ◌, ◌*ℤ◌, length, take}
use Rattle.vocabulary.specs.{sym, ap, ap₂, ◌∙◌, le_trans, lit≤, get_or-take}
use Rattle.whole.specs.{Lists.listed, Sums.dot, Sums.squares, Sums.vector}
use Rattle.whole.proofs.{Lists.listed_ext, Sums.dot_ext, Sums.squares_ext}
use Rattle.figures.specs.{declared.Figure.Figure, Figure.SineCondition, Figure.denominator, Figure.angle_count, Figure.condition_count}
use Rattle.figures.specs.Numerators.{condition_sum, numerator, reduced_coefficient}
use Rattle.figures.proofs.Figures.{Signed}
use Rattle.pass_rules.specs.{Pass.given, SecondPass.SineEntries, SecondPass.signed_in, SecondPass.reduced_in, SecondPass.difference_squares_in}
use Rattle.refusals.specs.{Order.verdict_of, Promise.stored, Ranges.most_difference, Table.misclosures_row}
use Rattle.pass_steps.specs.Premises.{Within, most_applied, most_taken}
use Rattle.pass_steps.specs.Steps.{fitting, numerators_from, sums_of}
use Rattle.pass_steps.proofs.{Fitting.fits, Held.sums_are, Judged.misclosures_pass, Judged.taken}
use Rattle.pass_second.proofs.SineBounds.{sums_magnitude, taken_magnitude}
use Rattle.pass_second.specs.{declared.sines.Sines.Sines, Sines.signed_by, Sines.reduced_from, Sines.sines_by, Sines.reduced_by}
use Rattle.pass_steps.proofs.StepLaws.{listed_at, listed_within, length_of, condition_ext, numerator_ext}

-- ---- the reduced coefficients of d

module _ (f : Figure) (d : List ℤ) where
  pub taken_are : {sums taken : List ℤ} → sums ≡ listed (condition_count f) (condition_sum f (vector d)) → taken ≡ listed (angle_count f) (numerator f (vector sums))
      → taken ≡ listed (angle_count f) (numerator f (condition_sum f (vector d)))
  taken_are e made =
      made
      ∙ ap (λ (l : List ℤ). listed (angle_count f) (numerator f (vector l))) e
      ∙ listed_ext (angle_count f) _ _ (λ i h. numerator_ext f _ (condition_sum f (vector d)) (listed_at (condition_count f) (condition_sum f (vector d))) i)

  module _ (small : Within most_difference d) (n : length d ≡ angle_count f) where
    -- as they are lent
    pub taken_made : (lent entry : List ℤ) {sums taken : List ℤ} → length lent ≡ condition_count f
        → sums ≡ fitting (length d) (angle_count f) (length lent) (condition_count f) (sums_of f d) lent
        → length entry ≡ angle_count f
        → taken ≡ fitting (length sums) (condition_count f) (length entry) (angle_count f)
        (stored (verdict_of (misclosures_row most_applied sums)) (numerators_from f sums) entry) entry
        → taken ≡ listed (angle_count f) (numerator f (condition_sum f (vector d)))
    taken_made lent entry {sums} many summed room made =
        taken_are sums_listed (made ∙ fits _ _ _ _ _ _ (length_of _ _ sums_listed) room ∙ taken _ _ _ (misclosures_pass most_applied sums sums_small))
      where
        sums_listed : sums ≡ listed (condition_count f) (condition_sum f (vector d))
        sums_listed = sums_are f d (λ i. le_trans (small i) (lit≤ tt)) d lent refl n many summed

        sums_small : Within most_applied sums
        sums_small j =
            rw sums_listed (listed_within (condition_count f) (condition_sum f (vector d)) most_applied
            (λ k b. le_trans (sums_magnitude f (vector d) small k) (lit≤ tt)) j)

    pub taken_small : {taken : List ℤ} → taken ≡ listed (angle_count f) (numerator f (condition_sum f (vector d))) → Within most_taken taken
    taken_small is i =
        rw is (listed_within (angle_count f) (numerator f (condition_sum f (vector d))) most_taken (λ k b. taken_magnitude f (vector d) small k) i)

  module _ (D : ℕ) (taken : List ℤ) (whole : D ≡ denominator f) (n : length d ≡ angle_count f) (e : taken ≡ listed (angle_count f) (numerator f (condition_sum f (vector d)))) where
    reduced_at : (i : ℕ) → i < angle_count f → reduced_from D d taken i ≡ reduced_coefficient f (vector d) i
    unfolding reduced_coefficient
    reduced_at i h =
        ap₂ (λ (k : ℕ) (z : ℤ). pos k *ℤ vector d i +ℤ z) whole
        (ap (λ (l : List ℤ). vector l i) e ∙ listed_at (angle_count f) (numerator f (condition_sum f (vector d))) i h)

    pub reduced_are : listed (length d) (reduced_from D d taken) ≡ listed (angle_count f) (reduced_coefficient f (vector d))
    reduced_are = ap (λ (k : ℕ). listed k (reduced_from D d taken)) n ∙ listed_ext (angle_count f) _ _ reduced_at

    pub squares_are : squares (length d) (reduced_from D d taken) ≡ squares (angle_count f) (reduced_coefficient f (vector d))
    squares_are = ap (λ (k : ℕ). squares k (reduced_from D d taken)) n ∙ squares_ext (angle_count f) _ _ reduced_at

-- ---- the reduced coefficients of what a rule lists

module _ (f : Figure) (d : List ℤ) (g : ℕ → ℤ) (e : d ≡ listed (angle_count f) g) where
  d_at : (i : ℕ) → i < angle_count f → vector d i ≡ g i
  d_at i h = ap (λ (l : List ℤ). vector l i) e ∙ listed_at (angle_count f) g i h

  own_at : (i : ℕ) → i < angle_count f → reduced_coefficient f (vector d) i ≡ reduced_coefficient f g i
  unfolding reduced_coefficient
  own_at i h =
      ap₂ (λ (a b : ℤ). pos (denominator f) *ℤ a +ℤ b) (d_at i h)
      (numerator_ext f (condition_sum f (vector d)) (condition_sum f g) (condition_ext f (vector d) g d_at) i)

  pub own_reduced : listed (angle_count f) (reduced_coefficient f (vector d)) ≡ listed (angle_count f) (reduced_coefficient f g)
  own_reduced = listed_ext (angle_count f) _ _ own_at

  pub own_squares : squares (angle_count f) (reduced_coefficient f (vector d)) ≡ squares (angle_count f) (reduced_coefficient f g)
  own_squares = squares_ext (angle_count f) _ _ own_at

  pub own_small : (most : ℕ) → ((i : ℕ) → i < angle_count f → nat_abs (g i) ≤ most) → Within most d
  own_small most small i = rw e (listed_within (angle_count f) g most small i)

-- ---- what the signs of a sine condition give

module _ (f : Figure) (c : SineCondition) (signs : List ℤ) (own : take (angle_count f) signs ≡ c.signs) (e : SineEntries) where
  sign_at : (i : ℕ) → i < angle_count f → vector signs i ≡ vector c.signs i
  sign_at i h = sym (get_or-take (angle_count f) signs i (pos 0) h) ∙ ap (λ (l : List ℤ). vector l i) own

  pub sign_small : Signed f c → (i : ℕ) → i < angle_count f → nat_abs (vector signs i) ≤ 1
  sign_small signed i h = rw (sign_at i h) (signed.sign_small i)

  difference_at : (i : ℕ) → i < angle_count f → signed_by signs e.differences i ≡ signed_in c e i
  unfolding signed_in
  difference_at i h = ap (λ (z : ℤ). z *ℤ vector e.differences i) (sign_at i h)

  in_condition : (i : ℕ) → i < angle_count f → reduced_coefficient f (signed_by signs e.differences) i ≡ reduced_in f c e i
  unfolding reduced_in reduced_coefficient
  in_condition i h =
      ap₂ (λ (a b : ℤ). pos (denominator f) *ℤ a +ℤ b) (difference_at i h)
      (numerator_ext f _ _ (condition_ext f (signed_by signs e.differences) (signed_in c e) difference_at) i)

  -- the sums are those of the condition, and W is what the angles give of it
  abbrev pub angles_part : ℤ
  angles_part = dot (angle_count f) (vector c.signs) (given e.log_sines)

  abbrev pub condition_sines : Sines
  condition_sines = record { misclosure = angles_part; squares = squares (angle_count f) (reduced_in f c e); difference_squares = difference_squares_in f c e }

  pub sines_are : sines_by f signs e.log_sines e.differences ≡ condition_sines
  unfolding difference_squares_in
  sines_are = λ k. record { misclosure = w k; squares = s k; difference_squares = q k }
    where
      w : dot (angle_count f) (vector signs) (given e.log_sines) ≡ angles_part
      w = dot_ext (angle_count f) (vector signs) (given e.log_sines) (vector c.signs) (given e.log_sines) sign_at (λ i h. refl)

      s : squares (angle_count f) (reduced_coefficient f (signed_by signs e.differences)) ≡ squares (angle_count f) (reduced_in f c e)
      s = squares_ext (angle_count f) _ _ in_condition

      q : squares (angle_count f) (signed_by signs e.differences) ≡ squares (angle_count f) (signed_in c e)
      q = squares_ext (angle_count f) _ _ difference_at

  pub reduced_by_lem : reduced_by f signs e.differences ≡ listed (angle_count f) (reduced_in f c e)
  reduced_by_lem = listed_ext (angle_count f) _ _ in_condition

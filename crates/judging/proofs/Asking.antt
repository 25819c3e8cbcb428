-- A search by index, as the library has it, says the lowest place at which a row's case holds.
use Rattle.std.specs.Prelude.{ℕ, zero, suc, ◌+◌, ◌≤◌, ◌<◌, Bool, true, false, List, Option, None, Some, ◌≡◌, refl, length, get_or, position, ℤ, pos, ◌+ℤ◌}
use Rattle.vocabulary.specs.{sym, ap, ◌∙◌, add-one, zero-add, arith}
use Rattle.std.proofs.lemmas.List.Quantifiers.{position-Some}
use Rattle.std.proofs.lemmas.Bool.Decides.{nat_tests}
use Rattle.std.proofs.lemmas.Grind.{common_steps}
use Rattle.std.proofs.lemmas.List.Sums.{fails_before_first}
use Rattle.refusals.specs.Order.{lowest_place}
use Rattle.refusals.proofs.Places.{lowest_is, lowest_is_nowhere}
use Rattle.std.specs.List.{enumerate_from}
use Rattle.std.proofs.lemmas.List.FromFn.{length-enumerate_from, get_or-enumerate_from}
use Rattle.whole.proofs.Lists.{length_listed, get_or_listed}
use Rattle.refusals.specs.Numbers.{numbered}
use Rattle.refusals.specs.Questions.{asked, outside, outside_signed}
use Rattle.refusals.specs.Ranges.{least_angle, most_angle}
use Rattle.judging.specs.Searches.{placed, lowest_outside, lowest_signed_outside, results_of}

module _ {X : Type 0} (test : X → Bool) (d : X) (fails : ℕ → Bool) (xs : List X)
    (same : (i : ℕ) → i < length xs → fails (suc i) ≡ test (get_or xs i d)) where
  none_passes : position test xs ≡ None → (i : ℕ) → i < length xs → test (get_or xs i d) ≡ false
  none_passes e i l = grind (arith, common_steps, nat_tests, fails_before_first test xs i d)

  at : (found : Option ℕ) → position test xs ≡ found → placed found ≡ lowest_place fails (length xs)
  at None e = sym ((lowest_is_nowhere fails (length xs)).1 (passes e))
    where
      passes : position test xs ≡ None → (q : ℕ) → 1 ≤ q → q ≤ length xs → fails q ≡ false
      passes e zero one l = elim one [ ]
      passes e (suc i) one l = same i l ∙ none_passes e i l
  at (Some i) e =
      let some = position-Some test xs i d e in
      sym ((lowest_is fails (length xs) (i + 1)).1 (record {
        from_one = omega arith;
        within = omega arith;
        fails_there = rw add-one (same i some.0 ∙ some.1);
        passes_below = λ q one below. lower some q one below;
      }))
    where
      lower : ((i < length xs) × (test (get_or xs i d) ≡ true) × ((k : ℕ) → k < i → test (get_or xs k d) ≡ false)) → (q : ℕ) → 1 ≤ q → q < i + 1 → fails q ≡ false
      lower some zero one below = elim one [ ]
      lower some (suc k) one below = same k (omega arith) ∙ some.2 k (omega arith)

  pub searched : placed (position test xs) ≡ lowest_place fails (length xs)
  searched = at (position test xs) refl

pub outside_searched : (values : List ℕ) (least most : ℕ) → placed (position (λ value. asked (outside least most value)) values) ≡ lowest_outside values least most
outside_searched values least most = searched (λ value. asked (outside least most value)) 0 _ values (λ i l. refl)

pub signed_searched : (values : List ℤ) (least most : ℤ) → placed (position (λ value. asked (outside_signed least most value)) values) ≡ lowest_signed_outside values least most
signed_searched values least most = searched (λ value. asked (outside_signed least most value)) (pos 0) _ values (λ i l. refl)

-- an angle with its correction, by the angle's index
result_at : (angles : List ℕ) (corrections : List ℤ) (i : ℕ) → i < length angles
    → get_or (results_of angles corrections) i (pos 0)
    ≡ pos (get_or (enumerate_from 0 angles) i (0, 0)).1 +ℤ get_or corrections (get_or (enumerate_from 0 angles) i (0, 0)).0 (pos 0)
result_at angles corrections i l =
    get_or_listed (length angles) (λ i. pos (get_or angles i 0) +ℤ get_or corrections i (pos 0)) i (pos 0) l
    ∙ ap (λ (n : ℕ). pos (get_or angles i 0) +ℤ get_or corrections n (pos 0)) (sym (zero-add i))
    ∙ ap (λ (pair : ℕ × ℕ). pos pair.1 +ℤ get_or corrections pair.0 (pos 0)) (sym (get_or-enumerate_from 0 angles i (0, 0) l))

pub results_searched : (angles : List ℕ) (corrections : List ℤ)
    → placed (position {X = ℕ × ℕ} (λ angle. asked (outside_signed (pos least_angle) (pos most_angle) (pos angle.1 +ℤ get_or corrections angle.0 (pos 0))))
    (enumerate_from 0 angles)) ≡ lowest_signed_outside (results_of angles corrections) (pos least_angle) (pos most_angle)
results_searched angles corrections =
    searched (λ (angle : ℕ × ℕ). asked (outside_signed (pos least_angle) (pos most_angle) (pos angle.1 +ℤ get_or corrections angle.0 (pos 0)))) (0, 0)
    (λ p. asked (outside_signed (pos least_angle) (pos most_angle) (numbered (results_of angles corrections) p (pos 0)))) (enumerate_from 0 angles)
    (λ i l. ap (λ (z : ℤ). asked (outside_signed (pos least_angle) (pos most_angle) z))
    (result_at angles corrections i (omega (arith, l, length-enumerate_from 0 angles))))
    ∙ ap (lowest_place (λ p. asked (outside_signed (pos least_angle) (pos most_angle) (numbered (results_of angles corrections) p (pos 0)))))
    (length-enumerate_from 0 angles ∙ sym (length_listed (length angles) _))

-- ---- the steps of a loop that asks the places 1, 2, .. in rising order: the case holds at none of those asked so far

module _ (fails : ℕ → Bool) where
  pub none_asked : lowest_place fails 0 ≡ None
  unfolding lowest_place
  none_asked = refl

  pub one_passes : (asked : ℕ) → lowest_place fails asked ≡ None → fails (suc asked) ≡ false → lowest_place fails (asked + 1) ≡ None
  unfolding lowest_place
  one_passes asked none passes = rw (add-one, none, passes)

  pub one_fails : (asked count : ℕ) → lowest_place fails asked ≡ None → fails (suc asked) ≡ true → asked < count
      → Some (asked + 1) ≡ lowest_place fails count
  one_fails asked count none fail l =
      sym ((lowest_is fails count (asked + 1)).1 (record {
        from_one = omega arith;
        within = omega arith;
        fails_there = rw add-one fail;
        passes_below = λ q one below. (lowest_is_nowhere fails asked).0 none q one (omega arith);
      }))

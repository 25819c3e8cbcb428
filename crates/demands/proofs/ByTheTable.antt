-- One law for every operation: an answer that tells what its order is judged to be is by the table. Assumes nothing.
use Rattle.std.specs.Prelude.{Err, Ok}
use Rattle.refusals.specs.Numbers.{Verdict}
use Rattle.std.specs.Prelude.{List, ◌≡◌, refl, T}
use Rattle.vocabulary.specs.{sym, ap, ◌∙◌}
use Rattle.refusals.specs.{declared.Refusal.Refusal, Numbers.Told, Numbers.told, Numbers.verdict_told}
use Rattle.refusals.specs.Order.{Row, all_in_table, judged}
use Rattle.refusals.proofs.Rows.{answers_exactly, done_exactly, passed_told, answered_stands}
use Rattle.demands.specs.Demand1.{ByTheTable}

module _ {R L : Type 0} (tell : R → Told) (rows : List Row) (ok : T (all_in_table rows)) (answer : R) (entry exit : L)
    (tells : tell answer ≡ verdict_told (judged rows)) (kept : (refusal : Refusal) → judged rows ≡ Err refusal → exit ≡ entry) where
  unless_passed : (v : Verdict) → judged rows ≡ v → (tell answer ≡ told 0 0 → ⊥) → exit ≡ entry
  unless_passed (Ok tt) e some = absurd (some (tells ∙ ap verdict_told e))
  unless_passed (Err refusal) e some = kept refusal e

  pub by_the_table : ByTheTable tell rows answer entry exit
  by_the_table = record {
    answers = λ k p. (
      λ e. (answers_exactly rows ok k p).0 (sym tells ∙ e),
      λ says. tells ∙ (answers_exactly rows ok k p).1 says,
    );
    done = (
      λ e. (done_exactly rows ok).0 (passed_told (judged rows) (sym tells ∙ e)),
      λ none. tells ∙ ap verdict_told ((done_exactly rows ok).1 none),
    );
    only_these = λ k p e. answered_stands rows k p ((answers_exactly rows ok k p).0 (sym tells ∙ e));
    unchanged = unless_passed (judged rows) refl;
  }

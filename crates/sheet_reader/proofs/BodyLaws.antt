-- What the reader promises once kind and figure are known, from what its parts answer. Assumes nothing.
use Rattle.std.specs.Prelude.{ℕ, List, ◌≡◌, refl, Err, Ok}
use Rattle.refusals.specs.Numbers.{Verdict}
use Rattle.sheet_layout.specs.Head.{Look, headed}
use Rattle.sheet_rules.specs.Sheet.{Reading}
use Rattle.vocabulary.specs.{sym, ap, subst, ◌∙◌}
use Rattle.refusals.specs.{declared.Refusal.Refusal, Order.judged, Promise.Promised, Promise.stored}
use Rattle.refusals.proofs.{Nowhere.same_lengths, Rows.none_holds, InSteps.judged_after_pass, InSteps.judged_after_failure}
use Rattle.figures.specs.{declared.Figure.Figure}
use Rattle.sheet_layout.specs.{declared.Kind.Kind, Head.look_of}
use Rattle.sheet_rules.specs.Sheet.{values_read}
use Rattle.sheet_rules.specs.Judging.{own_lengths, value_rows, body_rows, reading_after, after_reading}
use Rattle.sheet_rules.specs.Promises.{read_answer, ReaderPromise}
use Rattle.sheet_rules.specs.Lent.{Slices, slices_of, lengths_lent}
use Rattle.sheet_rules.proofs.Accepted.{head_refused, head_found, kept}
use Rattle.sheet_reader.specs.Parts.{shape_rows, answered, ValuesPromise, body_answer, BodyPromise}

module _ (kind : Kind) (f : Figure) (s : List ℕ) (entry : Slices) where
  refused : (r : Refusal) {reading : Reading} → reading ≡ Err r → judged (body_rows kind f s (lengths_lent entry)) ≡ Err r
      → BodyPromise kind f s entry reading entry
  refused r is e =
      let answer : body_answer kind f s entry ≡ Err r = ap (λ (v : Verdict). reading_after v kind f s) e in
      record { answered = is ∙ sym answer; leaves = kept r answer (λ k g. slices_of (values_read k g s)) entry }

  pub shape_refused : {shape : Verdict} {reading : Reading} (r : Refusal) → shape ≡ judged (shape_rows kind f s (lengths_lent entry)) → shape ≡ Err r
      → reading ≡ Err r → BodyPromise kind f s entry reading entry
  unfolding body_rows
  shape_refused r is e answer =
      refused r answer (judged_after_failure (shape_rows kind f s (lengths_lent entry)) (value_rows kind (values_read kind f s)) r (sym is ∙ e))

  module _ {shape : Verdict} (is-shape : shape ≡ judged (shape_rows kind f s (lengths_lent entry))) (passes : shape ≡ Ok tt) where
    pub right_lengths : lengths_lent entry ≡ own_lengths kind f
    right_lengths = same_lengths (lengths_lent entry) (own_lengths kind f) (none_holds (shape_rows kind f s (lengths_lent entry)) (sym is-shape ∙ passes)).1.0

    -- and what was taken decides
    rows : judged (value_rows kind (values_read kind f s)) ≡ judged (body_rows kind f s (lengths_lent entry))
    unfolding body_rows
    rows = sym (judged_after_pass (shape_rows kind f s (lengths_lent entry)) (value_rows kind (values_read kind f s)) (sym is-shape ∙ passes))

    pub values_decide : {reading : Reading} {exit : Slices}
        → ValuesPromise kind f (values_read kind f s).limit_or_tolerance (slices_of (values_read kind f s)) entry reading exit
        → BodyPromise kind f s entry reading exit
    values_decide promise = record {
      answered = promise.answered ∙ ap (λ (v : Verdict). answered v kind f (values_read kind f s).limit_or_tolerance) rows ∙ read decided;
      leaves = promise.leaves ∙ ap (λ (v : Verdict). stored v (slices_of (values_read kind f s)) entry) rows ∙ left decided;
    }
      where
        decided : Verdict
        decided = judged (body_rows kind f s (lengths_lent entry))

        read : (v : Verdict) → answered v kind f (values_read kind f s).limit_or_tolerance ≡ reading_after v kind f s
        read (Ok tt) = refl
        read (Err r) = refl

        left : (v : Verdict)
            → stored v (slices_of (values_read kind f s)) entry ≡ after_reading (reading_after v kind f s) (λ k g. slices_of (values_read k g s)) entry
        left (Ok tt) = refl
        left (Err r) = refl

-- ---- the reader, by what a look at the sheet has found

module _ (s : List ℕ) (entry : Slices) where
  pub head_refuses : {found : Look} {reading : Reading} (r : Refusal) → found ≡ look_of s → found ≡ Err r → reading ≡ Err r
      → ReaderPromise s entry reading entry
  head_refuses r is e same =
      let answer : read_answer s entry ≡ Err r = head_refused s (lengths_lent entry) r (sym is ∙ e) in
      record { answered = same ∙ sym answer; leaves = kept r answer (λ k g. slices_of (values_read k g s)) entry }

  pub body_reads : {found : Look} {reading : Reading} {exit : Slices} (kind : Kind) (f : Figure) → found ≡ look_of s → found ≡ headed kind f
      → BodyPromise kind f s entry reading exit → ReaderPromise s entry reading exit
  body_reads {reading} {exit} kind f is e promise =
      subst (λ (answer : Reading). Promised answer (after_reading answer (λ k g. slices_of (values_read k g s)) entry) reading exit)
      (sym (head_found s (lengths_lent entry) kind f (sym is ∙ e))) promise

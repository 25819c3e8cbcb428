-- What the writer promises, from what its parts answer. Assumes nothing.
use Rattle.std.specs.Prelude.{ℕ, List, ◌≡◌, length, Err, Ok}
use Rattle.refusals.specs.Numbers.{Verdict}
use Rattle.sheet_layout.specs.Head.{Look, headed}
use Rattle.vocabulary.specs.{sym, ap, ◌∙◌}
use Rattle.refusals.specs.{declared.Refusal.Refusal, Order.judged}
use Rattle.refusals.proofs.Rows.{none_holds}
use Rattle.figures.specs.declared.Figure.{Figure}
use Rattle.sheet_layout.specs.{declared.Kind.Kind, Layout.sheet_size}
use Rattle.sheet_layout.specs.Head.{head_of}
use Rattle.sheet_rules.specs.{Sheet.Values, Sheet.packed_sheet, Promises.WriterPromise}
use Rattle.sheet_rules.specs.Judging.{lengths_given, own_lengths, given_rows, writing_of, after_writing}
use Rattle.sheet_rules.proofs.Accepted.{right_lengths, writer_refused, writer_found, sheet_kept, written_found}
use Rattle.sheet_writer.specs.Parts.{GivenPromise}

-- ---- once kind and figure are known

module _ (kind : Kind) (f : Figure) (v : Values) (entry : List ℕ) where
  abbrev verdict : Verdict
  verdict = judged (given_rows kind f v (length entry))

  pub refused : (r : Refusal) {answer : Verdict} → answer ≡ Err r → verdict ≡ Err r → GivenPromise kind f v entry answer entry
  refused r is e = record {
    answered = is ∙ sym e;
    leaves = sym (ap (λ (x : Verdict). after_writing x (packed_sheet kind f v) entry) e);
  }

  module _ (passes : verdict ≡ Ok tt) where
    pub right : (lengths_given v ≡ own_lengths kind f) × (length entry ≡ sheet_size kind f)
    unfolding given_rows
    right = right_lengths kind f v (length entry) (none_holds (given_rows kind f v (length entry)) passes).0

    pub written : {exit : List ℕ} → exit ≡ packed_sheet kind f v → GivenPromise kind f v entry (Ok tt) exit
    written packed = record {
      answered = sym passes;
      leaves = packed ∙ sym (ap (λ (x : Verdict). after_writing x (packed_sheet kind f v) entry) passes);
    }

-- ---- by what the numbers name

module _ (kind code n : ℕ) (v : Values) (entry : List ℕ) {found : Look} (is : found ≡ head_of kind code n) where
  pub head_refuses : (r : Refusal) {given : Verdict} → found ≡ Err r → given ≡ Err r → WriterPromise kind code n v entry given entry
  head_refuses r e same =
      let answer : writing_of kind code n v (length entry) ≡ Err r = writer_refused kind code n v (length entry) r (sym is ∙ e) in
      record { answered = same ∙ sym answer; leaves = sym (sheet_kept kind code n v entry r answer) }

  pub given_writes : (k : Kind) (f : Figure) {answer : Verdict} {exit : List ℕ} → found ≡ headed k f
      → GivenPromise k f v entry answer exit → WriterPromise kind code n v entry answer exit
  given_writes k f e promise =
      let answer : writing_of kind code n v (length entry) ≡ judged (given_rows k f v (length entry)) =
      writer_found kind code n v (length entry) k f (sym is ∙ e) in
      record {
        answered = promise.answered ∙ sym answer;
        leaves =
            promise.leaves
            ∙ sym (written_found kind code n v entry k f (sym is ∙ e) ∙ ap (λ (x : Verdict). after_writing x (packed_sheet k f v) entry) answer);
      }

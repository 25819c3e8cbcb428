-- `adjust::console::print_report` meets its contract: every text has room in 2048 bytes, and what is written out is what the report wrote.
use Rattle.std.specs.Prelude.{◌≡◌, List, ℕ, length, replicate}
use Rattle.vocabulary.specs.{sym, ◌∙◌, le_of_eq, arith, length-replicate}
use Rattle.lines.specs.Lines.{longest_text}
use Rattle.std.specs.Prelude.{Some, None}
use Rattle.report.specs.Report.{report_text, has_room, reported_of}
use Rattle.report.proofs.Reports.{always_written}
use Rattle.adjust.proofs.console.print_report.Goals as goal

written : (sheet : List ℕ) → reported_of (has_room (report_text sheet) (replicate longest_text 0)) (report_text sheet) ≡ Some (length (report_text sheet))
written sheet = always_written sheet (replicate longest_text 0) (le_of_eq (sym (length-replicate {A = ℕ} longest_text 0)))

never_full : (sheet : List ℕ) → reported_of (has_room (report_text sheet) (replicate longest_text 0)) (report_text sheet) ≡ None → ⊥
never_full sheet told =
    let clash : ◌≡◌ {A = ℕ} 0 1 = cc (written sheet, told) in
    omega arith

pub returns-in-None : goal.returns-in-None
returns-in-None c = absurd (never_full c.args.sheet.now (sym c.report.ensures.promise.answered ∙ c.in-None.is))

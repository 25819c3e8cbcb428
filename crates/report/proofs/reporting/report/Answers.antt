-- the text laid by itself, and then where it has room
use Rattle.std.proofs.Common.{◌≡◌, ◌∙◌, ◌++◌, List, ℕ, drop, take, sym, subst, length-take-le}
use Rattle.std.specs.Prelude.{Some}
use Rattle.text.specs.Text.{laid}
use Rattle.report.specs.Report.{ReportedPromise, report_text}
use Rattle.report.proofs.{Longest.text_fits, Room.written_there, Room.laid_there}
use Rattle.report.proofs.Reports.{end_within, none_written, all_written}
use Rattle.report.proofs.reporting.report.Goals as goal

pub returns-then-end-lent : goal.returns-then-end-lent
returns-then-end-lent c = record { promise = none_written c.args.sheet.now c.args.lent.now c.worked_lines-end.ensures c.if-end-lent.true }

pub slice_bounds-lay-end : goal.slice_bounds-lay-end
slice_bounds-lay-end c =
    sym (length-take-le c.worked_lines-end.result c.worked_lines-end.new.buffer (end_within c.args.sheet.now c.args.lent.now c.worked_lines-end.ensures))

pub returns : goal.returns
returns c =
    let sheet = c.args.sheet.now in
    let lent = c.args.lent.now in
    let end = c.worked_lines-end.result in
    let buffer = c.worked_lines-end.new.buffer in
    let fits = text_fits sheet in
    let there : take end buffer ++ drop end lent ≡ laid lent 0 (take end buffer) =
    written_there (report_text sheet) buffer end c.worked_lines-end.ensures fits lent
    ∙ sym (laid_there (report_text sheet) buffer end c.worked_lines-end.ensures fits lent c.if-end-lent.false) in
    record {
      promise = subst (λ (l : List ℕ). ReportedPromise sheet lent (Some end) l) (there ∙ sym c.lay.ensures)
          (all_written sheet lent c.worked_lines-end.ensures c.if-end-lent.false);
    }

-- Demand 1 of every public operation, by one law. Assumes nothing.
use Rattle.std.specs.Prelude.{Err}
use Rattle.std.specs.Prelude.{List, [], ◌∷◌, ◌≡◌, refl, ℤ, length}
use Rattle.vocabulary.specs.{ap, ◌∙◌}
use Rattle.refusals.specs.{declared.Refusal.Refusal, Numbers.verdict_told, Order.judged}
use Rattle.figures.specs.Figure.{figure_of}
use Rattle.sheet_layout.specs.Head.{head_rows, look_of, look_told}
use Rattle.sheet_rules.specs.{Judging.reader_rows, Judging.reading_told, Judging.writer_rows, Judging.writing_of, Lent.lengths_lent}
use Rattle.sheet_rules.proofs.Refusals.{head_in_table, head_tells, reader_in_table, reader_tells, writer_in_table, kept_reading, kept_written}
use Rattle.pass_rules.specs.{FirstPass.first_pass_verdict, SecondPass.second_told, SecondPass.second_pass_verdict}
use Rattle.pass_rules.specs.Promises.{FirstGiven, FirstLent, first_lengths_lent, first_values, first_left, first_rows_of, second_lengths_lent, second_values, second_rows_of}
use Rattle.pass_rules.proofs.Refusals.{first_in_table, second_in_table, second_tells}
use Rattle.closing.specs.{Promises.closing_rows, Promises.closing_answer, Promises.closing_left, Promises.check_rows, Rules.choice_of}
use Rattle.closing.proofs.Refusing.{closing_in_table, check_in_table}
use Rattle.controller.specs.Answer.{answer_told}
use Rattle.controller.specs.Promises.{look_rows, look_head, read_rows, read_values, sums_rows, sums_values, report_rows, text_lent, text_laid}
use Rattle.controller.proofs.{Answers.answer_tells, Lengths.kept_told, Lengths.kept_head, Lengths.kept_named}
use Rattle.controller.proofs.PlaceBounds.{look_in_table, look_within, read_in_table, read_within, write_within, first_within, closing_within, check_within, sums_in_table, sums_within, report_within}
use Rattle.report.specs.Report.{report_text}
use Rattle.demands.specs.Demand1.{LookAt, ReadSheet, WriteSheet, FirstPass, SecondPass, ClosingCorrections, CheckClosing, LookC, ReadC, WriteC, FirstPassC, SecondPassC, ReportC, ClosingC, CheckClosingC}
use Rattle.demands.proofs.ByTheTable.{by_the_table}

-- ---- the head of a sheet, the reader, the writer

pub look_at : LookAt
look_at sheet answer e =
    by_the_table look_told (head_rows sheet) (head_in_table sheet) answer (tt {0}) (tt {0})
    (ap look_told e ∙ head_tells sheet) (λ refusal failed. refl)

pub read_sheet : ReadSheet
read_sheet sheet entry exit answer promise =
    by_the_table reading_told (reader_rows sheet (lengths_lent entry)) (reader_in_table sheet (lengths_lent entry)) answer entry exit
    (ap reading_told promise.answered ∙ reader_tells sheet (lengths_lent entry))
    (λ refusal failed. promise.leaves ∙ kept_reading sheet (lengths_lent entry) failed _ entry)

pub write_sheet : WriteSheet
unfolding writing_of
write_sheet kind code n v entry exit answer promise =
    by_the_table verdict_told (writer_rows kind code n v (length entry)) (writer_in_table kind code n v (length entry)) answer entry exit
    (ap verdict_told promise.answered)
    (λ refusal failed. promise.leaves ∙ kept_written kind code n v (length entry) entry refl failed)

-- ---- the passes

kept_first : (given : FirstGiven) (entry : FirstLent) (refusal : Refusal) → judged (first_rows_of given entry) ≡ Err refusal
    → first_left given entry ≡ entry
unfolding first_pass_verdict
kept_first given entry refusal failed =
    kept_named (figure_of given.code given.n) (judged (first_rows_of given entry)) refusal (λ f. first_values f given) entry
    (ap verdict_told failed)

pub first_pass : FirstPass
unfolding first_pass_verdict
first_pass given entry exit answer promise =
    by_the_table verdict_told (first_rows_of given entry)
    (first_in_table given.code given.n given.limit given.angles given.rounds given.fixed (first_lengths_lent given entry)) answer entry exit
    (ap verdict_told promise.answered)
    (λ refusal failed. promise.leaves ∙ kept_first given entry refusal failed)

pub second_pass : SecondPass
unfolding second_pass_verdict
second_pass given entry exit answer promise =
    by_the_table second_told (second_rows_of given entry)
    (second_in_table given.code given.n given.tolerance given.angles given.rounds given.entries (second_lengths_lent given entry))
    answer entry exit
    (ap second_told promise.answered
    ∙ second_tells given.code given.n given.tolerance given.angles given.rounds given.entries (second_lengths_lent given entry))
    (λ refusal failed. promise.leaves
    ∙ kept_named (figure_of given.code given.n) (judged (second_rows_of given entry)) refusal (λ f. second_values f given) entry
    (ap verdict_told failed))

-- ---- the rounding that closes, and its check

kept_choice : (given : FirstGiven) (entry : List ℤ) (refusal : Refusal) → closing_answer given entry ≡ Err refusal → closing_left given entry ≡ entry
kept_choice given entry refusal failed =
    kept_named (figure_of given.code given.n) (closing_answer given entry) refusal (λ f. choice_of f given.angles given.fixed) entry
    (ap verdict_told failed)

pub closing_corrections : ClosingCorrections
closing_corrections given entry exit answer promise =
    by_the_table verdict_told (closing_rows given entry) (closing_in_table given entry) answer entry exit
    (ap verdict_told promise.answered) (λ refusal failed. promise.leaves ∙ kept_choice given entry refusal failed)

pub check_closing : CheckClosing
check_closing given offered answer e =
    by_the_table verdict_told (check_rows given offered) (check_in_table given offered) answer (tt {0}) (tt {0})
    (ap verdict_told e) (λ refusal failed. refl)

-- ---- the same operations for C

pub look_c : LookC
look_c sheet entry exit answer promise =
    by_the_table answer_told (look_rows sheet entry) (look_in_table sheet entry) answer entry exit
    (answer_tells (look_rows sheet entry) (look_in_table sheet entry) (look_within sheet entry) promise.answered)
    (λ refusal failed. promise.leaves
    ∙ kept_head (look_of sheet) (judged (look_rows sheet entry)) refusal look_head entry (ap verdict_told failed))

pub read_c : ReadC
read_c sheet entry exit answer promise =
    by_the_table answer_told (read_rows sheet entry) (read_in_table sheet entry) answer entry exit
    (answer_tells (read_rows sheet entry) (read_in_table sheet entry) (read_within sheet entry) promise.answered)
    (λ refusal failed. promise.leaves
    ∙ kept_head (look_of sheet) (judged (read_rows sheet entry)) refusal (λ kind f. read_values kind f sheet) entry (ap verdict_told failed))

pub write_c : WriteC
write_c kind code n v entry exit answer promise =
    by_the_table answer_told (writer_rows kind code n v (length entry)) (writer_in_table kind code n v (length entry)) answer entry exit
    (answer_tells (writer_rows kind code n v (length entry)) (writer_in_table kind code n v (length entry))
    (write_within kind code n v (length entry)) promise.answered)
    (λ refusal failed. promise.leaves ∙ kept_written kind code n v (length entry) entry refl failed)

pub first_pass_c : FirstPassC
first_pass_c given entry exit answer promise =
    let known = first_in_table given.code given.n given.limit given.angles given.rounds given.fixed (first_lengths_lent given entry) in
    by_the_table answer_told (first_rows_of given entry) known answer entry exit
    (answer_tells (first_rows_of given entry) known (first_within given entry) promise.answered)
    (λ refusal failed. promise.leaves ∙ kept_first given entry refusal failed)

pub second_pass_c : SecondPassC
second_pass_c given entry exit answer promise =
    by_the_table answer_told (sums_rows given entry) (sums_in_table given entry) answer entry exit
    (answer_tells (sums_rows given entry) (sums_in_table given entry) (sums_within given entry) promise.answered)
    (λ refusal failed. promise.leaves
    ∙ kept_named (figure_of given.code given.n) (judged (sums_rows given entry)) refusal (λ f. sums_values f given) entry
    (ap verdict_told failed))

pub report_c : ReportC
report_c sheet entry exit answer promise =
    by_the_table answer_told (report_rows sheet entry) tt answer entry exit
    (answer_tells (report_rows sheet entry) tt (report_within sheet entry) promise.answered)
    (λ refusal failed. promise.leaves
    ∙ kept_told (judged (report_rows sheet entry)) refusal (text_lent (text_laid sheet entry.text) (length (report_text sheet) ∷ [])) entry
    (ap verdict_told failed))

pub closing_c : ClosingC
closing_c given entry exit answer promise =
    by_the_table answer_told (closing_rows given entry) (closing_in_table given entry) answer entry exit
    (answer_tells (closing_rows given entry) (closing_in_table given entry) (closing_within given entry) promise.answered)
    (λ refusal failed. promise.leaves ∙ kept_choice given entry refusal failed)

pub check_closing_c : CheckClosingC
check_closing_c given offered answer e =
    by_the_table answer_told (check_rows given offered) (check_in_table given offered) answer (tt {0}) (tt {0})
    (answer_tells (check_rows given offered) (check_in_table given offered) (check_within given offered) e) (λ refusal failed. refl)

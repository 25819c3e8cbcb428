-- What a report of a sheet's text promises, by whether it has room in what is lent; and that 2048 bytes are room for every text. Assumes
-- nothing.
use Rattle.std.specs.Prelude.{Some, None, ◌≡◌, refl, Bool, true, false, List, ◌++◌, ℕ, ◌≤◌, ◌<◌, length, take, drop, replicate}
use Rattle.vocabulary.specs.{sym, ap, ◌∙◌, le_trans, arith, le-leb, leb-true}
use Rattle.text.specs.Holds.{Holds}
use Rattle.report.specs.Report.{report_text, has_room, reported_of, after_report, ReportedPromise}
use Rattle.lines.specs.Lines.{longest_text}
use Rattle.report.proofs.Longest.{text_fits}
use Rattle.report.proofs.Room as room

module _ (sheet lent : List ℕ) {buffer : List ℕ} {end : ℕ} (held : Holds (replicate longest_text 0) (report_text sheet) buffer end) where
  abbrev t : List ℕ
  t = report_text sheet

  pub length_told : end ≡ length t
  length_told = room.length_told t buffer end held (text_fits sheet)

  pub end_within : end ≤ length buffer
  end_within = room.end_within t buffer end held (text_fits sheet)

  pub none_written : length lent < end → ReportedPromise sheet lent None lent
  none_written h =
      let none : has_room t lent ≡ false = room.past_lent t buffer end held (text_fits sheet) lent h in
      record {
        answered = sym (ap (λ (b : Bool). reported_of b t) none);
        leaves = sym (ap (λ (b : Bool). after_report b t lent) none);
      }

  pub all_written : end ≤ length lent → ReportedPromise sheet lent (Some end) (take end buffer ++ drop end lent)
  all_written h =
      let there : has_room t lent ≡ true = room.room_there t buffer end held (text_fits sheet) lent h in
      record {
        answered = ap Some length_told ∙ sym (ap (λ (b : Bool). reported_of b t) there);
        leaves = room.written_there t buffer end held (text_fits sheet) lent ∙ sym (ap (λ (b : Bool). after_report b t lent) there);
      }

-- what was written lies within what was lent
pub written_within : (t lent : List ℕ) (n : ℕ) → reported_of (has_room t lent) t ≡ Some n → n ≤ length lent
written_within t lent n written = go (has_room t lent) refl written
  where
    go : (b : Bool) → has_room t lent ≡ b → reported_of b t ≡ Some n → n ≤ length lent
    go true e w =
        let same : length t ≡ n = cc in
        omega (arith, same, leb-true (length t) (length lent) e)
    go false e w =
        let clash : ◌≡◌ {A = ℕ} 0 1 = cc in
        absurd (omega arith)

-- the text of any bytes is written into 2048 bytes
module _ (sheet lent : List ℕ) (enough : longest_text ≤ length lent) where
  room_for_any : has_room (report_text sheet) lent ≡ true
  room_for_any = le-leb (length (report_text sheet)) (length lent) (le_trans (text_fits sheet) enough)

  pub always_written : reported_of (has_room (report_text sheet) lent) (report_text sheet) ≡ Some (length (report_text sheet))
  always_written = ap (λ (b : Bool). reported_of b (report_text sheet)) room_for_any

  pub always_laid : after_report (has_room (report_text sheet) lent) (report_text sheet) lent ≡ report_text sheet ++ drop (length (report_text sheet)) lent
  always_laid = ap (λ (b : Bool). after_report b (report_text sheet) lent) room_for_any

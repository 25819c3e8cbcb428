-- What the program writes for a sheet: document 01, "Sheets worked through". The lines of the worked sheet, or its refusal.
use Rattle.std.specs.Prelude.{Option, Some, None, Bool, true, false, List, ◌++◌, ℕ, leb, length, drop}
use Rattle.refusals.specs.Promise.{Promised}
use Rattle.pass_sheet.specs.Texts.{worked_text}

-- the text of any bytes
abbrev pub report_text : List ℕ → List ℕ
report_text = worked_text

-- whether a text has room in what is lent
abbrev pub has_room : (t lent : List ℕ) → Bool
has_room t lent = leb (length t) (length lent)

abbrev pub reported_of : Bool → List ℕ → Option ℕ
reported_of true t = Some (length t)
reported_of false t = None

-- the text from the start of what is lent, and what lies past it as it was
abbrev pub after_report : Bool → (t lent : List ℕ) → List ℕ
after_report true t lent = t ++ drop (length t) lent
after_report false t lent = lent

-- what `report` promises
abbrev pub ReportedPromise : (sheet entry : List ℕ) → (answer : Option ℕ) → (exit : List ℕ) → Type 0
ReportedPromise sheet entry answer exit =
    Promised (reported_of (has_room (report_text sheet) entry) (report_text sheet)) (after_report (has_room (report_text sheet) entry) (report_text sheet) entry) answer exit

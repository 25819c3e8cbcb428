-- A sheet worked through is shown in one of three ways: as a worked figure of either kind, whose order has passed, or as a refusal. Assumes
-- nothing.
use Rattle.std.specs.Prelude.{Err}
use Rattle.sheet_layout.specs.Head.{Look}
use Rattle.sheet_rules.specs.Sheet.{Reading}
use Rattle.std.specs.Prelude.{Err, Ok}
use Rattle.refusals.specs.Numbers.{Verdict}
use Rattle.std.specs.Prelude.{ℕ, List, [], ◌⊎◌, ◌≡◌, refl}
use Rattle.vocabulary.specs.{inl, inr, sym, ap, subst}
use Rattle.refusals.specs.{declared.Refusal.Refusal, Order.judged}
use Rattle.figures.specs.declared.Figure.{Figure}
use Rattle.sheet_layout.specs.{declared.Kind.Kind, declared.Pass.Pass, Kinds.pass_of, Head.look_of, Head.of_head}
use Rattle.sheet_rules.specs.{Sheet.Values, Sheet.values_read}
use Rattle.sheet_rules.specs.Judging.{own_lengths, body_rows, reading_after}
use Rattle.sheet_rules.proofs.Accepted.{head_found}
use Rattle.pass_rules.specs.{FirstPass.first_rows, SecondPass.SineEntries, SecondPass.sine_entries, SecondPass.second_rows}
use Rattle.pass_sheet.specs.Worked.{WorkedSheet, first_sheet_lengths, second_sheet_lengths, refused_sheet, shown_if, first_shown, first_sheet, second_shown, second_sheet, entries_of, worked_pass, worked_read, worked_look, worked_of, entries_in, rounds_held}

pub record FirstShown (sheet : List ℕ) (worked : WorkedSheet) : Type 0 where
  pub figure : Figure
  pub limit : ℕ
  pub angles : List ℕ
  pub rounds : List ℕ
  pub fixed : List ℕ
  pub rounds_held_lem : rounds_held sheet ≡ rounds
  pub passed : judged (first_rows figure limit angles rounds fixed (first_sheet_lengths figure angles rounds fixed)) ≡ Ok tt
  pub is : worked ≡ first_shown figure angles rounds fixed

pub record SecondShown (sheet : List ℕ) (worked : WorkedSheet) : Type 0 where
  pub figure : Figure
  pub tolerance : ℕ
  pub angles : List ℕ
  pub rounds : List ℕ
  pub entries : SineEntries
  pub held : entries_in sheet ≡ entries
  pub rounds_held_lem : rounds_held sheet ≡ rounds
  pub passed : judged (second_rows figure tolerance angles rounds entries (second_sheet_lengths figure angles rounds entries)) ≡ Ok tt
  pub is : worked ≡ second_shown figure angles rounds entries

pub record RefusedShown (worked : WorkedSheet) : Type 0 where
  pub refusal : Refusal
  pub is : worked ≡ refused_sheet refusal

abbrev pub ShownAs : (sheet : List ℕ) → WorkedSheet → Type 0
ShownAs sheet worked = FirstShown sheet worked ⊎ (SecondShown sheet worked ⊎ RefusedShown worked)

module _ (sheet : List ℕ) where
  refused_shown : (refusal : Refusal) → ShownAs sheet (refused_sheet refusal)
  refused_shown refusal = inr (inr (record { refusal = refusal; is = refl }))

  first_shown_lem : (f : Figure) (limit : ℕ) (angles rounds fixed : List ℕ) → rounds_held sheet ≡ rounds
      → ShownAs sheet (first_sheet f limit angles rounds fixed)
  unfolding first_sheet
  first_shown_lem f limit angles rounds fixed counted = go (judged (first_rows f limit angles rounds fixed (first_sheet_lengths f angles rounds fixed))) refl
    where
      go : (v : Verdict) → judged (first_rows f limit angles rounds fixed (first_sheet_lengths f angles rounds fixed)) ≡ v
          → ShownAs sheet (shown_if v (first_shown f angles rounds fixed))
      go (Ok tt) e = inl (record {
        figure = f;
        limit = limit;
        angles = angles;
        rounds = rounds;
        fixed = fixed;
        rounds_held_lem = counted;
        passed = e;
        is = refl;
      })
      go (Err refusal) e = refused_shown refusal

  second_shown_lem : (f : Figure) (tolerance : ℕ) (angles rounds : List ℕ) (e : SineEntries) → entries_in sheet ≡ e → rounds_held sheet ≡ rounds
      → ShownAs sheet (second_sheet f tolerance angles rounds e)
  unfolding second_sheet
  second_shown_lem f tolerance angles rounds e held counted = go (judged (second_rows f tolerance angles rounds e (second_sheet_lengths f angles rounds e))) refl
    where
      go : (v : Verdict) → judged (second_rows f tolerance angles rounds e (second_sheet_lengths f angles rounds e)) ≡ v
          → ShownAs sheet (shown_if v (second_shown f angles rounds e))
      go (Ok tt) passed = inr (inl (record {
        figure = f;
        tolerance = tolerance;
        angles = angles;
        rounds = rounds;
        entries = e;
        held = held;
        rounds_held_lem = counted;
        passed = passed;
        is = refl;
      }))
      go (Err refusal) failed = refused_shown refusal

  pass_shown : (pass : Pass) (f : Figure) (limit_or_tolerance : ℕ) (v : Values) → entries_in sheet ≡ entries_of v → rounds_held sheet ≡ v.rounds
      → ShownAs sheet (worked_pass pass f limit_or_tolerance v.angles v.rounds v.fixed (entries_of v))
  pass_shown Pass.First f limit v held counted = first_shown_lem f limit v.angles v.rounds v.fixed counted
  pass_shown Pass.Second f tolerance v held counted = second_shown_lem f tolerance v.angles v.rounds (entries_of v) held counted

  read_shown : (kind : Kind) (f : Figure) → entries_in sheet ≡ entries_of (values_read kind f sheet) → rounds_held sheet ≡ (values_read kind f sheet).rounds
      → (v : Verdict)
      → ShownAs sheet (worked_read (reading_after v kind f sheet) sheet)
  read_shown kind f held counted (Ok tt) = pass_shown (pass_of kind) f _ (values_read kind f sheet) held counted
  read_shown kind f held counted (Err refusal) = refused_shown refusal

  look_shown : (found : Look) → look_of sheet ≡ found → ShownAs sheet (worked_look found sheet)
  look_shown (Ok head) e =
      subst (λ (reading : Reading). ShownAs sheet (worked_read reading sheet)) (sym (head_found sheet (own_lengths head.kind head.figure) head.kind head.figure e))
      (read_shown head.kind head.figure (ap (λ (found : Look). of_head found (sine_entries [] [] []) (λ k g. entries_of (values_read k g sheet))) e)
      (ap (λ (found : Look). of_head found [] (λ k g. (values_read k g sheet).rounds)) e)
      (judged (body_rows head.kind head.figure sheet (own_lengths head.kind head.figure))))
  look_shown (Err refusal) e = refused_shown refusal

  pub shown_as : ShownAs sheet (worked_of sheet)
  unfolding worked_of
  shown_as = look_shown (look_of sheet) refl

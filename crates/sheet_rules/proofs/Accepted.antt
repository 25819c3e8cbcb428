-- What the reader and the writer answer once kind and figure are known, and what an accepted sheet is. Assumes nothing.
use Rattle.std.specs.Prelude.{Err, Ok}
use Rattle.sheet_layout.specs.Head.{Look, headed}
use Rattle.sheet_rules.specs.Sheet.{Reading, read_as}
use Rattle.std.specs.Prelude.{Err, Ok, Some}
use Rattle.refusals.specs.Numbers.{Verdict}
use Rattle.std.specs.Prelude.{ℕ, ◌≤◌, List, [], ◌∷◌, ◌++◌, ◌≡◌, refl, length, get_or, take}
use Rattle.vocabulary.specs.{sym, ap, ap₂, subst, ◌∙◌, arith}
use Rattle.whole.proofs.Lists.{length_listed}
use Rattle.refusals.specs.{declared.Refusal.Refusal, Order.Row, Order.HoldsNowhere, Order.NoneHolds, Order.judged}
use Rattle.refusals.specs.{Table.lengths_row, Table.filling_row}
use Rattle.refusals.proofs.{InSteps.judged_after_pass, Nowhere.same_lengths, Nowhere.size_right, Rows.none_holds, Rows.done_exactly}
use Rattle.figures.specs.{declared.Figure.Figure, Figure.angle_count, Figure.figure_of}
use Rattle.sheet_layout.specs.{declared.Kind.Kind, Layout.fixed_in, Layout.sine_entries_in, Layout.sides_in, Layout.sheet_size}
use Rattle.sheet_layout.specs.Head.{kind_of, name_rows, kind_number_in, code_in, n_in, head_rows, look_of, head_of, of_head}
use Rattle.sheet_layout.proofs.Naming.{named, head_verdict, names_judged, look_judged, look_names, long_enough}
use Rattle.sheet_rules.specs.Sheet.{Values, values_read, packed_sheet}
use Rattle.sheet_rules.specs.Judging.{own_lengths, lengths_given, value_rows, filling_bits, body_rows, reader_rows, reading_after, reading_found, reading_of, after_reading, given_rows, writer_rows, writing_of, after_writing, written_of}

-- ---- the reader, by what a look at the sheet has found

module _ (s lent : List ℕ) where
  pub head_refused : (r : Refusal) → look_of s ≡ Err r → reading_of s lent ≡ Err r
  unfolding reading_of
  head_refused r e = ap (λ (found : Look). reading_found found (judged (reader_rows s lent)) s) e

  pub head_found : (kind : Kind) (f : Figure) → look_of s ≡ headed kind f → reading_of s lent ≡ reading_after (judged (body_rows kind f s lent)) kind f s
  unfolding reading_of reader_rows
  head_found kind f e =
      ap (λ (found : Look). reading_found found (judged (head_rows s ++ of_head found [] (λ k g. body_rows k g s lent))) s) e
      ∙ ap (λ (v : Verdict). reading_after v kind f s) (judged_after_pass (head_rows s) (body_rows kind f s lent) (sym (look_judged s) ∙ ap head_verdict e))

-- what is lent stays as it is where the reader refuses
pub kept : {A : Type 0} {reading : Reading} (r : Refusal) → reading ≡ Err r → (values : Kind → Figure → A) (before : A)
    → before ≡ after_reading reading values before
kept r e values before = sym (ap (λ (reading : Reading). after_reading reading values before) e)

-- ---- an accepted sheet

pub record Accepted (s lent : List ℕ) (kind : Kind) (f : Figure) (limit_or_tolerance : ℕ) : Type 0 where
  pub kind_named : kind_of (kind_number_in s) ≡ Some kind
  pub figure_named_lem : figure_of (code_in s) (n_in s) ≡ Some f
  pub size : length s ≡ sheet_size kind f
  pub lengths : lent ≡ own_lengths kind f
  pub filling : HoldsNowhere (filling_row (filling_bits kind f s))
  pub values : NoneHolds (value_rows kind (values_read kind f s))
  pub as_packed : (values_read kind f s).limit_or_tolerance ≡ limit_or_tolerance

abbrev AcceptedAs : (s lent : List ℕ) → Reading → Type 0
AcceptedAs s lent (Ok read) = Accepted s lent read.kind read.figure read.limit_or_tolerance
AcceptedAs s lent (Err r) = Unit {0}

module _ (s lent : List ℕ) where
  own : (kind : Kind) (f : Figure) → look_of s ≡ headed kind f → judged (body_rows kind f s lent) ≡ Ok tt
      → Accepted s lent kind f (values_read kind f s).limit_or_tolerance
  unfolding body_rows
  own kind f found e =
      let names = look_names s kind f found in
      let none = none_holds (body_rows kind f s lent) e in
      record {
        kind_named = names.kind_named;
        figure_named_lem = names.figure_named_lem;
        size = size_right (length s) (sheet_size kind f) none.0;
        lengths = same_lengths lent (own_lengths kind f) none.1.0;
        filling = none.1.1.0;
        values = none.1.1.1;
        as_packed = refl;
      }

  pub accepted : (kind : Kind) (f : Figure) (limit_or_tolerance : ℕ) → reading_of s lent ≡ read_as kind f limit_or_tolerance → Accepted s lent kind f limit_or_tolerance
  accepted kind f l e = go (look_of s) refl
    where
      passed : (k : Kind) (g : Figure) (v : Verdict) → reading_after v k g s ≡ read_as kind f l → (v ≡ Ok tt) × (reading_after (Ok tt) k g s ≡ read_as kind f l)
      passed k g (Ok tt) e = (refl, e)
      passed k g (Err r) e = (cc, cc)

      go : (found : Look) → look_of s ≡ found → Accepted s lent kind f l
      go (Ok head) found =
          let read = passed head.kind head.figure (judged (body_rows head.kind head.figure s lent)) (sym (head_found s lent head.kind head.figure found) ∙ e) in
          subst (AcceptedAs s lent) read.1 (own head.kind head.figure found read.0)
      go (Err r) found = subst (AcceptedAs s lent) (sym (head_refused s lent r found) ∙ e) tt

-- and back: such a sheet is read
pub accepted_back : (s lent : List ℕ) (kind : Kind) (f : Figure) (limit_or_tolerance : ℕ) → 2 ≤ length s
    → Accepted s lent kind f limit_or_tolerance → reading_of s lent ≡ read_as kind f limit_or_tolerance
unfolding body_rows
accepted_back s lent kind f l long h =
    let found : look_of s ≡ headed kind f = long_enough s long ∙ named (kind_number_in s) (code_in s) (n_in s) h.kind_named h.figure_named_lem in
    let passes : judged (body_rows kind f s lent) ≡ Ok tt =
    (done_exactly (body_rows kind f s lent) tt).1 (λ p held. held.1 h.size, (λ p held. held.1 h.lengths, (h.filling, h.values))) in
    head_found s lent kind f found ∙ ap (λ (v : Verdict). reading_after v kind f s) passes ∙ ap (read_as kind f) h.as_packed

-- ---- the writer, by what the numbers name

module _ (kind code n : ℕ) (v : Values) (size : ℕ) where
  abbrev rows_of : Look → List Row
  rows_of found = name_rows kind code n ++ of_head found [] (λ k f. given_rows k f v size)

  pub writer_refused : (r : Refusal) → head_of kind code n ≡ Err r → writing_of kind code n v size ≡ Err r
  unfolding writing_of writer_rows
  writer_refused r e = ap (λ (found : Look). judged (rows_of found)) e ∙ names_judged kind code n ∙ ap head_verdict e

  pub writer_found : (k : Kind) (f : Figure) → head_of kind code n ≡ headed k f → writing_of kind code n v size ≡ judged (given_rows k f v size)
  unfolding writing_of writer_rows
  writer_found k f e =
      ap (λ (found : Look). judged (rows_of found)) e
      ∙ judged_after_pass (name_rows kind code n) (given_rows k f v size) (names_judged kind code n ∙ ap head_verdict e)

-- what the byte slice holds in the end
module _ (kind code n : ℕ) (v : Values) (before : List ℕ) where
  pub sheet_kept : (r : Refusal) → writing_of kind code n v (length before) ≡ Err r → written_of kind code n v before ≡ before
  unfolding written_of
  sheet_kept r e = go (head_of kind code n)
    where
      go : (found : Look) → of_head found before (λ k f. after_writing (writing_of kind code n v (length before)) (packed_sheet k f v) before) ≡ before
      go (Ok head) = ap (λ (verdict : Verdict). after_writing verdict (packed_sheet head.kind head.figure v) before) e
      go (Err q) = refl

  pub written_found : (k : Kind) (f : Figure) → head_of kind code n ≡ headed k f
      → written_of kind code n v before ≡ after_writing (writing_of kind code n v (length before)) (packed_sheet k f v) before
  unfolding written_of
  written_found k f e =
      ap (λ (found : Look). of_head found before (λ k f. after_writing (writing_of kind code n v (length before)) (packed_sheet k f v) before)) e

  pub sheet_written : (k : Kind) (f : Figure) → head_of kind code n ≡ headed k f → writing_of kind code n v (length before) ≡ Ok tt
      → written_of kind code n v before ≡ packed_sheet k f v
  sheet_written k f found e = written_found k f found ∙ ap (λ (verdict : Verdict). after_writing verdict (packed_sheet k f v) before) e

-- ---- values that the writer accepts

-- there are as many of each sort as the kind and the figure have
pub record AsMany (kind : Kind) (f : Figure) (v : Values) : Type 0 where
  pub angles : length v.angles ≡ angle_count f
  pub rounds : length v.rounds ≡ angle_count f
  pub fixed : length v.fixed ≡ fixed_in kind f
  pub log_sines : length v.log_sines ≡ sine_entries_in kind f
  pub differences : length v.differences ≡ sine_entries_in kind f
  pub log_sides : length v.log_sides ≡ sides_in kind f

pub as_many : (kind : Kind) (f : Figure) (v : Values) → lengths_given v ≡ own_lengths kind f → AsMany kind f v
as_many kind f v same =
    let each : (i : ℕ) → get_or (lengths_given v) i 0 ≡ get_or (own_lengths kind f) i 0 = λ i. ap (λ (l : List ℕ). get_or l i 0) same in
    record { angles = each 0; rounds = each 1; fixed = each 2; log_sines = each 3; differences = each 4; log_sides = each 5 }

pub own_lengths_lem : (kind : Kind) (f : Figure) (v : Values) → AsMany kind f v → lengths_given v ≡ own_lengths kind f
own_lengths_lem kind f v many = rw (many.angles, many.rounds, many.fixed, many.log_sines, many.differences, many.log_sides)

pub record Given (kind : Kind) (f : Figure) (v : Values) (size : ℕ) : Type 0 where
  pub lengths : AsMany kind f v
  pub sized : size ≡ sheet_size kind f
  pub values : NoneHolds (value_rows kind v)

module _ (kind : Kind) (f : Figure) (v : Values) (size : ℕ) where
  -- what number 2 leaves
  pub right_lengths : HoldsNowhere (lengths_row (lengths_given v ++ (size ∷ [])) (own_lengths kind f ++ (sheet_size kind f ∷ [])))
      → (lengths_given v ≡ own_lengths kind f) × (size ≡ sheet_size kind f)
  right_lengths none =
      let same : lengths_given v ++ (size ∷ []) ≡ own_lengths kind f ++ (sheet_size kind f ∷ []) = same_lengths _ _ none in
      (ap (take 6) same, ap (λ (l : List ℕ). get_or l 6 0) same)

  pub given_accepted : judged (given_rows kind f v size) ≡ Ok tt → Given kind f v size
  unfolding given_rows
  given_accepted e =
      let none = none_holds (given_rows kind f v size) e in
      let right = right_lengths none.0 in
      record { lengths = as_many kind f v right.0; sized = right.1; values = none.1 }

  pub given_back : Given kind f v size → judged (given_rows kind f v size) ≡ Ok tt
  unfolding given_rows
  given_back h =
      let same : lengths_given v ++ (size ∷ []) ≡ own_lengths kind f ++ (sheet_size kind f ∷ []) =
      ap₂ (λ (l : List ℕ) (z : ℕ). l ++ (z ∷ [])) (own_lengths_lem kind f v h.lengths) h.sized in
      (done_exactly (given_rows kind f v size) tt).1 (λ p held. held.1 same, h.values)

pub record WriterAccepts (kind code n : ℕ) (v : Values) (size : ℕ) : Type 0 where
  pub kind_given : Kind
  pub figure_given : Figure
  pub names : head_of kind code n ≡ headed kind_given figure_given
  pub given : Given kind_given figure_given v size

pub writer_accepted : (kind code n : ℕ) (v : Values) (size : ℕ) → writing_of kind code n v size ≡ Ok tt → WriterAccepts kind code n v size
writer_accepted kind code n v size e = go (head_of kind code n) refl
  where
    never : (r : Refusal) → ◌≡◌ {A = Verdict} (Err r) (Ok tt) → ⊥
    never r e = let z : ◌≡◌ {A = ℕ} 0 1 = cc in omega arith

    go : (found : Look) → head_of kind code n ≡ found → WriterAccepts kind code n v size
    go (Ok head) found = record {
      kind_given = head.kind;
      figure_given = head.figure;
      names = found;
      given = given_accepted head.kind head.figure v size (sym (writer_found kind code n v size head.kind head.figure found) ∙ e);
    }
    go (Err r) found = absurd (never r (sym (writer_refused kind code n v size r found) ∙ e))

-- the values that are read off a sheet are as many as it has
pub as_many_read : (kind : Kind) (f : Figure) (s : List ℕ) → AsMany kind f (values_read kind f s)
unfolding values_read
as_many_read kind f s = record {
  angles = length_listed _ _;
  rounds = length_listed _ _;
  fixed = length_listed _ _;
  log_sines = length_listed _ _;
  differences = length_listed _ _;
  log_sides = length_listed _ _;
}

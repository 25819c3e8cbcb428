-- No place that is answered is above 24, the most angles that a figure has: a row with places comes after that of the lengths, or has no
-- more places than the figure. So the place of an answer stays below 256. Assumes nothing.
use Rattle.std.specs.Prelude.{Err, Ok}
use Rattle.sheet_layout.specs.Head.{Look}
use Rattle.std.specs.Prelude.{None, Option, Some}
use Rattle.std.specs.Prelude.{ℕ, ◌≤◌, Bool, true, false, cond, List, [], ◌∷◌, ◌++◌, ◌≡◌, T, eqb, leb, ℤ, length}
use Rattle.vocabulary.specs.{arith, leb→le, length-append}
use Rattle.refusals.specs.Order.{Row, row, row_at, all_in_table}
use Rattle.refusals.proofs.{Nowhere.same_lengths, PlaceBounds.PlacesWithin}
use Rattle.figures.specs.declared.Figure.{Figure}
use Rattle.figures.specs.{Figure.angle_count, Figure.fixed_count, Figure.side_count, Figure.figure_of, Figure.of_named, Numerators.most_angles}
use Rattle.figures.proofs.Figures.{angle_bound}
use Rattle.sheet_layout.specs.{declared.Kind.Kind, declared.Kind.TheVariants.Two, Layout.lengths_of, Layout.sheet_size}
use Rattle.sheet_layout.specs.Head.{head_rows, head_of, look_of, of_head}
use Rattle.sheet_layout.proofs.{EachKind.each, Sizes.fixed_bound, Sizes.entry_bound}
use Rattle.sheet_rules.specs.Sheet.{Values}
use Rattle.sheet_rules.specs.Judging.{own_lengths, lengths_given, body_rows, reader_rows, given_rows, writer_rows}
use Rattle.sheet_rules.proofs.Refusals.{reader_in_table}
use Rattle.pass_rules.specs.FirstPass.{first_result_lengths, first_lengths, first_rows, first_pass_rows}
use Rattle.pass_rules.specs.SecondPass.{SineEntries, second_lengths, second_rows, second_pass_rows}
use Rattle.pass_rules.specs.Promises.{FirstGiven, FirstLent, first_lengths_lent, first_rows_of, SecondGiven}
use Rattle.pass_rules.proofs.Refusals.{second_in_table}
use Rattle.closing.specs.Promises.{closing_rows_for, closing_rows, rules_row, check_rows_for, check_rows}
use Rattle.closing.specs.Rules.{pass_rows}
use Rattle.report.proofs.PlaceBounds as pages
use Rattle.controller.specs.Promises.{look_rows, ReadLent, read_rows, SumsLent, sine_count, sums_lengths, sums_rows, TextLent, report_rows}

-- ---- a look, the reader

pub look_in_table : (sheet head : List ℕ) → T (all_in_table (look_rows sheet head))
unfolding head_rows
look_in_table sheet head = tt

pub look_within : (sheet head : List ℕ) → PlacesWithin most_angles (look_rows sheet head)
look_within sheet head = pages.head_within sheet _ (λ lengths. tt)

pub reader_within : (sheet lent : List ℕ) → PlacesWithin most_angles (reader_rows sheet lent)
unfolding reader_rows body_rows
reader_within sheet lent = pages.head_within sheet _ (go (look_of sheet))
  where
    go : (found : Look) → PlacesWithin most_angles (of_head found [] (λ kind f. body_rows kind f sheet lent))
    go (Ok head) = pages.body_within head.kind head.figure sheet lent [] tt
    go (Err refusal) = tt

pub read_in_table : (sheet : List ℕ) (lent : ReadLent) → T (all_in_table (read_rows sheet lent))
read_in_table sheet lent = reader_in_table sheet _

pub read_within : (sheet : List ℕ) (lent : ReadLent) → PlacesWithin most_angles (read_rows sheet lent)
read_within sheet lent = reader_within sheet _

-- ---- the writer

fixed_few : (f : Figure) → fixed_count f ≤ most_angles
fixed_few f = omega (arith, fixed_bound f)

pub fixed_in_few : (kind : Kind) (f : Figure) → (lengths_of kind f).fixed ≤ most_angles
fixed_in_few kind f = leb→le (lengths_of kind f).fixed most_angles (each (λ k g. leb (lengths_of k g).fixed most_angles) tt kind f)

pub sines_in_few : (kind : Kind) (f : Figure) → (lengths_of kind f).log_sines ≤ most_angles
sines_in_few kind f = omega (arith, entry_bound kind f)

pub sides_in_few : (kind : Kind) (f : Figure) → (lengths_of kind f).log_sides ≤ most_angles
sides_in_few kind f = omega (arith, entry_bound kind f)

pub write_within : (kind code n : ℕ) (v : Values) (size : ℕ) → PlacesWithin most_angles (writer_rows kind code n v size)
unfolding writer_rows given_rows
write_within kind code n v size = λ no_kind no_figure. go (head_of kind code n)
  where
    go : (found : Look) → PlacesWithin most_angles (of_head found [] (λ k f. given_rows k f v size))
    go (Ok head) = λ lengths range. (
        let same = same_lengths (lengths_given v ++ (size ∷ [])) (own_lengths head.kind head.figure ++ (sheet_size head.kind head.figure ∷ [])) lengths in
        let by_angle : length v.angles ≡ (lengths_of head.kind head.figure).angles = cc in
        let by-rounds : length v.rounds ≡ (lengths_of head.kind head.figure).rounds = cc in
        let by-fixed : length v.fixed ≡ (lengths_of head.kind head.figure).fixed = cc in
        let by-sine : length v.log_sines ≡ (lengths_of head.kind head.figure).log_sines = cc in
        let by_side : length v.log_sides ≡ (lengths_of head.kind head.figure).log_sides = cc in
        let entries : length (v.log_sines ++ v.log_sides) ≤ most_angles =
        omega (arith, length-append v.log_sines v.log_sides, entry_bound head.kind head.figure) in (
          omega (arith, by_angle, angle_bound head.figure),
          λ angles. (
            omega (arith, by-rounds, angle_bound head.figure),
            λ rounds. (omega (arith, by-fixed, fixed_in_few head.kind head.figure), λ fixed summed. (entries, λ sines. tt)),
          ),
        )
        )
    go (Err refusal) = tt

-- ---- the passes

pub first_within : (given : FirstGiven) (lent : FirstLent) → PlacesWithin most_angles (first_rows_of given lent)
unfolding first_pass_rows
first_within given lent = λ no_figure. go (figure_of given.code given.n)
  where
    go : (named : Option Figure)
        → PlacesWithin most_angles
        (of_named named [] (λ f. first_rows f given.limit given.angles given.rounds given.fixed (first_lengths_lent given lent)))
    go None = tt
    go (Some f) =
        pages.first_within f given.limit given.angles given.rounds given.fixed (first_lengths_lent given lent) (λ lengths.
        let same = same_lengths (first_lengths_lent given lent) (first_lengths f) lengths in
        let by_angle : length given.angles ≡ angle_count f = cc in
        let by-rounds : length given.rounds ≡ angle_count f = cc in
        let by-fixed : length given.fixed ≡ fixed_count f = cc in
        (omega (arith, by_angle, angle_bound f), omega (arith, by-rounds, angle_bound f), omega (arith, by-fixed, fixed_few f)))

-- ---- the rounding that closes: the first pass's rows, and two without a place

appended : (most : ℕ) (rows later : List Row) → PlacesWithin most rows → PlacesWithin most later → PlacesWithin most (rows ++ later)
appended most [] later a b = b
appended most (row k question ∷ rows) later a b = λ none. appended most rows later (a none) b
appended most (row_at k places question ∷ rows) later a b = (a.0, λ none. appended most rows later (a.1 none) b)

module _ (given : FirstGiven) (lent : List ℤ) where
  pass_within : (f : Figure) → PlacesWithin most_angles (pass_rows f given.limit given.angles given.rounds given.fixed)
  pass_within f =
      let lengths : List ℕ = length given.angles ∷ length given.rounds ∷ length given.fixed ∷ first_result_lengths f in
      pages.first_within f given.limit given.angles given.rounds given.fixed lengths (λ held.
      let same = same_lengths lengths (first_lengths f) held in
      let by_angle : length given.angles ≡ angle_count f = cc in
      let by-rounds : length given.rounds ≡ angle_count f = cc in
      let by-fixed : length given.fixed ≡ fixed_count f = cc in
      (omega (arith, by_angle, angle_bound f), omega (arith, by-rounds, angle_bound f), omega (arith, by-fixed, fixed_few f)))

  pub closing_within : PlacesWithin most_angles (closing_rows given lent)
  unfolding closing_rows_for
  closing_within = λ no_figure. go (figure_of given.code given.n)
    where
      go : (named : Option Figure)
          → PlacesWithin most_angles (of_named named [] (λ f. closing_rows_for f given.limit given.angles given.rounds given.fixed (length lent)))
      go None = tt
      go (Some f) = λ own. pass_within f

  pub check_within : PlacesWithin most_angles (check_rows given lent)
  unfolding check_rows_for closing_rows_for
  check_within = λ no_figure. go (figure_of given.code given.n)
    where
      go : (named : Option Figure) → PlacesWithin most_angles (of_named named [] (λ f. check_rows_for f given.limit given.angles given.rounds given.fixed lent))
      go None = tt
      go (Some f) =
          λ own. appended most_angles (pass_rows f given.limit given.angles given.rounds given.fixed) (rules_row f given.angles given.fixed lent ∷ []) (pass_within f)
          (λ rules. tt)

-- the lengths that are judged are those of the slices, or none
judged_lengths : (b c : Bool) (f : Figure) (angles rounds : List ℕ) (e : SineEntries) (others : List ℕ)
    → cond b (cond c (length angles ∷ length rounds ∷ length e.log_sines ∷ length e.differences ∷ length e.log_sides ∷ others) []) []
    ≡ second_lengths f
    → (length angles ≤ most_angles) × (length rounds ≤ most_angles) × (length (e.log_sines ++ e.log_sides) ≤ most_angles)
judged_lengths true true f angles rounds e others same =
    let by_angle : length angles ≡ angle_count f = cc in
    let by-rounds : length rounds ≡ angle_count f = cc in
    let by-sine : length e.log_sines ≡ angle_count f = cc in
    let by_side : length e.log_sides ≡ side_count f = cc in
    let entries : length (e.log_sines ++ e.log_sides) ≤ most_angles =
    omega (arith, length-append e.log_sines e.log_sides, by-sine, by_side, entry_bound Two f) in
    (omega (arith, by_angle, angle_bound f), omega (arith, by-rounds, angle_bound f), entries)
judged_lengths true false f angles rounds e others same = absurd (let z : ◌≡◌ {A = ℕ} 0 1 = cc in omega arith)
judged_lengths false c f angles rounds e others same = absurd (let z : ◌≡◌ {A = ℕ} 0 1 = cc in omega arith)

pub sums_in_table : (given : SecondGiven) (lent : SumsLent) → T (all_in_table (sums_rows given lent))
sums_in_table given lent = second_in_table given.code given.n given.tolerance given.angles given.rounds given.entries _

pub sums_within : (given : SecondGiven) (lent : SumsLent) → PlacesWithin most_angles (sums_rows given lent)
unfolding second_pass_rows
sums_within given lent = λ no_figure. go (figure_of given.code given.n)
  where
    go : (named : Option Figure)
        → PlacesWithin most_angles
        (of_named named [] (λ f. second_rows f given.tolerance given.angles given.rounds given.entries (sums_lengths given lent)))
    go None = tt
    go (Some f) =
        pages.second_within f given.tolerance given.angles given.rounds given.entries _ (λ lengths.
        judged_lengths (eqb (length lent.misclosures) (sine_count given.code given.n)) (eqb (length lent.divisor) 2) f
        given.angles given.rounds given.entries _ (same_lengths _ (second_lengths f) lengths))

-- ---- a sheet's text

pub report_within : (sheet : List ℕ) (lent : TextLent) → PlacesWithin most_angles (report_rows sheet lent)
report_within sheet lent = λ lengths room. tt

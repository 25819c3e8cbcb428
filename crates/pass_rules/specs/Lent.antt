-- The slices that a pass is given and lent.
use Rattle.std.specs.Prelude.{◌≡◌, ℕ, List, [], ◌∷◌, length}
use Rattle.pass_rules.specs.declared.first.FirstInput.{FirstInput}
use Rattle.pass_rules.specs.declared.first.FirstRoom.{FirstRoom}
use Rattle.pass_rules.specs.declared.second.SecondInput.{SecondInput}
use Rattle.pass_rules.specs.declared.second.SecondRoom.{SecondRoom}
use Rattle.pass_rules.specs.SecondPass.{SineEntries, sine_entries}
use Rattle.pass_rules.specs.Promises.{FirstGiven, first_given, FirstLent, first_lent, SecondGiven, second_given, SecondLent, second_lent}

-- ---- the first pass

-- what is given, of the figure that code and n name
abbrev pub first_given_by : (code n : ℕ) → FirstInput → FirstGiven
first_given_by code n given = first_given code n given.limit given.angles.now given.rounds.now given.fixed.now

abbrev pub first_given_lengths : FirstInput → List ℕ
first_given_lengths given = length given.angles.now ∷ length given.rounds.now ∷ length given.fixed.now ∷ []

-- what is lent holds
abbrev pub first_held : FirstRoom → FirstLent
first_held room =
    first_lent room.misclosures.now room.numerators.now room.rounded.now room.corrected.now room.corrected_rounds.now room.rests.now

-- the slices are the same ones: what one holds, whoever lent it finds there
abbrev pub SameFirstSlices : (after before : FirstRoom) → Type 0
SameFirstSlices after before =
    (after.misclosures.ghost_name ≡ before.misclosures.ghost_name)
    × (after.numerators.ghost_name ≡ before.numerators.ghost_name)
    × (after.rounded.ghost_name ≡ before.rounded.ghost_name)
    × (after.corrected.ghost_name ≡ before.corrected.ghost_name)
    × (after.corrected_rounds.ghost_name ≡ before.corrected_rounds.ghost_name)
    × (after.rests.ghost_name ≡ before.rests.ghost_name)

-- ---- the second pass

abbrev pub entries_given : SecondInput → SineEntries
entries_given given = sine_entries given.log_sines.now given.differences.now given.log_sides.now

abbrev pub second_given_by : (code n : ℕ) → SecondInput → SecondGiven
second_given_by code n given = second_given code n given.tolerance given.angles.now given.rounds.now (entries_given given)

abbrev pub second_given_lengths : SecondInput → List ℕ
second_given_lengths given =
    length given.angles.now ∷ length given.rounds.now ∷ length given.log_sines.now ∷ length given.differences.now
    ∷ length given.log_sides.now ∷ []

abbrev pub second_held : SecondRoom → SecondLent
second_held room =
    second_lent room.reduced.now room.side_reduced.now room.numerators_high.now room.numerators_low.now room.rounded.now room.adjusted.now
    room.adjusted_rounds.now room.rests.now

abbrev pub SameSecondSlices : (after before : SecondRoom) → Type 0
SameSecondSlices after before =
    (after.reduced.ghost_name ≡ before.reduced.ghost_name)
    × (after.side_reduced.ghost_name ≡ before.side_reduced.ghost_name)
    × (after.numerators_high.ghost_name ≡ before.numerators_high.ghost_name)
    × (after.numerators_low.ghost_name ≡ before.numerators_low.ghost_name)
    × (after.rounded.ghost_name ≡ before.rounded.ghost_name)
    × (after.adjusted.ghost_name ≡ before.adjusted.ghost_name)
    × (after.adjusted_rounds.ghost_name ≡ before.adjusted_rounds.ghost_name)
    × (after.rests.ghost_name ≡ before.rests.ghost_name)

-- The slices of a sheet's values, given and lent.
use Rattle.std.specs.Prelude.{◌≡◌, ℕ, List, [], ◌∷◌, ℤ, length}
use Rattle.sheet_rules.specs.declared.SheetRoom.{SheetRoom}
use Rattle.sheet_rules.specs.declared.SheetValues.{SheetValues}
use Rattle.sheet_rules.specs.Sheet.{Values, values_from}

-- what slices hold
pub record Slices : Type 0 where
  pub angles : List ℕ
  pub rounds : List ℕ
  pub fixed : List ℕ
  pub log_sines : List ℕ
  pub differences : List ℤ
  pub log_sides : List ℕ

abbrev pub slices : (angles rounds fixed log_sines : List ℕ) → (differences : List ℤ) → (log_sides : List ℕ) → Slices
slices a r f l d s = record { angles = a; rounds = r; fixed = f; log_sines = l; differences = d; log_sides = s }

abbrev pub slices_of : Values → Slices
slices_of v = slices v.angles v.rounds v.fixed v.log_sines v.differences v.log_sides

-- their lengths, for number 2
abbrev pub lengths_lent : Slices → List ℕ
lengths_lent lent =
    length lent.angles ∷ length lent.rounds ∷ length lent.fixed ∷ length lent.log_sines ∷ length lent.differences
    ∷ length lent.log_sides ∷ []

-- the values that are given in slices, with L or e
abbrev pub values_given : (limit_or_tolerance : ℕ) → SheetValues → Values
values_given bound v = values_from bound v.angles.now v.rounds.now v.fixed.now v.log_sines.now v.differences.now v.log_sides.now

-- what the slices that are lent hold
abbrev pub held_by : SheetRoom → Slices
held_by room = slices room.angles.now room.rounds.now room.fixed.now room.log_sines.now room.differences.now room.log_sides.now

-- the slices are the same ones: what one holds, whoever lent it finds there
abbrev pub SameSlices : (after before : SheetRoom) → Type 0
SameSlices after before =
    (after.angles.ghost_name ≡ before.angles.ghost_name)
    × (after.rounds.ghost_name ≡ before.rounds.ghost_name)
    × (after.fixed.ghost_name ≡ before.fixed.ghost_name)
    × (after.log_sines.ghost_name ≡ before.log_sines.ghost_name)
    × (after.differences.ghost_name ≡ before.differences.ghost_name)
    × (after.log_sides.ghost_name ≡ before.log_sides.ghost_name)

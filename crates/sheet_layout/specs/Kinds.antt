-- The kinds of packed sheets: document 01, "Packed sheets", and document 02, M-102 and M-106. A kind is data: its number, the pass that
-- it is for and whether each observed angle has its rounds after it, from which its fields follow (specs/Layout.antt), and what L or e of
-- 0 stands for in it.
use Rattle.std.specs.Prelude.{ℕ, Bool, true, false, List, [], ◌∷◌}
use Rattle.sheet_layout.specs.{declared.Kind.Kind, declared.KindRow.KindRow, declared.Pass.Pass}
use Rattle.sheet_layout.specs.declared.Kind.TheVariants.{One, Two, Three, Four, Five}

abbrev pub kind_from : (number : ℕ) → Pass → (default : ℕ) → (rounds : Bool) → KindRow
kind_from number pass default rounds = record { number = number; pass = pass; default = default; rounds = rounds }

-- a row for each; kind 3 has kind 1's fields. M-106: "kinds 4 and 5 are kinds 3 and 2" with rounds
abbrev pub row_of_kind : Kind → KindRow
row_of_kind One = kind_from 1 Pass.First 150 false
row_of_kind Two = kind_from 2 Pass.Second 10 false
row_of_kind Three = kind_from 3 Pass.First 90 false
row_of_kind Four = kind_from 4 Pass.First 90 true
row_of_kind Five = kind_from 5 Pass.Second 10 true

abbrev pub all_kinds : List Kind
all_kinds = One ∷ Two ∷ Three ∷ Four ∷ Five ∷ []

abbrev pub number_of_kind : Kind → ℕ
number_of_kind kind = (row_of_kind kind).number

abbrev pub pass_of : Kind → Pass
pass_of kind = (row_of_kind kind).pass

abbrev pub default_of : Kind → ℕ
default_of kind = (row_of_kind kind).default

abbrev pub carries_rounds : Kind → Bool
carries_rounds kind = (row_of_kind kind).rounds

-- what belongs to the first pass or to the second
abbrev pub of_pass : {A : Type 0} → Pass → (first second : A) → A
of_pass Pass.First first second = first
of_pass Pass.Second first second = second

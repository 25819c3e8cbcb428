-- The rows of the table, each once: document 01, "Numbers given when a sheet is turned back". An operation's order is a list of these.
use Rattle.std.specs.Prelude.{ℕ, ◌+◌, ◌*◌, Bool, cond, List, [], ◌∷◌, eqb, ℤ, pos, neg_ℤ, ◌*ℤ◌, length}
use Rattle.refusals.specs.{Numbers.numbered, Order.Row, Order.row, Order.row_at}
use Rattle.refusals.specs.Questions.{Question, less, less_signed, unequal, differ, none_of, is_zero, some_one, either, some_at, outside, outside_signed}
use Rattle.refusals.specs.Ranges.{least_angle, most_angle, least_log_sine, most_log_sine, most_difference, least_rounds}

-- 1: code and n name no figure; `names` are the code and n of each
abbrev pub figure_row : (code n : ℕ) → (names : List (List ℕ)) → Row
figure_row code n names = row 1 (none_of (code ∷ n ∷ []) names)

-- 2: a lent slice has not exactly its length
abbrev pub lengths_row : (lent own : List ℕ) → Row
lengths_row lent own = row 2 (differ lent own)

-- 3: L or e outside range, which is from 0
abbrev pub limit_or_tolerance_row : (most value : ℕ) → Row
limit_or_tolerance_row most value = row 3 (less most value)

-- 4: angle outside range; its place is the angle
abbrev pub angles_row : (angles : List ℕ) → Row
angles_row angles = row_at 4 (length angles) (λ p. outside least_angle most_angle (numbered angles p 0))

-- 5: fixed angle outside range; its place is its number
abbrev pub fixed_row : (fixed : List ℕ) → Row
fixed_row fixed = row_at 5 (length fixed) (λ p. outside least_angle most_angle (numbered fixed p 0))

-- 6: misclosure beyond ±L; its place is the condition
abbrev pub misclosures_row : (limit : ℕ) → (misclosures : List ℤ) → Row
misclosures_row limit misclosures =
    row_at 6 (length misclosures) (λ p. outside_signed (neg_ℤ (pos limit)) (pos limit) (numbered misclosures p (pos 0)))

-- 7: corrected or adjusted angle outside range; its place is the angle
abbrev pub results_row : (results : List ℤ) → Row
results_row results = row_at 7 (length results) (λ p. outside_signed (pos least_angle) (pos most_angle) (numbered results p (pos 0)))

-- 8: log-sine, difference or log side outside range; its place is the angle, and log sides are numbered on after the last angle (M-100)
abbrev pub sine_entry_outside : (log_sine : ℕ) → (difference : ℤ) → Question
sine_entry_outside log_sine difference =
    either (outside least_log_sine most_log_sine log_sine) (outside_signed (neg_ℤ (pos most_difference)) (pos most_difference) difference)

abbrev pub sine_entries_row : (log_sines : List ℕ) → (differences : List ℤ) → Row
sine_entries_row log_sines differences =
    row_at 8 (length log_sines) (λ p. sine_entry_outside (numbered log_sines p 0) (numbered differences p (pos 0)))

-- 9: 100·W² exceeds e² times the sum of d²
abbrev pub sine_misclosure_row : (tolerance : ℕ) → (w differenceSquares : ℤ) → Row
sine_misclosure_row e w differenceSquares = row 9 (less_signed (pos (e * e) *ℤ differenceSquares) (pos 100 *ℤ (w *ℤ w)))

-- 10: S is 0
abbrev pub sum_of_squares_row : (s : ℤ) → Row
sum_of_squares_row s = row 10 (is_zero s)

-- 11: kind is none of the kinds' numbers
abbrev pub kind_row : (kind : ℕ) → (kinds : List (List ℕ)) → Row
kind_row kind kinds = row 11 (none_of (kind ∷ []) kinds)

-- 12: sheet too short or too long
abbrev pub sheet_short_row : (least size : ℕ) → Row
sheet_short_row least size = row 12 (less size least)

abbrev pub sheet_size_row : (size own : ℕ) → Row
sheet_size_row size own = row 12 (unequal size own)

-- 13: a filling bit is 1
abbrev pub filling_row : (bits : List Bool) → Row
filling_row bits = row 13 (some_one bits)

-- 14: the fixed angles do not sum to 180° where there are three (n = 3), to 360° where there are four (n = 4), document 02, M-101; where
-- there are none, their sum is 0
abbrev pub fixed_sum : (count : ℕ) → ℕ
fixed_sum count = cond (eqb count 3) 6_480_000 (cond (eqb count 4) 12_960_000 0)

abbrev pub sum_of_all : List ℕ → ℕ
sum_of_all [] = 0
sum_of_all (value ∷ others) = value + sum_of_all others

abbrev pub fixed_sum_row : (fixed : List ℕ) → Row
fixed_sum_row fixed = row 14 (unequal (sum_of_all fixed) (fixed_sum (length fixed)))

-- 15: an offered choice breaks one of the two rules of document 02, M-104: at some angle it is not the whole tenth just below or just
-- above the exact correction, or at some condition the rest is not 0
abbrev pub choice_row : (below above offered rests : List ℤ) → Row
choice_row below above offered rests =
    row 15 (either
    (some_at (length offered) (λ p. outside_signed (numbered below p (pos 0)) (numbered above p (pos 0)) (numbered offered p (pos 0))))
    (some_at (length rests) (λ p. outside_signed (pos 0) (pos 0) (numbered rests p (pos 0)))))

-- 16: rounds outside range, document 02, M-106; its place is the angle. An angle has at most 255, and one of a kind of sheet without
-- rounds exactly one
abbrev pub rounds_row : (most : ℕ) → (rounds : List ℕ) → Row
rounds_row most rounds = row_at 16 (length rounds) (λ p. outside least_rounds most (numbered rounds p 0))

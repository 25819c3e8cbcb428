-- The lines of Lines.antt, of what a worked sheet's slices hold.
use Rattle.std.specs.Prelude.{List, ℕ, pos}
use Rattle.whole.specs.Sums.{naturals, vector}
use Rattle.wide_words.specs.Words.{joined}
use Rattle.lines.specs.Lines.{first_angle, first_condition, first_text, second_figure, second_angle, second_condition, second_text, wide_numbers}
use Rattle.lines.specs.declared.{first.FirstWorked.FirstWorked, second.SecondWorked.SecondWorked}

-- ---- Kind 1

abbrev pub first_angle_of : FirstWorked → ℕ → List (List ℕ)
first_angle_of w =
    first_angle (naturals w.given.now) (naturals w.rounds.now) (vector w.numerators.now) (vector w.rounded.now) (naturals w.results.now)

abbrev pub first_condition_of : FirstWorked → ℕ → List (List ℕ)
first_condition_of w = first_condition (vector w.misclosures.now) (vector w.rests.now)

abbrev pub first_text_of : FirstWorked → List ℕ
first_text_of w =
    first_text w.figure (naturals w.given.now) (naturals w.rounds.now) (vector w.numerators.now) (vector w.rounded.now) (naturals w.results.now)
    (vector w.misclosures.now) (vector w.rests.now)

-- ---- Kind 2

abbrev pub second_figure_of : SecondWorked → List (List ℕ)
second_figure_of w = second_figure w.figure w.misclosure w.side_misclosure (joined (pos w.divisor_high) w.divisor_low)

abbrev pub second_angle_of : SecondWorked → ℕ → List (List ℕ)
second_angle_of w =
    second_angle w.figure (naturals w.given.now) (naturals w.rounds.now) (vector w.reduced.now) (vector w.side_reduced.now)
    (wide_numbers w.numerators_high.now w.numerators_low.now) (vector w.rounded.now) (naturals w.results.now)

abbrev pub second_condition_of : SecondWorked → ℕ → List (List ℕ)
second_condition_of w = second_condition (vector w.rests.now)

abbrev pub second_text_of : SecondWorked → List ℕ
second_text_of w =
    second_text w.figure w.misclosure w.side_misclosure (joined (pos w.divisor_high) w.divisor_low) (naturals w.given.now) (naturals w.rounds.now)
    (vector w.reduced.now) (vector w.side_reduced.now) (wide_numbers w.numerators_high.now w.numerators_low.now) (vector w.rounded.now)
    (naturals w.results.now) (vector w.rests.now)

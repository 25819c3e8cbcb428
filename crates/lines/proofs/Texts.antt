-- What the functions lay, piece by piece, are the lines of the definitions. Assumes nothing.
use Rattle.std.specs.Prelude.{◌≡◌, refl, Bool, true, false, List, [], ◌∷◌, ◌++◌, ℕ, ◌≤◌, T, ltb, pos}
use Rattle.vocabulary.specs.{sym, ap, ◌∙◌, bool-beq, append_assoc, append-nil, arith}
use Rattle.whole.specs.Lists.{listed}
use Rattle.refusals.specs.{declared.Refusal.Refusal, Numbers.number_of, Numbers.place_of}
use Rattle.figures.specs.{declared.Figure.Figure, declared.Counts.Counts}
use Rattle.figures.specs.Figure.{angle_count, condition_count, side_count, has_side, counts_of}
use Rattle.figures.proofs.Figures.{each_figure, angle_bound, condition_bound}
use Rattle.text.specs.{Text.space, Text.line_feed, Text.decimal, Text.spaced, Text.line, Text.lines}
use Rattle.text.proofs.Lines.{lines_append}
use Rattle.lines.specs.{Lays.all_lines, Lines.refused_word, Lines.refused_lines, Lines.refused_text}
use Rattle.lines.proofs.Laid.{part_line}

-- ---- A side condition

same : (a b : Bool) → T (bool-beq a b) → a ≡ b
same true true t = refl
same true false t = absurd t
same false true t = absurd t
same false false t = refl

-- a figure has known sides where it has a side condition
pub side_known : (f : Figure) → ltb 0 (side_count f) ≡ has_side f
side_known f = same (ltb 0 (side_count f)) (has_side f) (each_figure (λ g. bool-beq (ltb 0 (side_count g)) (has_side g)) tt f)

-- ---- All lines

-- at most as many as the largest figure has
pub few_lines : (f : Figure) {counts : Counts} → counts ≡ counts_of f → (counts.angles ≤ 24) × (counts.conditions ≤ 24)
few_lines f counted =
    (omega (arith, ap (λ (r : Counts). r.angles) counted, angle_bound f), omega (arith, ap (λ (r : Counts). r.conditions) counted, condition_bound f))

-- the figure's line, then those of its angles, then those of its conditions
pub all_text : (f : Figure) (figure : List (List ℕ)) (angle condition : ℕ → List (List ℕ))
    → (line figure ++ lines (listed (angle_count f) angle)) ++ lines (listed (condition_count f) condition) ≡ lines (all_lines f figure angle condition)
unfolding lines
all_text f figure angle condition =
    append_assoc (line figure) (lines (listed (angle_count f) angle)) (lines (listed (condition_count f) condition))
    ∙ ap (λ (l : List ℕ). line figure ++ l) (sym (lines_append (listed (angle_count f) angle) (listed (condition_count f) condition)))

-- ---- Turned back

pub refused_text_lem : (refusal : Refusal)
    → (refused_word ++ (space ∷ [])) ++ ((decimal (pos (number_of refusal)) ++ (space ∷ [])) ++ (decimal (pos (place_of refusal)) ++ (line_feed ∷ []))) ≡ refused_text refusal
unfolding refused_text refused_lines lines line spaced
refused_text_lem refusal =
    let number = decimal (pos (number_of refusal)) in
    let place = decimal (pos (place_of refusal)) in
    ap (λ (l : List ℕ). (refused_word ++ (space ∷ [])) ++ l) (part_line number place [])
    ∙ part_line refused_word number (place ∷ [])
    ∙ sym (append-nil (line (refused_word ∷ number ∷ place ∷ [])))

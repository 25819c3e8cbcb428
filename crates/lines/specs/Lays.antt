-- Pieces of text that are laid one after the other.
use Rattle.std.specs.Prelude.{List, [], ◌∷◌, ◌++◌, ℕ, ℤ}
use Rattle.whole.specs.Lists.{listed}
use Rattle.figures.specs.declared.Figure.{Figure}
use Rattle.figures.specs.Figure.{angle_count, condition_count}
use Rattle.text.specs.Text.{space, spaced}
use Rattle.lines.specs.Lines.{numbers}

-- how a line begins: these parts, each with the space after it
unfoldable pub line_start : List (List ℕ) → List ℕ
line_start [] = []
line_start (p ∷ ps) = p ++ (space ∷ line_start ps)

-- numbers, one space between, and the byte that ends them
unfoldable pub numbers_ended : List ℤ → (end : ℕ) → List ℕ
numbers_ended values end = spaced (numbers values) ++ (end ∷ [])

-- a figure's line, then one for each of its angles and of its conditions
abbrev pub all_lines : Figure → (figure : List (List ℕ)) → (angle condition : ℕ → List (List ℕ)) → List (List (List ℕ))
all_lines f figure angle condition = figure ∷ (listed (angle_count f) angle ++ listed (condition_count f) condition)

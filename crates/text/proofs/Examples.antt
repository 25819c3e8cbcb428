-- The first two lines that document 01, "Sheets worked through", prints, computed from the definitions: "figure 1 0 denominator 8" and
-- "1 1620004 -12 -2 1620002". And the ends of the range of a 64-bit number. Assumes nothing.
use Rattle.std.specs.Prelude.{◌≡◌, refl, List, [], ◌∷◌, map, ℕ, pos, negsuc, length}
use Rattle.text.specs.Text.{decimal, natural, digits, lines, line, spaced}

figure : List ℕ
figure = 102 ∷ 105 ∷ 103 ∷ 117 ∷ 114 ∷ 101 ∷ []

denominator : List ℕ
denominator = 100 ∷ 101 ∷ 110 ∷ 111 ∷ 109 ∷ 105 ∷ 110 ∷ 97 ∷ 116 ∷ 111 ∷ 114 ∷ []

two_lines : lines ((figure ∷ decimal (pos 1) ∷ decimal (pos 0) ∷ denominator ∷ decimal (pos 8) ∷ []) ∷ map decimal (pos 1 ∷ pos 1620004 ∷ negsuc 11 ∷ negsuc 1 ∷ pos 1620002 ∷ []) ∷ [])
    ≡ 102 ∷ 105 ∷ 103 ∷ 117 ∷ 114 ∷ 101 ∷ 32 ∷ 49 ∷ 32 ∷ 48 ∷ 32 ∷ 100 ∷ 101 ∷ 110 ∷ 111 ∷ 109 ∷ 105 ∷ 110 ∷ 97 ∷ 116 ∷ 111 ∷ 114 ∷ 32 ∷ 56 ∷ 10 ∷ 49 ∷ 32 ∷ 49 ∷ 54 ∷ 50 ∷ 48 ∷ 48 ∷ 48 ∷ 52 ∷ 32 ∷ 45 ∷ 49 ∷ 50 ∷ 32 ∷ 45 ∷ 50 ∷ 32 ∷ 49 ∷ 54 ∷ 50 ∷ 48 ∷ 48 ∷ 48 ∷ 50 ∷ 10 ∷ []
unfolding figure denominator lines line spaced decimal natural digits
two_lines = refl

longest : length (decimal (negsuc (9223372036854775807))) ≡ 20
unfolding decimal natural digits
longest = refl

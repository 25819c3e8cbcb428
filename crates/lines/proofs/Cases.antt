-- Document 01's printed sheets and its refusal, "Sheets worked through": the texts of the definitions, of the numbers that stand there,
-- are the printed bytes, line by line as printed, each angle's with its one round at the end (document 02, M-106). Assumes nothing.
use Rattle.std.specs.Prelude.{◌≡◌, refl, List, [], ◌∷◌, ℕ, pos, negsuc}
use Rattle.whole.specs.{Lists.listed, Sums.vector}
use Rattle.refusals.specs.declared.Refusal.{Refusal}
use Rattle.figures.specs.declared.Figure.TheVariants.{Quadrilateral}
use Rattle.text.specs.Text.{decimal, natural, digits, lines, line, spaced}
use Rattle.lines.specs.Lines.{figure_word, denominator_word, w_word, s_word, condition_word, refused_word, first_lines, first_text, second_lines, second_text, refused_lines, refused_text}

-- for kind 1, code 1, L = 0, angle 1 of 1620004 and seven of 1620000; halves as M-105 has them
abbrev first_printed : List ℕ
first_printed =
    -- figure 1 0 denominator 8
    102 ∷ 105 ∷ 103 ∷ 117 ∷ 114 ∷ 101 ∷ 32 ∷ 49 ∷ 32 ∷ 48 ∷ 32 ∷ 100 ∷ 101 ∷ 110 ∷ 111 ∷ 109 ∷ 105 ∷ 110 ∷ 97 ∷ 116 ∷ 111 ∷ 114 ∷ 32 ∷ 56 ∷ 10
    -- 1 1620004 -12 -2 1620002 1
    ∷ 49 ∷ 32 ∷ 49 ∷ 54 ∷ 50 ∷ 48 ∷ 48 ∷ 48 ∷ 52 ∷ 32 ∷ 45 ∷ 49 ∷ 50 ∷ 32 ∷ 45 ∷ 50 ∷ 32 ∷ 49 ∷ 54 ∷ 50 ∷ 48 ∷ 48 ∷ 48 ∷ 50 ∷ 32 ∷ 49 ∷ 10
    -- 2 1620000 -12 -2 1619998 1
    ∷ 50 ∷ 32 ∷ 49 ∷ 54 ∷ 50 ∷ 48 ∷ 48 ∷ 48 ∷ 48 ∷ 32 ∷ 45 ∷ 49 ∷ 50 ∷ 32 ∷ 45 ∷ 50 ∷ 32 ∷ 49 ∷ 54 ∷ 49 ∷ 57 ∷ 57 ∷ 57 ∷ 56 ∷ 32 ∷ 49 ∷ 10
    -- 3 1620000 -4 0 1620000 1
    ∷ 51 ∷ 32 ∷ 49 ∷ 54 ∷ 50 ∷ 48 ∷ 48 ∷ 48 ∷ 48 ∷ 32 ∷ 45 ∷ 52 ∷ 32 ∷ 48 ∷ 32 ∷ 49 ∷ 54 ∷ 50 ∷ 48 ∷ 48 ∷ 48 ∷ 48 ∷ 32 ∷ 49 ∷ 10
    -- 4 1620000 -4 0 1620000 1
    ∷ 52 ∷ 32 ∷ 49 ∷ 54 ∷ 50 ∷ 48 ∷ 48 ∷ 48 ∷ 48 ∷ 32 ∷ 45 ∷ 52 ∷ 32 ∷ 48 ∷ 32 ∷ 49 ∷ 54 ∷ 50 ∷ 48 ∷ 48 ∷ 48 ∷ 48 ∷ 32 ∷ 49 ∷ 10
    -- 5 1620000 4 0 1620000 1
    ∷ 53 ∷ 32 ∷ 49 ∷ 54 ∷ 50 ∷ 48 ∷ 48 ∷ 48 ∷ 48 ∷ 32 ∷ 52 ∷ 32 ∷ 48 ∷ 32 ∷ 49 ∷ 54 ∷ 50 ∷ 48 ∷ 48 ∷ 48 ∷ 48 ∷ 32 ∷ 49 ∷ 10
    -- 6 1620000 4 0 1620000 1
    ∷ 54 ∷ 32 ∷ 49 ∷ 54 ∷ 50 ∷ 48 ∷ 48 ∷ 48 ∷ 48 ∷ 32 ∷ 52 ∷ 32 ∷ 48 ∷ 32 ∷ 49 ∷ 54 ∷ 50 ∷ 48 ∷ 48 ∷ 48 ∷ 48 ∷ 32 ∷ 49 ∷ 10
    -- 7 1620000 -4 0 1620000 1
    ∷ 55 ∷ 32 ∷ 49 ∷ 54 ∷ 50 ∷ 48 ∷ 48 ∷ 48 ∷ 48 ∷ 32 ∷ 45 ∷ 52 ∷ 32 ∷ 48 ∷ 32 ∷ 49 ∷ 54 ∷ 50 ∷ 48 ∷ 48 ∷ 48 ∷ 48 ∷ 32 ∷ 49 ∷ 10
    -- 8 1620000 -4 0 1620000 1
    ∷ 56 ∷ 32 ∷ 49 ∷ 54 ∷ 50 ∷ 48 ∷ 48 ∷ 48 ∷ 48 ∷ 32 ∷ 45 ∷ 52 ∷ 32 ∷ 48 ∷ 32 ∷ 49 ∷ 54 ∷ 50 ∷ 48 ∷ 48 ∷ 48 ∷ 48 ∷ 32 ∷ 49 ∷ 10
    -- condition 1 4 0
    ∷ 99 ∷ 111 ∷ 110 ∷ 100 ∷ 105 ∷ 116 ∷ 105 ∷ 111 ∷ 110 ∷ 32 ∷ 49 ∷ 32 ∷ 52 ∷ 32 ∷ 48 ∷ 10
    -- condition 2 0 0
    ∷ 99 ∷ 111 ∷ 110 ∷ 100 ∷ 105 ∷ 116 ∷ 105 ∷ 111 ∷ 110 ∷ 32 ∷ 50 ∷ 32 ∷ 48 ∷ 32 ∷ 48 ∷ 10
    -- condition 3 0 0
    ∷ 99 ∷ 111 ∷ 110 ∷ 100 ∷ 105 ∷ 116 ∷ 105 ∷ 111 ∷ 110 ∷ 32 ∷ 51 ∷ 32 ∷ 48 ∷ 32 ∷ 48 ∷ 10 ∷ []

pub first_sheet_lem : first_text Quadrilateral
    (vector (pos 1620004 ∷ pos 1620000 ∷ pos 1620000 ∷ pos 1620000 ∷ pos 1620000 ∷ pos 1620000 ∷ pos 1620000 ∷ pos 1620000 ∷ []))
    (vector (pos 1 ∷ pos 1 ∷ pos 1 ∷ pos 1 ∷ pos 1 ∷ pos 1 ∷ pos 1 ∷ pos 1 ∷ []))
    (vector (negsuc 11 ∷ negsuc 11 ∷ negsuc 3 ∷ negsuc 3 ∷ pos 4 ∷ pos 4 ∷ negsuc 3 ∷ negsuc 3 ∷ []))
    (vector (negsuc 1 ∷ negsuc 1 ∷ pos 0 ∷ pos 0 ∷ pos 0 ∷ pos 0 ∷ pos 0 ∷ pos 0 ∷ []))
    (vector (pos 1620002 ∷ pos 1619998 ∷ pos 1620000 ∷ pos 1620000 ∷ pos 1620000 ∷ pos 1620000 ∷ pos 1620000 ∷ pos 1620000 ∷ []))
    (vector (pos 4 ∷ pos 0 ∷ pos 0 ∷ []))
    (vector (pos 0 ∷ pos 0 ∷ pos 0 ∷ []))
    ≡ first_printed
unfolding figure_word denominator_word condition_word first_text first_lines listed lines line spaced decimal natural digits
first_sheet_lem = refl

-- for kind 2, code 1, e = 0, the differences whose signed values are case 6, angles all 1620000
abbrev second_printed : List ℕ
second_printed =
    -- figure 1 0 W 100 S 24315176
    102 ∷ 105 ∷ 103 ∷ 117 ∷ 114 ∷ 101 ∷ 32 ∷ 49 ∷ 32 ∷ 48 ∷ 32 ∷ 87 ∷ 32 ∷ 49 ∷ 48 ∷ 48 ∷ 32 ∷ 83 ∷ 32 ∷ 50 ∷ 52 ∷ 51 ∷ 49 ∷ 53 ∷ 49 ∷ 55 ∷ 54 ∷ 10
    -- 1 1620000 2049 -163920000 -7 1619993 1
    ∷ 49 ∷ 32 ∷ 49 ∷ 54 ∷ 50 ∷ 48 ∷ 48 ∷ 48 ∷ 48 ∷ 32 ∷ 50 ∷ 48 ∷ 52 ∷ 57 ∷ 32 ∷ 45 ∷ 49 ∷ 54 ∷ 51 ∷ 57 ∷ 50 ∷ 48 ∷ 48 ∷ 48 ∷ 48 ∷ 32 ∷ 45 ∷ 55 ∷ 32 ∷ 49 ∷ 54 ∷ 49 ∷ 57 ∷ 57 ∷ 57 ∷ 51 ∷ 32 ∷ 49 ∷ 10
    -- 2 1620000 -1703 136240000 6 1620006 1
    ∷ 50 ∷ 32 ∷ 49 ∷ 54 ∷ 50 ∷ 48 ∷ 48 ∷ 48 ∷ 48 ∷ 32 ∷ 45 ∷ 49 ∷ 55 ∷ 48 ∷ 51 ∷ 32 ∷ 49 ∷ 51 ∷ 54 ∷ 50 ∷ 52 ∷ 48 ∷ 48 ∷ 48 ∷ 48 ∷ 32 ∷ 54 ∷ 32 ∷ 49 ∷ 54 ∷ 50 ∷ 48 ∷ 48 ∷ 48 ∷ 54 ∷ 32 ∷ 49 ∷ 10
    -- 3 1620000 1483 -118640000 -5 1619995 1
    ∷ 51 ∷ 32 ∷ 49 ∷ 54 ∷ 50 ∷ 48 ∷ 48 ∷ 48 ∷ 48 ∷ 32 ∷ 49 ∷ 52 ∷ 56 ∷ 51 ∷ 32 ∷ 45 ∷ 49 ∷ 49 ∷ 56 ∷ 54 ∷ 52 ∷ 48 ∷ 48 ∷ 48 ∷ 48 ∷ 32 ∷ 45 ∷ 53 ∷ 32 ∷ 49 ∷ 54 ∷ 49 ∷ 57 ∷ 57 ∷ 57 ∷ 53 ∷ 32 ∷ 49 ∷ 10
    -- 4 1620000 -1829 146320000 6 1620006 1
    ∷ 52 ∷ 32 ∷ 49 ∷ 54 ∷ 50 ∷ 48 ∷ 48 ∷ 48 ∷ 48 ∷ 32 ∷ 45 ∷ 49 ∷ 56 ∷ 50 ∷ 57 ∷ 32 ∷ 49 ∷ 52 ∷ 54 ∷ 51 ∷ 50 ∷ 48 ∷ 48 ∷ 48 ∷ 48 ∷ 32 ∷ 54 ∷ 32 ∷ 49 ∷ 54 ∷ 50 ∷ 48 ∷ 48 ∷ 48 ∷ 54 ∷ 32 ∷ 49 ∷ 10
    -- 5 1620000 1977 -158160000 -7 1619993 1
    ∷ 53 ∷ 32 ∷ 49 ∷ 54 ∷ 50 ∷ 48 ∷ 48 ∷ 48 ∷ 48 ∷ 32 ∷ 49 ∷ 57 ∷ 55 ∷ 55 ∷ 32 ∷ 45 ∷ 49 ∷ 53 ∷ 56 ∷ 49 ∷ 54 ∷ 48 ∷ 48 ∷ 48 ∷ 48 ∷ 32 ∷ 45 ∷ 55 ∷ 32 ∷ 49 ∷ 54 ∷ 49 ∷ 57 ∷ 57 ∷ 57 ∷ 51 ∷ 32 ∷ 49 ∷ 10
    -- 6 1620000 -1631 130480000 5 1620005 1
    ∷ 54 ∷ 32 ∷ 49 ∷ 54 ∷ 50 ∷ 48 ∷ 48 ∷ 48 ∷ 48 ∷ 32 ∷ 45 ∷ 49 ∷ 54 ∷ 51 ∷ 49 ∷ 32 ∷ 49 ∷ 51 ∷ 48 ∷ 52 ∷ 56 ∷ 48 ∷ 48 ∷ 48 ∷ 48 ∷ 32 ∷ 53 ∷ 32 ∷ 49 ∷ 54 ∷ 50 ∷ 48 ∷ 48 ∷ 48 ∷ 53 ∷ 32 ∷ 49 ∷ 10
    -- 7 1620000 1415 -113200000 -5 1619995 1
    ∷ 55 ∷ 32 ∷ 49 ∷ 54 ∷ 50 ∷ 48 ∷ 48 ∷ 48 ∷ 48 ∷ 32 ∷ 49 ∷ 52 ∷ 49 ∷ 53 ∷ 32 ∷ 45 ∷ 49 ∷ 49 ∷ 51 ∷ 50 ∷ 48 ∷ 48 ∷ 48 ∷ 48 ∷ 48 ∷ 32 ∷ 45 ∷ 53 ∷ 32 ∷ 49 ∷ 54 ∷ 49 ∷ 57 ∷ 57 ∷ 57 ∷ 53 ∷ 32 ∷ 49 ∷ 10
    -- 8 1620000 -1761 140880000 6 1620006 1
    ∷ 56 ∷ 32 ∷ 49 ∷ 54 ∷ 50 ∷ 48 ∷ 48 ∷ 48 ∷ 48 ∷ 32 ∷ 45 ∷ 49 ∷ 55 ∷ 54 ∷ 49 ∷ 32 ∷ 49 ∷ 52 ∷ 48 ∷ 56 ∷ 56 ∷ 48 ∷ 48 ∷ 48 ∷ 48 ∷ 32 ∷ 54 ∷ 32 ∷ 49 ∷ 54 ∷ 50 ∷ 48 ∷ 48 ∷ 48 ∷ 54 ∷ 32 ∷ 49 ∷ 10
    -- condition 1 0
    ∷ 99 ∷ 111 ∷ 110 ∷ 100 ∷ 105 ∷ 116 ∷ 105 ∷ 111 ∷ 110 ∷ 32 ∷ 49 ∷ 32 ∷ 48 ∷ 10
    -- condition 2 -1
    ∷ 99 ∷ 111 ∷ 110 ∷ 100 ∷ 105 ∷ 116 ∷ 105 ∷ 111 ∷ 110 ∷ 32 ∷ 50 ∷ 32 ∷ 45 ∷ 49 ∷ 10
    -- condition 3 -1
    ∷ 99 ∷ 111 ∷ 110 ∷ 100 ∷ 105 ∷ 116 ∷ 105 ∷ 111 ∷ 110 ∷ 32 ∷ 51 ∷ 32 ∷ 45 ∷ 49 ∷ 10 ∷ []

pub second_sheet_lem : second_text Quadrilateral (pos 100) (pos 0) (pos 24315176)
    (vector (pos 1620000 ∷ pos 1620000 ∷ pos 1620000 ∷ pos 1620000 ∷ pos 1620000 ∷ pos 1620000 ∷ pos 1620000 ∷ pos 1620000 ∷ []))
    (vector (pos 1 ∷ pos 1 ∷ pos 1 ∷ pos 1 ∷ pos 1 ∷ pos 1 ∷ pos 1 ∷ pos 1 ∷ []))
    (vector (pos 2049 ∷ negsuc 1702 ∷ pos 1483 ∷ negsuc 1828 ∷ pos 1977 ∷ negsuc 1630 ∷ pos 1415 ∷ negsuc 1760 ∷ []))
    (vector [])
    (vector (negsuc 163919999 ∷ pos 136240000 ∷ negsuc 118639999 ∷ pos 146320000 ∷ negsuc 158159999 ∷ pos 130480000 ∷ negsuc 113199999 ∷ pos 140880000 ∷ []))
    (vector (negsuc 6 ∷ pos 6 ∷ negsuc 4 ∷ pos 6 ∷ negsuc 6 ∷ pos 5 ∷ negsuc 4 ∷ pos 6 ∷ []))
    (vector (pos 1619993 ∷ pos 1620006 ∷ pos 1619995 ∷ pos 1620006 ∷ pos 1619993 ∷ pos 1620005 ∷ pos 1619995 ∷ pos 1620006 ∷ []))
    (vector (pos 0 ∷ negsuc 0 ∷ negsuc 0 ∷ []))
    ≡ second_printed
unfolding figure_word w_word s_word condition_word second_text second_lines listed lines line spaced decimal natural digits
second_sheet_lem = refl

-- turned back
abbrev refused_printed : List ℕ
refused_printed =
    -- refused 6 1
    114 ∷ 101 ∷ 102 ∷ 117 ∷ 115 ∷ 101 ∷ 100 ∷ 32 ∷ 54 ∷ 32 ∷ 49 ∷ 10 ∷ []

pub refused_sheet_lem : refused_text (Refusal.MisclosureBeyondLimit 1) ≡ refused_printed
unfolding refused_word refused_text refused_lines lines line spaced decimal natural digits
refused_sheet_lem = refl

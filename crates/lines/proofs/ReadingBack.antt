-- A printed text read back, line by line and part by part, gives the lines of the definitions, and each number on them the value it
-- stands for: so no line can print another value. Assumes nothing.
use Rattle.std.specs.Prelude.{◌≡◌, refl, Bool, true, false, cond, List, [], ◌∷◌, ◌++◌, map, ℕ, zero, suc, ◌+◌, ◌<◌, T, ℤ, pos, get_or, drop}
use Rattle.vocabulary.specs.{sym, ap, ◌∙◌, list-get_or_append, get_or-append-add}
use Rattle.whole.specs.Lists.{every, listed}
use Rattle.whole.proofs.Lists.{length_listed, get_or_listed}
use Rattle.refusals.specs.{declared.Refusal.Refusal, Numbers.number_of, Numbers.place_of}
use Rattle.figures.specs.declared.Figure.{Figure}
use Rattle.figures.specs.Figure.{description, denominator, angle_count, condition_count, has_side}
use Rattle.text.specs.Text.{decimal, is_word, read_number, read_lines}
use Rattle.text.proofs.{Numbers.decimal_word, Numbers.decimal_words, Numbers.read_decimal, Numbers.read_decimals, Lines.read_lines_lem}
use Rattle.text.proofs.Tests.{and_both, every_append}
use Rattle.lines.specs.Lines.{figure_word, denominator_word, w_word, s_word, determinant_word, condition_word, refused_word, numbers, figure_named, first_figure, first_angle, first_condition, first_lines, first_text, divisor_words, coefficients, second_figure, second_angle, second_condition, second_lines, second_text, refused_lines, refused_text}

-- ---- Every part is a word

module _ {A : Type 0} (test : A → Bool) where
  every_listed : (n : ℕ) (f : ℕ → A) → ((i : ℕ) → T (test (f i))) → T (every test (listed n f))
  unfolding listed
  every_listed zero f h = tt
  every_listed (suc n) f h = and_both (test (f 0)) (every test (listed n (λ i. f (suc i)))) (h 0) (every_listed n (λ i. f (suc i)) (λ i. h (suc i)))

  every_cons : (x : A) (xs : List A) → T (test x) → T (every test xs) → T (every test (x ∷ xs))
  every_cons x xs t u = and_both (test x) (every test xs) t u

word_then : (p : List ℕ) (ps : List (List ℕ)) → T (is_word p) → T (every is_word ps) → T (every is_word (p ∷ ps))
word_then p ps t u = every_cons is_word p ps t u

number_then : (z : ℤ) (ps : List (List ℕ)) → T (every is_word ps) → T (every is_word (decimal z ∷ ps))
number_then z ps u = word_then (decimal z) ps (decimal_word z) u

figure_words : (f : Figure) (ps : List (List ℕ)) → T (every is_word ps) → T (every is_word (figure_named f ps))
unfolding figure_word
figure_words f ps t =
    word_then figure_word (decimal (pos (description f).code) ∷ decimal (pos (description f).n) ∷ ps) tt
    (number_then (pos (description f).code) (decimal (pos (description f).n) ∷ ps) (number_then (pos (description f).n) ps t))

condition_words : (zs : List ℤ) → T (every is_word (condition_word ∷ numbers zs))
unfolding condition_word
condition_words zs = word_then condition_word (numbers zs) tt (decimal_words zs)

-- a figure's line, then a line for each angle and for each condition
module _ (a c : ℕ) (figure : List (List ℕ)) (angle condition : ℕ → List (List ℕ)) where
  all_words : T (every is_word figure) → ((i : ℕ) → T (every is_word (angle i))) → ((j : ℕ) → T (every is_word (condition j)))
      → T (every (every is_word) (figure ∷ (listed a angle ++ listed c condition)))
  all_words t u v =
      every_cons (every is_word) figure (listed a angle ++ listed c condition) t
      (every_append (every is_word) (listed a angle) (listed c condition) (every_listed (every is_word) a angle u) (every_listed (every is_word) c condition v))

  angle_line : (i : ℕ) → i < a → get_or (figure ∷ (listed a angle ++ listed c condition)) (suc i) [] ≡ angle i
  angle_line i h =
      list-get_or_append (listed a angle) (listed c condition) [] i (rw (length_listed a angle) h) ∙ get_or_listed a angle i [] h

  condition_line : (j : ℕ) → j < c → get_or (figure ∷ (listed a angle ++ listed c condition)) (suc (a + j)) [] ≡ condition j
  condition_line j h =
      ap (λ (k : ℕ). get_or (listed a angle ++ listed c condition) (k + j) []) (sym (length_listed a angle))
      ∙ get_or-append-add (listed a angle) (listed c condition) j [] ∙ get_or_listed c condition j [] h

-- the parts of a line of a text, the figure's line counted as 0; and the numbers of such a part onwards
abbrev pub line_at : List ℕ → ℕ → List (List ℕ)
line_at text k = get_or (read_lines text) k []

abbrev pub numbers_from : ℕ → List (List ℕ) → List ℤ
numbers_from k parts = map read_number (drop k parts)

-- the last part of a line
abbrev pub last_part : List (List ℕ) → List ℕ
last_part [] = []
last_part (p ∷ []) = p
last_part (p ∷ q ∷ ps) = last_part (q ∷ ps)

-- ---- Kind 1

module _ (f : Figure) (given rounds numerators rounded results misclosures rests : ℕ → ℤ) where
  first_words : T (every (every is_word) (first_lines f given rounds numerators rounded results misclosures rests))
  unfolding first_lines denominator_word
  first_words =
      all_words (angle_count f) (condition_count f) (first_figure f) (first_angle given rounds numerators rounded results) (first_condition misclosures rests)
      (figure_words f (denominator_word ∷ decimal (pos (denominator f)) ∷ []) (word_then denominator_word (decimal (pos (denominator f)) ∷ []) tt (number_then (pos (denominator f)) [] tt)))
      (λ i. decimal_words (pos (i + 1) ∷ given i ∷ numerators i ∷ rounded i ∷ results i ∷ rounds i ∷ []))
      (λ j. condition_words (pos (j + 1) ∷ misclosures j ∷ rests j ∷ []))

  pub first_read : read_lines (first_text f given rounds numerators rounded results misclosures rests) ≡ first_lines f given rounds numerators rounded results misclosures rests
  unfolding first_text
  first_read = read_lines_lem (first_lines f given rounds numerators rounded results misclosures rests) first_words

  pub first_angle_read : (i : ℕ) → i < angle_count f
      → numbers_from 0 (line_at (first_text f given rounds numerators rounded results misclosures rests) (suc i)) ≡ pos (i + 1) ∷ given i ∷ numerators i ∷ rounded i ∷ results i ∷ rounds i ∷ []
  unfolding first_lines
  first_angle_read i h =
      ap (λ (l : List (List (List ℕ))). numbers_from 0 (get_or l (suc i) [])) first_read
      ∙ ap (numbers_from 0) (angle_line (angle_count f) (condition_count f) (first_figure f) (first_angle given rounds numerators rounded results) (first_condition misclosures rests) i h)
      ∙ read_decimals (pos (i + 1) ∷ given i ∷ numerators i ∷ rounded i ∷ results i ∷ rounds i ∷ [])

  -- it ends in the rounds (M-106)
  pub first_rounds_read : (i : ℕ) → i < angle_count f
      → read_number (last_part (line_at (first_text f given rounds numerators rounded results misclosures rests) (suc i))) ≡ rounds i
  unfolding first_lines
  first_rounds_read i h =
      ap (λ (l : List (List (List ℕ))). read_number (last_part (get_or l (suc i) []))) first_read
      ∙ ap (λ (l : List (List ℕ)). read_number (last_part l)) (angle_line (angle_count f) (condition_count f) (first_figure f) (first_angle given rounds numerators rounded results) (first_condition misclosures rests) i h)
      ∙ read_decimal (rounds i)

  pub first_condition_read : (j : ℕ) → j < condition_count f
      → numbers_from 1 (line_at (first_text f given rounds numerators rounded results misclosures rests) (suc (angle_count f + j))) ≡ pos (j + 1) ∷ misclosures j ∷ rests j ∷ []
  unfolding first_lines
  first_condition_read j h =
      ap (λ (l : List (List (List ℕ))). numbers_from 1 (get_or l (suc (angle_count f + j)) [])) first_read
      ∙ ap (numbers_from 1) (condition_line (angle_count f) (condition_count f) (first_figure f) (first_angle given rounds numerators rounded results) (first_condition misclosures rests) j h)
      ∙ read_decimals (pos (j + 1) ∷ misclosures j ∷ rests j ∷ [])

  pub first_denominator_read : numbers_from 4 (line_at (first_text f given rounds numerators rounded results misclosures rests) 0) ≡ pos (denominator f) ∷ []
  unfolding first_lines
  first_denominator_read = ap (λ (l : List (List (List ℕ))). numbers_from 4 (get_or l 0 [])) first_read ∙ read_decimals (pos (denominator f) ∷ [])

-- ---- Kind 2

divisor_words_lem : (side : Bool) (sideW divisor : ℤ) → T (every is_word (divisor_words side sideW ++ (decimal divisor ∷ [])))
unfolding s_word determinant_word
divisor_words_lem false sideW divisor = word_then s_word (decimal divisor ∷ []) tt (number_then divisor [] tt)
divisor_words_lem true sideW divisor =
    number_then sideW (determinant_word ∷ decimal divisor ∷ [])
    (word_then determinant_word (decimal divisor ∷ []) tt (number_then divisor [] tt))

-- which part of the figure's line the divisor is
divisor_part : (side : Bool) (f : Figure) (w sideW divisor : ℤ)
    → get_or (figure_named f (w_word ∷ decimal w ∷ (divisor_words side sideW ++ (decimal divisor ∷ [])))) (cond side 7 6) [] ≡ decimal divisor
divisor_part false f w sideW divisor = refl
divisor_part true f w sideW divisor = refl

-- the last part of an angle's line, with B or without
rounds_part : (side : Bool) (number given a b numerator rounded result round : ℤ)
    → last_part (numbers (number ∷ given ∷ (coefficients side a b ++ (numerator ∷ rounded ∷ result ∷ round ∷ [])))) ≡ decimal round
rounds_part false number given a b numerator rounded result round = refl
rounds_part true number given a b numerator rounded result round = refl

module _ (f : Figure) (w sideW divisor : ℤ) (given rounds reduced side_reduced numerators rounded results rests : ℕ → ℤ) where
  -- the text, and the numbers of an angle's line
  abbrev text : List ℕ
  text = second_text f w sideW divisor given rounds reduced side_reduced numerators rounded results rests

  abbrev angle_numbers : ℕ → List ℤ
  angle_numbers i =
      pos (i + 1) ∷ given i ∷ (coefficients (has_side f) (reduced i) (side_reduced i) ++ (numerators i ∷ rounded i ∷ results i ∷ rounds i ∷ []))

  abbrev angle_parts : ℕ → List (List ℕ)
  angle_parts = second_angle f given rounds reduced side_reduced numerators rounded results

  second_words : T (every (every is_word) (second_lines f w sideW divisor given rounds reduced side_reduced numerators rounded results rests))
  unfolding second_lines w_word
  second_words =
      let divided = divisor_words (has_side f) sideW ++ (decimal divisor ∷ []) in
      all_words (angle_count f) (condition_count f) (second_figure f w sideW divisor) angle_parts (second_condition rests)
      (figure_words f (w_word ∷ decimal w ∷ divided)
      (word_then w_word (decimal w ∷ divided) tt (number_then w divided (divisor_words_lem (has_side f) sideW divisor))))
      (λ i. decimal_words (angle_numbers i))
      (λ j. condition_words (pos (j + 1) ∷ rests j ∷ []))

  pub second_read : read_lines text ≡ second_lines f w sideW divisor given rounds reduced side_reduced numerators rounded results rests
  unfolding second_text
  second_read = read_lines_lem (second_lines f w sideW divisor given rounds reduced side_reduced numerators rounded results rests) second_words

  pub second_figure_read : line_at text 0 ≡ second_figure f w sideW divisor
  unfolding second_lines
  second_figure_read = ap (λ (l : List (List (List ℕ))). get_or l 0 []) second_read

  pub second_angle_read : (i : ℕ) → i < angle_count f
      → numbers_from 0 (line_at text (suc i))
      ≡ pos (i + 1) ∷ given i ∷ (coefficients (has_side f) (reduced i) (side_reduced i) ++ (numerators i ∷ rounded i ∷ results i ∷ rounds i ∷ []))
  unfolding second_lines
  second_angle_read i h =
      ap (λ (l : List (List (List ℕ))). numbers_from 0 (get_or l (suc i) [])) second_read
      ∙ ap (numbers_from 0)
      (angle_line (angle_count f) (condition_count f) (second_figure f w sideW divisor) angle_parts (second_condition rests) i h)
      ∙ read_decimals (angle_numbers i)

  -- it ends in the rounds (M-106)
  pub second_rounds_read : (i : ℕ) → i < angle_count f → read_number (last_part (line_at text (suc i))) ≡ rounds i
  unfolding second_lines
  second_rounds_read i h =
      ap (λ (l : List (List (List ℕ))). read_number (last_part (get_or l (suc i) []))) second_read
      ∙ ap (λ (l : List (List ℕ)). read_number (last_part l))
      (angle_line (angle_count f) (condition_count f) (second_figure f w sideW divisor) angle_parts (second_condition rests) i h)
      ∙ ap read_number (rounds_part (has_side f) (pos (i + 1)) (given i) (reduced i) (side_reduced i) (numerators i) (rounded i) (results i) (rounds i))
      ∙ read_decimal (rounds i)

  pub second_condition_read : (j : ℕ) → j < condition_count f
      → numbers_from 1 (line_at text (suc (angle_count f + j))) ≡ pos (j + 1) ∷ rests j ∷ []
  unfolding second_lines
  second_condition_read j h =
      ap (λ (l : List (List (List ℕ))). numbers_from 1 (get_or l (suc (angle_count f + j)) [])) second_read
      ∙ ap (numbers_from 1)
      (condition_line (angle_count f) (condition_count f) (second_figure f w sideW divisor) angle_parts (second_condition rests) j h)
      ∙ read_decimals (pos (j + 1) ∷ rests j ∷ [])

  pub w_read : read_number (get_or (line_at text 0) 4 []) ≡ w
  w_read = ap (λ (l : List (List ℕ)). read_number (get_or l 4 [])) second_figure_read ∙ read_decimal w

  pub divisor_read : read_number (get_or (line_at text 0) (cond (has_side f) 7 6) []) ≡ divisor
  divisor_read =
      ap (λ (l : List (List ℕ)). read_number (get_or l (cond (has_side f) 7 6) [])) second_figure_read
      ∙ ap read_number (divisor_part (has_side f) f w sideW divisor) ∙ read_decimal divisor

  -- with a side condition or without
  read_as : (side : Bool) → has_side f ≡ side
      → line_at text 0 ≡ figure_named f (w_word ∷ decimal w ∷ (divisor_words side sideW ++ (decimal divisor ∷ [])))
  read_as side e =
      second_figure_read ∙ ap (λ (b : Bool). figure_named f (w_word ∷ decimal w ∷ (divisor_words b sideW ++ (decimal divisor ∷ [])))) e

  angle_read_as : (side : Bool) → has_side f ≡ side → (i : ℕ) → i < angle_count f
      → numbers_from 0 (line_at text (suc i))
      ≡ pos (i + 1) ∷ given i ∷ (coefficients side (reduced i) (side_reduced i) ++ (numerators i ∷ rounded i ∷ results i ∷ rounds i ∷ []))
  angle_read_as side e i h =
      let last = numerators i ∷ rounded i ∷ results i ∷ rounds i ∷ [] in
      second_angle_read i h ∙ ap (λ (b : Bool). pos (i + 1) ∷ given i ∷ (coefficients b (reduced i) (side_reduced i) ++ last)) e

  -- the lines of document 01
  module _ (one : has_side f ≡ false) where
    pub one_figure_read : line_at text 0 ≡ figure_named f (w_word ∷ decimal w ∷ s_word ∷ decimal divisor ∷ [])
    one_figure_read = read_as false one

    pub one_angle_read : (i : ℕ) → i < angle_count f
        → numbers_from 0 (line_at text (suc i)) ≡ pos (i + 1) ∷ given i ∷ reduced i ∷ numerators i ∷ rounded i ∷ results i ∷ rounds i ∷ []
    one_angle_read = angle_read_as false one

  -- the lines of M-100
  module _ (two : has_side f ≡ true) where
    pub two_figure_read : line_at text 0 ≡ figure_named f (w_word ∷ decimal w ∷ decimal sideW ∷ determinant_word ∷ decimal divisor ∷ [])
    two_figure_read = read_as true two

    pub two_angle_read : (i : ℕ) → i < angle_count f
        → numbers_from 0 (line_at text (suc i))
        ≡ pos (i + 1) ∷ given i ∷ reduced i ∷ side_reduced i ∷ numerators i ∷ rounded i ∷ results i ∷ rounds i ∷ []
    two_angle_read = angle_read_as true two

-- ---- Turned back

pub refused_read : (refusal : Refusal) → read_lines (refused_text refusal) ≡ refused_lines refusal
unfolding refused_text refused_lines refused_word
refused_read refusal =
    let zs = pos (number_of refusal) ∷ pos (place_of refusal) ∷ [] in
    read_lines_lem ((refused_word ∷ numbers zs) ∷ []) (every_cons (every is_word) (refused_word ∷ numbers zs) [] (word_then refused_word (numbers zs) tt (decimal_words zs)) tt)

pub refusal_read : (refusal : Refusal) → numbers_from 1 (line_at (refused_text refusal) 0) ≡ pos (number_of refusal) ∷ pos (place_of refusal) ∷ []
unfolding refused_lines
refusal_read refusal =
    ap (λ (l : List (List (List ℕ))). numbers_from 1 (get_or l 0 [])) (refused_read refusal)
    ∙ read_decimals (pos (number_of refusal) ∷ pos (place_of refusal) ∷ [])

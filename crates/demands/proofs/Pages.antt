-- What is read off the lines of a text is what the definitions put on them; so a page says what its values do. Assumes nothing.
use Rattle.std.specs.Prelude.{ℕ, suc, ◌+◌, ◌<◌, Bool, true, false, List, [], ◌∷◌, ◌≡◌, T, ℤ, pos, neg_ℤ, ◌+ℤ◌, ◌-ℤ◌, ◌*ℤ◌, get_or, drop}
use Rattle.vocabulary.specs.{sym, ap, ap₂, subst, ◌∙◌, eq-eqb, list-get_or_map, get_or-drop, zero-add}
use Rattle.whole.specs.Sums.{squares, naturals}
use Rattle.whole.proofs.Sums.{squares_ext}
use Rattle.figures.specs.{declared.Figure.Figure, Numerators.condition_sum, Numerators.horizon_sum}
use Rattle.figures.specs.Figure.{description, denominator, angle_count, condition_count, has_side}
use Rattle.figures.proofs.{Horizon.horizon_agrees, Theorem.condition_agrees}
use Rattle.text.specs.Text.{read_number}
use Rattle.text.proofs.Numbers.{read_decimal}
use Rattle.lines.specs.Lines.{w_word, first_figure, first_text, first_lines, second_text}
use Rattle.lines.proofs.ReadingBack.{line_at, numbers_from, first_read, first_angle_read, first_condition_read, second_figure_read, second_condition_read, one_figure_read, one_angle_read, two_figure_read, two_angle_read}
use Rattle.demands.specs.Demand2.{determinant_of, exact_of_two}
use Rattle.demands.specs.Printed.{part, number_on, of_angle, of_condition, Names, FirstPage, SecondPageFrom, OneSinePage, TwoSinesPage, SinePage}
use Rattle.demands.proofs.BothSines.{determinant_agrees, exact_agrees}

-- a number of a line whose numbers, from a part on, are known
number_at : (text : List ℕ) (line from place : ℕ) (values : List ℤ) → numbers_from from (line_at text line) ≡ values
    → number_on text line (from + place) ≡ get_or values place (pos 0)
unfolding read_number
number_at text line from place values e =
    let parts = line_at text line in
    ap read_number (sym (get_or-drop from parts place []))
    ∙ sym (list-get_or_map read_number (drop from parts) place [])
    ∙ ap (λ (zs : List ℤ). get_or zs place (pos 0)) e

-- ---- the first pass

module _ (f : Figure) (given : ℕ → ℤ) (rounds : List ℕ) (numerators rounded results misclosures rests : ℕ → ℤ) where
  abbrev first_page_text : List ℕ
  first_page_text = first_text f given (naturals rounds) numerators rounded results misclosures rests

  -- the figure's line
  first_figure_part : (place : ℕ) → part first_page_text 0 place ≡ get_or (first_figure f) place []
  unfolding first_lines
  first_figure_part place =
      ap (λ (l : List (List (List ℕ))). get_or (get_or l 0 []) place []) (first_read f given (naturals rounds) numerators rounded results misclosures rests)

  first_names : Names f first_page_text
  first_names = record {
    word = first_figure_part 0;
    code = ap read_number (first_figure_part 1) ∙ read_decimal (pos (description f).code);
    n = ap read_number (first_figure_part 2) ∙ read_decimal (pos (description f).n);
  }

  denominator_read : number_on first_page_text 0 4 ≡ pos (denominator f)
  denominator_read = ap read_number (first_figure_part 4) ∙ read_decimal (pos (denominator f))

  angle_read : (place i : ℕ) → i < angle_count f
      → of_angle first_page_text place i ≡ get_or (pos (i + 1) ∷ given i ∷ numerators i ∷ rounded i ∷ results i ∷ naturals rounds i ∷ []) place (pos 0)
  angle_read place i h =
      ap (number_on first_page_text (suc i)) (sym (zero-add place))
      ∙ number_at first_page_text (suc i) 0 place _ (first_angle_read f given (naturals rounds) numerators rounded results misclosures rests i h)

  condition_read : (place j : ℕ) → j < condition_count f
      → of_condition f first_page_text (1 + place) j ≡ get_or (pos (j + 1) ∷ misclosures j ∷ rests j ∷ []) place (pos 0)
  condition_read place j h =
      number_at first_page_text (suc (angle_count f + j)) 1 place _
      (first_condition_read f given (naturals rounds) numerators rounded results misclosures rests j h)

  pub first_page : ((j : ℕ) → j < condition_count f → condition_sum f numerators j ≡ neg_ℤ (pos (denominator f)) *ℤ misclosures j)
      → ((j : ℕ) → j < condition_count f → misclosures j +ℤ condition_sum f rounded j ≡ rests j)
      → ((i : ℕ) → i < angle_count f → given i +ℤ rounded i ≡ results i)
      → ((description f).code ≡ 2 → pos (denominator f) *ℤ (horizon_sum f given -ℤ pos 12_960_000) +ℤ horizon_sum f numerators ≡ pos 0)
      → FirstPage f rounds first_page_text
  first_page cancel rest result horizon = record {
    names = first_names;
    denominator_word_is = first_figure_part 3;
    denominator_is = denominator_read;
    corrections_cancel = λ j h.
        condition_agrees f (of_angle first_page_text 2) numerators (angle_read 2) j h
        ∙ cancel j h
        ∙ sym (ap₂ (λ (d w : ℤ). neg_ℤ d *ℤ w) denominator_read (condition_read 1 j h));
    horizon_closes = λ two.
        let point = subst T (sym (eq-eqb (description f).code 2 two)) tt in
        ap₂ (λ (d s : ℤ). d *ℤ (s -ℤ pos 12_960_000) +ℤ horizon_sum f (of_angle first_page_text 2)) denominator_read
        (horizon_agrees f point (of_angle first_page_text 1) given (angle_read 1))
        ∙ ap (λ (s : ℤ). pos (denominator f) *ℤ (horizon_sum f given -ℤ pos 12_960_000) +ℤ s)
        (horizon_agrees f point (of_angle first_page_text 2) numerators (angle_read 2))
        ∙ horizon two;
    rests = λ j h.
        ap₂ ◌+ℤ◌ (condition_read 1 j h) (condition_agrees f (of_angle first_page_text 3) rounded (angle_read 3) j h)
        ∙ rest j h
        ∙ sym (condition_read 2 j h);
    results = λ i h. ap₂ ◌+ℤ◌ (angle_read 1 i h) (angle_read 3 i h) ∙ result i h ∙ sym (angle_read 4 i h);
    rounds_last = angle_read 5;
  }

-- ---- the second pass

module _ (f : Figure) (w sideW divisor : ℤ) (given : ℕ → ℤ) (rounds : List ℕ) (reduced side_reduced numerators rounded results rests : ℕ → ℤ) where
  abbrev page : List ℕ
  page = second_text f w sideW divisor given (naturals rounds) reduced side_reduced numerators rounded results rests

  figure_part : (place : ℕ) {parts : List (List ℕ)} → line_at page 0 ≡ parts → part page 0 place ≡ get_or parts place []
  figure_part place e = ap (λ (l : List (List ℕ)). get_or l place []) e

  second_names : Names f page
  second_names =
      let read = second_figure_read f w sideW divisor given (naturals rounds) reduced side_reduced numerators rounded results rests in
      record {
        word = figure_part 0 read;
        code = ap read_number (figure_part 1 read) ∙ read_decimal (pos (description f).code);
        n = ap read_number (figure_part 2 read) ∙ read_decimal (pos (description f).n);
      }

  second_condition_lem : (place j : ℕ) → j < condition_count f
      → of_condition f page (1 + place) j ≡ get_or (pos (j + 1) ∷ rests j ∷ []) place (pos 0)
  second_condition_lem place j h =
      number_at page (suc (angle_count f + j)) 1 place _
      (second_condition_read f w sideW divisor given (naturals rounds) reduced side_reduced numerators rounded results rests j h)

  -- an angle's numbers, once its line is known
  angle_at_lem : {values : ℕ → List ℤ} → ((i : ℕ) → i < angle_count f → numbers_from 0 (line_at page (suc i)) ≡ values i)
      → (place i : ℕ) → i < angle_count f → of_angle page place i ≡ get_or (values i) place (pos 0)
  angle_at_lem read place i h = ap (number_on page (suc i)) (sym (zero-add place)) ∙ number_at page (suc i) 0 place _ (read i h)

  -- what every page of a second pass says, from where its numbers stand
  module _ (close : (j : ℕ) → j < condition_count f → condition_sum f numerators j ≡ pos 0)
      (rest : (j : ℕ) → j < condition_count f → condition_sum f rounded j ≡ rests j)
      (result : (i : ℕ) → i < angle_count f → given i +ℤ rounded i ≡ results i) where
    page_from : (place : ℕ) → part page 0 3 ≡ w_word → ((i : ℕ) → i < angle_count f → of_angle page 1 i ≡ given i)
        → ((i : ℕ) → i < angle_count f → of_angle page place i ≡ numerators i)
        → ((i : ℕ) → i < angle_count f → of_angle page (1 + place) i ≡ rounded i)
        → ((i : ℕ) → i < angle_count f → of_angle page (2 + place) i ≡ results i)
        → ((i : ℕ) → i < angle_count f → of_angle page (3 + place) i ≡ naturals rounds i) → SecondPageFrom f rounds page place
    page_from place word given-at numerator_at rounded_at result_at rounds-at = record {
      names = second_names;
      w_word_is = word;
      corrections_close = λ j h. condition_agrees f (of_angle page place) numerators numerator_at j h ∙ close j h;
      rests = λ j h. condition_agrees f (of_angle page (1 + place)) rounded rounded_at j h ∙ rest j h ∙ sym (second_condition_lem 1 j h);
      results = λ i h. ap₂ ◌+ℤ◌ (given-at i h) (rounded_at i h) ∙ result i h ∙ sym (result_at i h);
      rounds_last = rounds-at;
    }

    pub one_page : has_side f ≡ false
        → divisor ≡ squares (angle_count f) reduced
        → ((i : ℕ) → i < angle_count f → numerators i ≡ neg_ℤ (pos 100) *ℤ pos (denominator f) *ℤ reduced i *ℤ w)
        → OneSinePage f rounds page
    one_page one divisor_is numerator_is =
        let read = one_figure_read f w sideW divisor given (naturals rounds) reduced side_reduced numerators rounded results rests one in
        let at = angle_at_lem (one_angle_read f w sideW divisor given (naturals rounds) reduced side_reduced numerators rounded results rests one) in
        record {
          page = page_from 3 (figure_part 3 read) (at 1) (at 3) (at 4) (at 5) (at 6);
          s_word_is = figure_part 5 read;
          s_is =
              ap read_number (figure_part 6 read) ∙ read_decimal divisor ∙ divisor_is
              ∙ sym (squares_ext (angle_count f) (of_angle page 2) reduced (at 2));
          numerators = λ i h.
              at 3 i h ∙ numerator_is i h
              ∙ sym (ap₂ (λ (a v : ℤ). neg_ℤ (pos 100) *ℤ pos (denominator f) *ℤ a *ℤ v) (at 2 i h)
              (ap read_number (figure_part 4 read) ∙ read_decimal w));
        }

    pub two_page : has_side f ≡ true
        → divisor ≡ determinant_of f reduced side_reduced
        → ((i : ℕ) → i < angle_count f → numerators i ≡ exact_of_two f reduced side_reduced w sideW i)
        → TwoSinesPage f rounds page
    two_page two divisor_is numerator_is =
        let read = two_figure_read f w sideW divisor given (naturals rounds) reduced side_reduced numerators rounded results rests two in
        let at = angle_at_lem (two_angle_read f w sideW divisor given (naturals rounds) reduced side_reduced numerators rounded results rests two) in
        let wa : number_on page 0 4 ≡ w = ap read_number (figure_part 4 read) ∙ read_decimal w in
        let wb : number_on page 0 5 ≡ sideW = ap read_number (figure_part 5 read) ∙ read_decimal sideW in
        record {
          page = page_from 4 (figure_part 3 read) (at 1) (at 4) (at 5) (at 6) (at 7);
          determinant_word_is = figure_part 6 read;
          determinant_is =
              ap read_number (figure_part 7 read) ∙ read_decimal divisor ∙ divisor_is
              ∙ sym (determinant_agrees f (of_angle page 2) (of_angle page 3) reduced side_reduced (at 2) (at 3));
          numerators = λ i h.
              at 4 i h ∙ numerator_is i h
              ∙ sym (exact_agrees f (of_angle page 2) (of_angle page 3) reduced side_reduced (at 2) (at 3) wa wb i h);
        }

-- the figure's line names the figure, on either page
pub names_of : (side : Bool) (f : Figure) (rounds text : List ℕ) → SinePage side f rounds text → Names f text
names_of false f rounds text shown = shown.page.names
names_of true f rounds text shown = shown.page.names

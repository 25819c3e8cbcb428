-- What a code and an n name: exactly the nine figures. Assumes nothing.
use Rattle.std.specs.Prelude.{None, Option, Some}
use Rattle.std.specs.Prelude.{◌≡◌, refl, ◌↔◌, Bool, true, false, cond, not, ◌&&◌, ◌||◌, List, [], ◌∷◌, map, ℕ, zero, suc, ◌+◌, T, eqb}
use Rattle.vocabulary.specs.{sym, subst, ap, ap₂, ◌∙◌, eqb→eq}
use Rattle.refusals.specs.Questions.{none_of, among, asked}
use Rattle.figures.specs.declared.Figure.{Figure}
use Rattle.figures.specs.declared.Figure.TheVariants.{Quadrilateral, PointInTriangle, PointInQuadrilateral, CentralTriangle, CentralQuadrilateral, CentralPentagon, CentralHexagon, CentralHeptagon, CentralOctagon}
use Rattle.figures.specs.Figure.{description, all_figures, named_among, figure_of, figure_names}

-- a figure's code and n name it
pub own_name : (f : Figure) → figure_of (description f).code (description f).n ≡ Some f
unfolding figure_of
own_name Quadrilateral = refl
own_name PointInTriangle = refl
own_name PointInQuadrilateral = refl
own_name CentralTriangle = refl
own_name CentralQuadrilateral = refl
own_name CentralPentagon = refl
own_name CentralHexagon = refl
own_name CentralHeptagon = refl
own_name CentralOctagon = refl

-- which figure is named
abbrev named_figure : Option Figure → Figure → Figure
named_figure (Some f) other = f
named_figure None other = other

abbrev is_named : Option Figure → Bool
is_named (Some f) = true
is_named None = false

named_among_lem : (figures : List Figure) (code n : ℕ) (f : Figure) → named_among figures code n ≡ Some f → (code ≡ (description f).code) × (n ≡ (description f).n)
named_among_lem [] code n f e = absurd (subst (λ (r : Option Figure). T (is_named r)) (sym e) tt)
named_among_lem (g ∷ others) code n f e =
    choose (eqb code (description g).code) (eqb n (description g).n) (eqb→eq code (description g).code) (eqb→eq n (description g).n) (named_among_lem others code n f) e
  where
    choose : (a b : Bool) → (T a → code ≡ (description g).code) → (T b → n ≡ (description g).n)
        → (named_among others code n ≡ Some f → (code ≡ (description f).code) × (n ≡ (description f).n))
        → cond (a && b) (Some g) (named_among others code n) ≡ Some f → (code ≡ (description f).code) × (n ≡ (description f).n)
    choose true true h k rest found =
        let same : g ≡ f = ap (λ (r : Option Figure). named_figure r g) found in
        (h tt ∙ ap (λ (x : Figure). (description x).code) same, k tt ∙ ap (λ (x : Figure). (description x).n) same)
    choose true false h k rest found = rest found
    choose false b h k rest found = rest found

-- a code and an n name a figure exactly if they are the figure's own
pub named_exactly : (code n : ℕ) (f : Figure) → (figure_of code n ≡ Some f) ↔ ((code ≡ (description f).code) × (n ≡ (description f).n))
unfolding figure_of
named_exactly code n f = (named_among_lem all_figures code n f, λ e. ap₂ figure_of e.0 e.1 ∙ own_name f)

-- number 1 asks whether none is named
among_names : (figures : List Figure) (code n : ℕ)
    → among (code ∷ n ∷ []) (map (λ f. (description f).code ∷ (description f).n ∷ []) figures) ≡ is_named (named_among figures code n)
among_names [] code n = refl
among_names (f ∷ others) code n = choose (eqb code (description f).code) (eqb n (description f).n) _ (named_among others code n) (among_names others code n)
  where
    choose : (a b rest : Bool) (found : Option Figure) → rest ≡ is_named found → ((a && (b && true)) || rest) ≡ is_named (cond (a && b) (Some f) found)
    choose true true rest found e = refl
    choose true false rest found e = e
    choose false b rest found e = e

module _ (code n : ℕ) where
  pub none_named : figure_of code n ≡ None → asked (none_of (code ∷ n ∷ []) figure_names) ≡ true
  unfolding figure_of
  none_named e = ap not (among_names all_figures code n ∙ ap is_named e)

  pub one_named : {f : Figure} → figure_of code n ≡ Some f → asked (none_of (code ∷ n ∷ []) figure_names) ≡ false
  unfolding figure_of
  one_named e = ap not (among_names all_figures code n ∙ ap is_named e)

-- the pairs below a bound that name a figure, counted
abbrev one : Option Figure → ℕ
one (Some f) = 1
one None = 0

count_to : ℕ → (ℕ → ℕ) → ℕ
count_to zero f = 0
count_to (suc k) f = count_to k f + f k

-- of the 256 pairs of 4-bit numbers exactly nine name a figure
nine : count_to 16 (λ code. count_to 16 (λ n. one (figure_of code n))) ≡ 9
unfolding count_to figure_of
nine = refl

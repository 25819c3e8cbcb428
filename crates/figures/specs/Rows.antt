-- The first-correction rows and the sine signs of document 01, "The eight figures", and of document 02, M-100. A row holds the coefficient
-- of each condition's misclosure, in the order of the conditions; rows and signs stand in the order of the angles.
use Rattle.std.specs.Prelude.{ℕ, zero, suc, ◌+◌, ◌-◌, ◌*◌, ◌%◌, Bool, false, cond, ◌||◌, List, [], ◌∷◌, ◌++◌, eqb, get_or, ℤ, pos, neg_ℤ}
use Rattle.std.specs.Prelude.{◌+ℤ◌, ◌*ℤ◌}
use Rattle.whole.specs.Sums.{identity}

abbrev pub minus : ℕ → ℤ
minus n = neg_ℤ (pos n)

-- what f lists for 1, then for 2, and so on to n
abbrev pub each_of : {A : Type 0} → ℕ → (ℕ → List A) → List A
each_of zero f = []
each_of (suc n) f = each_of n f ++ f (suc n)

-- ---- code 1: angles 1 and 2, 3 and 4, 5 and 6, 7 and 8

abbrev pub quadrilateral_rows : List (List ℤ)
quadrilateral_rows =
    (minus 3 ∷ pos 2 ∷ minus 1 ∷ [])
    ∷ (minus 3 ∷ pos 2 ∷ minus 1 ∷ [])
    ∷ (minus 1 ∷ minus 2 ∷ pos 1 ∷ [])
    ∷ (minus 1 ∷ minus 2 ∷ pos 1 ∷ [])
    ∷ (pos 1 ∷ minus 2 ∷ minus 1 ∷ [])
    ∷ (pos 1 ∷ minus 2 ∷ minus 1 ∷ [])
    ∷ (minus 1 ∷ pos 2 ∷ minus 3 ∷ [])
    ∷ (minus 1 ∷ pos 2 ∷ minus 3 ∷ [])
    ∷ []

-- odd +, even −
abbrev pub quadrilateral_signs : List ℤ
quadrilateral_signs = each_of 4 (λ i. pos 1 ∷ minus 1 ∷ [])

-- ---- code 2

-- n coefficients from those of i, of i+1, of i+2 and so on, indices cyclic
abbrev pub around : ℕ → ℕ → List ℤ → List ℤ
around n i coefficients = each_of n (λ k. get_or coefficients ((k + n - i) % n) (pos 0) ∷ [])

-- the coefficients of an angle of triangle i on t and on f, each as `around` takes them
pub record OnMisclosures : Type 0 where
  pub on_t : List ℤ
  pub on_f : List ℤ

-- a row of triangle i of n
abbrev pub point_row : ℕ → ℕ → OnMisclosures → List ℤ
point_row n i angle = around n i angle.on_t ++ around n i angle.on_f

-- c, l and r of triangle 1, of triangle 2, and so on to n
abbrev pub point_inside_rows : (n : ℕ) → (c l r : OnMisclosures) → List (List ℤ)
point_inside_rows n c l r = each_of n (λ i. point_row n i c ∷ point_row n i l ∷ point_row n i r ∷ [])

abbrev pub point_in_triangle_rows : List (List ℤ)
point_in_triangle_rows = point_inside_rows 3
    (record { on_t = minus 6 ∷ minus 2 ∷ minus 2 ∷ []; on_f = pos 4 ∷ pos 4 ∷ pos 2 ∷ [] })
    (record { on_t = minus 2 ∷ pos 0 ∷ pos 2 ∷ []; on_f = minus 5 ∷ pos 1 ∷ minus 1 ∷ [] })
    (record { on_t = minus 2 ∷ pos 2 ∷ pos 0 ∷ []; on_f = pos 1 ∷ minus 5 ∷ minus 1 ∷ [] })

-- document 02, M-100; t and f of i+3 are those of i−1
abbrev pub point_in_quadrilateral_rows : List (List ℤ)
point_in_quadrilateral_rows = point_inside_rows 4
    (record { on_t = minus 14 ∷ minus 4 ∷ minus 2 ∷ minus 4 ∷ []; on_f = pos 9 ∷ pos 9 ∷ pos 3 ∷ pos 3 ∷ [] })
    (record { on_t = minus 5 ∷ minus 1 ∷ pos 1 ∷ pos 5 ∷ []; on_f = minus 12 ∷ pos 3 ∷ pos 0 ∷ minus 3 ∷ [] })
    (record { on_t = minus 5 ∷ pos 5 ∷ pos 1 ∷ minus 1 ∷ []; on_f = pos 3 ∷ minus 12 ∷ minus 3 ∷ pos 0 ∷ [] })

-- ---- code 3: a row is own·w(i) + total·T + round·h, with T the sum of triangle misclosures w and h the horizon misclosure

abbrev pub polygon_row : ℕ → ℕ → ℤ → ℤ → ℤ → List ℤ
polygon_row n i own total round = each_of n (λ k. (own *ℤ identity i k +ℤ total) ∷ []) ++ (round ∷ [])

-- c of triangle i has −2n·w(i) + 2T − 6h
abbrev pub inner_row : ℕ → ℕ → List ℤ
inner_row n i = polygon_row n i (minus (2 * n)) (pos 2) (minus 6)

-- its l and r have −2n·w(i) − T + 3h
abbrev pub outer_row : ℕ → ℕ → List ℤ
outer_row n i = polygon_row n i (minus (2 * n)) (minus 1) (pos 3)

abbrev pub central_polygon_rows : ℕ → List (List ℤ)
central_polygon_rows n = each_of n (λ i. inner_row n i ∷ outer_row n i ∷ outer_row n i ∷ [])

-- ---- codes 2 and 3: c 0, l +, r −

abbrev pub triangle_signs : ℕ → List ℤ
triangle_signs n = each_of n (λ i. pos 0 ∷ pos 1 ∷ minus 1 ∷ [])

-- ---- signs by the angles that have them

abbrev pub has : List ℕ → ℕ → Bool
has [] i = false
has (m ∷ others) i = eqb m i || has others i

-- + of the angles added, − of those taken away, 0 of every other of so many
abbrev pub signs_from : (count : ℕ) → (added taken : List ℕ) → List ℤ
signs_from count added taken = each_of count (λ i. cond (has added i) (pos 1) (cond (has taken i) (minus 1) (pos 0)) ∷ [])

-- The choice is the whole tenth just below or just above the exact correction, a whole value stays, and every rest is 0: once over the
-- figure. In each condition every angle ends where the next begins, up to a multiple of D: one test over the rows, which antt computes
-- for all figures. Assumes nothing.
use Rattle.std.specs.Prelude.{ℕ, zero, suc, ◌<◌, Bool, true, false, ◌&&◌, List, [], ◌∷◌, ◌≡◌, refl, T, eqb, ℤ, pos, neg_ℤ, ◌+ℤ◌, ◌-ℤ◌, ◌*ℤ◌}
use Rattle.std.specs.Prelude.{◌≤ℤ◌}
use Rattle.vocabulary.specs.{sym, ap, ap₂, ◌∙◌, eqb→eq, +ℤ_idr}
use Rattle.whole.specs.{Lists.every, Lists.every_below, Sums.dot, Sums.applied, Sums.table}
use Rattle.whole.proofs.Computed.{and_left, and_right, every_at, every_below_lem}
use Rattle.whole.proofs.Ring.{constant, ◌⊕◌, ◌⊖◌, ◌⊗◌, ⊝◌, ◌≐◌, ring}
use Rattle.whole.proofs.Sums.{dot_ext, dot_comm, dot_add, dot_scale, dot_zero}
use Rattle.figures.specs.{declared.Figure.Figure, Numerators.sum_over, Numerators.condition_sum, Numerators.numerator}
use Rattle.figures.specs.Figure.{Condition, description, all_figures, denominator, condition_count, members_of}
use Rattle.figures.proofs.{Figures.none, Figures.each_figure, Figures.denominator_positive, Theorem.numerators_cancel}
use Rattle.closing.specs.Choice.{start_of, end_of, before, chosen, choice}
use Rattle.closing.specs.Floor.{floor_quotient, ceiling_quotient, floor_remainder}
use Rattle.closing.proofs.FloorLaws.{remainder_below, divided, remainder_shifted, multiple, same_multiple, not_under, not_over}

-- ---- sums over a list of angles

sum_applied : (m : ℕ) (rows : ℕ → ℕ → ℤ) (w : ℕ → ℤ) (l : List ℕ) → sum_over l (applied m rows w) ≡ dot m (λ j. sum_over l (λ i. rows i j)) w
unfolding applied sum_over
sum_applied m rows w [] = sym (dot_comm m (λ j. pos 0) w ∙ dot_zero m w (λ j. pos 0) (λ j h. refl))
sum_applied m rows w (zero ∷ l) = sum_applied m rows w l
sum_applied m rows w (suc i ∷ l) =
    ap₂ ◌+ℤ◌ (dot_comm m (rows i) w) (sum_applied m rows w l ∙ dot_comm m (λ j. sum_over l (λ k. rows k j)) w)
    ∙ sym (dot_add m w (rows i) (λ j. sum_over l (λ k. rows k j)))
    ∙ dot_comm m w (λ j. rows i j +ℤ sum_over l (λ k. rows k j))

sum_parts : (c : ℤ) (x y z : ℕ → ℤ) → ((i : ℕ) → c *ℤ x i ≡ y i +ℤ z i) → (l : List ℕ) → c *ℤ sum_over l x ≡ sum_over l y +ℤ sum_over l z
unfolding sum_over
sum_parts c x y z e [] = ring 1 (λ c. c ⊗ constant (pos 0) ≐ constant (pos 0) ⊕ constant (pos 0)) tt c
sum_parts c x y z e (zero ∷ l) = sum_parts c x y z e l
sum_parts c x y z e (suc i ∷ l) =
    ring 3 (λ c a b. c ⊗ (a ⊕ b) ≐ c ⊗ a ⊕ c ⊗ b) tt c (x i) (sum_over l x)
    ∙ ap₂ ◌+ℤ◌ (e i) (sum_parts c x y z e l)
    ∙ ring 4 (λ a b c d. a ⊕ b ⊕ (c ⊕ d) ≐ a ⊕ c ⊕ (b ⊕ d)) tt (y i) (z i) (sum_over l y) (sum_over l z)

-- ---- round a condition

-- an angle, by its number, ends where another begins
abbrev Meets : (s e : ℕ → ℤ) → (a b : ℕ) → Type 0
Meets s e zero b = ⊥
Meets s e (suc i) zero = ⊥
Meets s e (suc i) (suc k) = e i ≡ s k

-- each ends where the next begins, and the last where the first does
abbrev Linked : (s e : ℕ → ℤ) → (first : ℕ) → List ℕ → Type 0
Linked s e first [] = Unit {0}
Linked s e first (a ∷ []) = Meets s e a first
Linked s e first (a ∷ b ∷ rest) = Meets s e a b × Linked s e first (b ∷ rest)

abbrev at : (ℕ → ℤ) → ℕ → ℤ
at x zero = pos 0
at x (suc i) = x i

linked_sum : (s e : ℕ → ℤ) (first a : ℕ) (rest : List ℕ) → Linked s e first (a ∷ rest) → sum_over (a ∷ rest) (λ i. s i -ℤ e i) ≡ at s a -ℤ at s first
unfolding sum_over
linked_sum s e first zero [] h = absurd h
linked_sum s e zero (suc i) [] h = absurd h
linked_sum s e (suc k) (suc i) [] h = +ℤ_idr (s i -ℤ e i) ∙ ap (λ (z : ℤ). s i -ℤ z) h
linked_sum s e first zero (b ∷ rest) h = absurd h.0
linked_sum s e first (suc i) (zero ∷ rest) h = absurd h.0
linked_sum s e first (suc i) (suc k ∷ rest) h =
    ap₂ (λ (y z : ℤ). s i -ℤ y +ℤ z) h.0 (linked_sum s e first (suc k) rest h.1)
    ∙ ring 3 (λ a b c. a ⊖ b ⊕ (b ⊖ c) ≐ a ⊖ c) tt (s i) (s k) (at s first)

-- ---- the test over the rows

abbrev column : Figure → ℕ → ℕ → ℤ
column f j i = table (description f).rows i j

abbrev meets : Figure → (a b : ℕ) → Bool
meets f zero b = false
meets f (suc i) zero = false
meets f (suc i) (suc k) =
    every_below (condition_count f) (λ j. eqb (floor_remainder (end_of f (column f j) i -ℤ start_of f (column f j) k) (denominator f)) 0)

abbrev links : Figure → (first : ℕ) → List ℕ → Bool
links f first [] = true
links f first (a ∷ []) = meets f a first
links f first (a ∷ b ∷ rest) = meets f a b && links f first (b ∷ rest)

abbrev links_round : Figure → List ℕ → Bool
links_round f [] = true
links_round f (a ∷ rest) = links f a (a ∷ rest)

abbrev all_link : Figure → Bool
all_link f = every (λ (c : Condition). links_round f c.angles) (description f).conditions

all_link_lem : T (every all_link all_figures)
unfolding sum_over
all_link_lem = tt

-- ---- the theorem

module _ (f : Figure) (w : ℕ → ℤ) where
  abbrev D : ℕ
  D = denominator f

  abbrev num : ℕ → ℤ
  num = numerator f w

  -- what is left over where an angle starts, and where it ends
  abbrev s : ℕ → ℤ
  s i = pos (floor_remainder (start_of f num i) D)

  abbrev e : ℕ → ℤ
  e i = pos (floor_remainder (end_of f num i) D)

  laid : (l : List ℕ) → sum_over l num ≡ dot (condition_count f) (λ j. sum_over l (column f j)) w
  unfolding numerator
  laid l = sum_applied (condition_count f) (table (description f).rows) w l

  meet : (a b : ℕ) → T (meets f a b) → Meets s e a b
  meet zero b t = absurd t
  meet (suc i) zero t = absurd t
  meet (suc i) (suc k) t =
      let m = condition_count f in
      let ends : ℕ → ℤ = λ j. end_of f (column f j) i in
      let starts : ℕ → ℤ = λ j. start_of f (column f j) k in
      let quotient : ℕ → ℤ = λ j. floor_quotient (ends j -ℤ starts j) D in
      let each : (j : ℕ) → j < m → ends j ≡ starts j +ℤ pos D *ℤ quotient j =
      λ j h. ring 2 (λ a b. a ≐ b ⊕ (a ⊖ b)) tt (ends j) (starts j)
      ∙ ap (λ (z : ℤ). starts j +ℤ z)
      (multiple D (denominator_positive f) (ends j -ℤ starts j)
      (eqb→eq (floor_remainder (ends j -ℤ starts j) D) 0 (every_below_lem m (λ n. eqb (floor_remainder (ends n -ℤ starts n) D) 0) t j h))) in
      let apart : end_of f num i ≡ start_of f num k +ℤ pos D *ℤ dot m w quotient =
      laid (suc i ∷ before f i) ∙ dot_ext m _ w _ w each (λ j h. refl) ∙ dot_comm m _ w
      ∙ dot_add m w starts (λ j. pos D *ℤ quotient j)
      ∙ ap₂ ◌+ℤ◌ (dot_comm m w starts ∙ sym (laid (before f k))) (dot_scale m (pos D) w quotient) in
      ap pos (ap (λ (z : ℤ). floor_remainder z D) apart ∙ remainder_shifted D (denominator_positive f) (start_of f num k) (dot m w quotient))

  link : (first : ℕ) (l : List ℕ) → T (links f first l) → Linked s e first l
  link first [] t = tt
  link first (a ∷ []) t = meet a first t
  link first (a ∷ b ∷ rest) t =
      (meet a b (and_left (meets f a b) (links f first (b ∷ rest)) t), link first (b ∷ rest) (and_right (meets f a b) (links f first (b ∷ rest)) t))

  -- the remainders cancel round a condition
  round : (l : List ℕ) → T (links_round f l) → sum_over l (λ i. s i -ℤ e i) ≡ pos 0
  unfolding sum_over
  round [] t = refl
  round (a ∷ rest) t = linked_sum s e a a rest (link a (a ∷ rest) t) ∙ ring 1 (λ x. x ⊖ x ≐ constant (pos 0)) tt (at s a)

  -- D times the choice is the numerator, with what is left over at the start and without what is at the end
  pub choice_is : (i : ℕ) → pos D *ℤ choice f w i ≡ num i +ℤ (s i -ℤ e i)
  unfolding choice chosen sum_over
  choice_is i =
      let start = start_of f num i in
      let end = end_of f num i in
      ring 3 (λ d a b. d ⊗ (a ⊖ b) ≐ d ⊗ a ⊖ d ⊗ b) tt (pos D) (floor_quotient end D) (floor_quotient start D)
      ∙ ring 4 (λ a b r t. a ⊖ b ≐ (a ⊕ r) ⊖ (b ⊕ t) ⊕ (t ⊖ r)) tt (pos D *ℤ floor_quotient end D) (pos D *ℤ floor_quotient start D) (e i) (s i)
      ∙ ap₂ (λ (x y : ℤ). x -ℤ y +ℤ (s i -ℤ e i)) (sym (divided D (denominator_positive f) end)) (sym (divided D (denominator_positive f) start))
      ∙ ap (λ (z : ℤ). z +ℤ (s i -ℤ e i)) (ring 2 (λ x y. x ⊕ y ⊖ y ≐ x) tt (num i) start)

  -- every rest is 0: the chosen corrections cancel the misclosure of each condition
  pub closes : (j : ℕ) → j < condition_count f → condition_sum f (choice f w) j ≡ neg_ℤ (w j)
  unfolding condition_sum
  closes j h =
      let members : List ℕ = members_of f (suc j) in
      let linked : T (links_round f members) = every_at (λ (c : Condition). links_round f c.angles) (description f).conditions (each_figure all_link all_link_lem f) j none h in
      same_multiple D (denominator_positive f) (sum_over members (choice f w)) (neg_ℤ (w j))
      (sum_parts (pos D) (choice f w) num (λ i. s i -ℤ e i) choice_is members
      ∙ ap₂ ◌+ℤ◌ (numerators_cancel f w j h) (round members linked)
      ∙ ring 2 (λ d x. ⊝ d ⊗ x ⊕ constant (pos 0) ≐ d ⊗ ⊝ x) tt (pos D) (w j))

  -- a misclosure with the chosen corrections in it is 0
  pub rest_zero : (j : ℕ) → j < condition_count f → w j +ℤ condition_sum f (choice f w) j ≡ pos 0
  rest_zero j h = ap (λ (z : ℤ). w j +ℤ z) (closes j h) ∙ ring 1 (λ x. x ⊕ ⊝ x ≐ constant (pos 0)) tt (w j)

  start_below : (i : ℕ) → floor_remainder (start_of f num i) D < D
  start_below i = remainder_below D (denominator_positive f) (start_of f num i)

  end_below : (i : ℕ) → floor_remainder (end_of f num i) D < D
  end_below i = remainder_below D (denominator_positive f) (end_of f num i)

  -- the choice is not under the whole tenth just below nor over the one just above
  pub choice_low : (i : ℕ) → floor_quotient (num i) D ≤ℤ choice f w i
  choice_low i = not_under D (denominator_positive f) (num i) (choice f w i) _ _ (start_below i) (end_below i) (choice_is i)

  pub choice_high : (i : ℕ) → choice f w i ≤ℤ ceiling_quotient (num i) D
  choice_high i = not_over D (denominator_positive f) (num i) (choice f w i) _ _ (start_below i) (end_below i) (choice_is i)

-- Identities of whole numbers by reflection: `ring n (λ x y .. . left ≐ right) tt x y ..` proves `left ≡ right` for the n numbers
-- named after it, where both sides are sums, differences and products of these and of fixed numbers. antt multiplies out the difference
-- of the two sides and sees that nothing is left; a false identity leaves something, and `tt` is refused. Assumes nothing.
use Rattle.std.specs.Prelude.{◌≡◌, refl, Bool, true, false, cond, ◌&&◌, List, [], ◌∷◌, ℕ, zero, suc, T, leb, ltb, eqb, get_or, ℤ, pos}
use Rattle.std.specs.Prelude.{negsuc, neg_ℤ, ◌+ℤ◌, ◌-ℤ◌, ◌*ℤ◌}
use Rattle.vocabulary.specs.{sym, ap, ap₂, ◌∙◌, eqb→eq, +ℤ_assoc, +ℤ_idl, +ℤ_idr, +ℤ_invl, zero-*ℤ, *ℤ-zero}
use Rattle.whole.proofs.Computed.{and_left, and_right}
use Rattle.whole.proofs.Integers.{*ℤ-unit, unit-*ℤ, +ℤ-left-comm, *ℤ-distribʳ, *ℤ-distribˡ, *ℤ-assoc, *ℤ-left-comm, negℤ-*ℤ}

pub data Expression : Type 0 where
  variable : ℕ → Expression
  constant : ℤ → Expression
  ⊝◌ : Expression → Expression
  ◌⊕◌ : Expression → Expression → Expression
  ◌⊗◌ : Expression → Expression → Expression

infixl 6 ◌⊕◌ ◌⊖◌
infixl 7 ◌⊗◌
infix 8 ⊝◌
infix 4 ◌≐◌
abbrev pub ◌⊖◌ : Expression → Expression → Expression
a ⊖ b = a ⊕ ⊝ b

abbrev pub meaning : List ℤ → Expression → ℤ
meaning values (variable i) = get_or values i (pos 0)
meaning values (constant c) = c
meaning values (⊝ a) = neg_ℤ (meaning values a)
meaning values (a ⊕ b) = meaning values a +ℤ meaning values b
meaning values (a ⊗ b) = meaning values a *ℤ meaning values b

-- ---- the normal form: coefficients of products of variables, both in rising order, no coefficient 0

pub data Term : Type 0 where
  ◌·◌ : ℤ → List ℕ → Term

infix 90 ◌·◌
abbrev pub insert : ℕ → List ℕ → List ℕ
insert i [] = i ∷ []
insert i (j ∷ m) = cond (leb i j) (i ∷ j ∷ m) (j ∷ insert i m)

abbrev pub join : List ℕ → List ℕ → List ℕ
join [] m = m
join (i ∷ l) m = insert i (join l m)

abbrev pub same : List ℕ → List ℕ → Bool
same [] [] = true
same [] (j ∷ m) = false
same (i ∷ l) [] = false
same (i ∷ l) (j ∷ m) = eqb i j && same l m

abbrev pub before : List ℕ → List ℕ → Bool
before [] m = true
before (i ∷ l) [] = false
before (i ∷ l) (j ∷ m) = cond (eqb i j) (before l m) (ltb i j)

abbrev pub nonzero : ℤ → List ℕ → List Term → List Term
nonzero (pos zero) m p = p
nonzero (pos (suc n)) m p = pos (suc n) · m ∷ p
nonzero (negsuc n) m p = negsuc n · m ∷ p

abbrev pub add : ℤ → List ℕ → List Term → List Term
add c m [] = nonzero c m []
add c m (d · l ∷ p) = cond (same m l) (nonzero (c +ℤ d) l p) (cond (before m l) (c · m ∷ d · l ∷ p) (d · l ∷ add c m p))

abbrev pub sum : List Term → List Term → List Term
sum [] q = q
sum (c · m ∷ p) q = add c m (sum p q)

abbrev pub scaled : ℤ → List ℕ → List Term → List Term
scaled c m [] = []
scaled c m (d · l ∷ p) = add (c *ℤ d) (join m l) (scaled c m p)

abbrev pub product : List Term → List Term → List Term
product [] q = []
product (c · m ∷ p) q = sum (scaled c m q) (product p q)

abbrev pub normal : Expression → List Term
normal (variable i) = pos 1 · (i ∷ []) ∷ []
normal (constant c) = nonzero c [] []
normal (⊝ a) = scaled (negsuc 0) [] (normal a)
normal (a ⊕ b) = sum (normal a) (normal b)
normal (a ⊗ b) = product (normal a) (normal b)

abbrev pub is_nothing : List Term → Bool
is_nothing [] = true
is_nothing (t ∷ p) = false

-- ---- the normal form means what the expression means

module _ (values : List ℤ) where
  abbrev powers : List ℕ → ℤ
  powers [] = pos 1
  powers (i ∷ m) = get_or values i (pos 0) *ℤ powers m

  abbrev total : List Term → ℤ
  total [] = pos 0
  total (c · m ∷ p) = c *ℤ powers m +ℤ total p

  cond_powers : (b : Bool) (l m : List ℕ) {z : ℤ} → powers l ≡ z → powers m ≡ z → powers (cond b l m) ≡ z
  cond_powers true l m h k = h
  cond_powers false l m h k = k

  insert_powers : (i : ℕ) (m : List ℕ) → powers (insert i m) ≡ get_or values i (pos 0) *ℤ powers m
  insert_powers i [] = refl
  insert_powers i (j ∷ m) =
      cond_powers (leb i j) (i ∷ j ∷ m) (j ∷ insert i m) refl
      (ap (λ (t : ℤ). get_or values j (pos 0) *ℤ t) (insert_powers i m) ∙ *ℤ-left-comm (get_or values j (pos 0)) (get_or values i (pos 0)) (powers m))

  join_powers : (l m : List ℕ) → powers (join l m) ≡ powers l *ℤ powers m
  join_powers [] m = sym (unit-*ℤ (powers m))
  join_powers (i ∷ l) m =
      insert_powers i (join l m) ∙ ap (λ (t : ℤ). get_or values i (pos 0) *ℤ t) (join_powers l m)
      ∙ sym (*ℤ-assoc (get_or values i (pos 0)) (powers l) (powers m))

  same_powers : (l m : List ℕ) → T (same l m) → powers l ≡ powers m
  same_powers [] [] t = refl
  same_powers [] (j ∷ m) t = absurd t
  same_powers (i ∷ l) [] t = absurd t
  same_powers (i ∷ l) (j ∷ m) t =
      ap₂ ◌*ℤ◌ (ap (λ (k : ℕ). get_or values k (pos 0)) (eqb→eq i j (and_left (eqb i j) (same l m) t))) (same_powers l m (and_right (eqb i j) (same l m) t))

  nonzero_total : (c : ℤ) (m : List ℕ) (p : List Term) → total (nonzero c m p) ≡ c *ℤ powers m +ℤ total p
  nonzero_total (pos zero) m p = sym (ap (λ (t : ℤ). t +ℤ total p) (zero-*ℤ (powers m)) ∙ +ℤ_idl (total p))
  nonzero_total (pos (suc n)) m p = refl
  nonzero_total (negsuc n) m p = refl

  cond_total : (b : Bool) (p q : List Term) {z : ℤ} → (T b → total p ≡ z) → total q ≡ z → total (cond b p q) ≡ z
  cond_total true p q h k = h tt
  cond_total false p q h k = k

  add_total : (c : ℤ) (m : List ℕ) (p : List Term) → total (add c m p) ≡ c *ℤ powers m +ℤ total p
  add_total c m [] = nonzero_total c m []
  add_total c m (d · l ∷ p) =
      cond_total (same m l) (nonzero (c +ℤ d) l p) (cond (before m l) (c · m ∷ d · l ∷ p) (d · l ∷ add c m p))
      (λ t. nonzero_total (c +ℤ d) l p ∙ ap (λ (s : ℤ). s +ℤ total p) (*ℤ-distribʳ c d (powers l))
      ∙ +ℤ_assoc (c *ℤ powers l) (d *ℤ powers l) (total p)
      ∙ ap (λ (s : ℤ). c *ℤ s +ℤ (d *ℤ powers l +ℤ total p)) (sym (same_powers m l t)))
      (cond_total (before m l) (c · m ∷ d · l ∷ p) (d · l ∷ add c m p) (λ t. refl)
      (ap (λ (s : ℤ). d *ℤ powers l +ℤ s) (add_total c m p) ∙ +ℤ-left-comm (d *ℤ powers l) (c *ℤ powers m) (total p)))

  sum_total : (p q : List Term) → total (sum p q) ≡ total p +ℤ total q
  sum_total [] q = sym (+ℤ_idl (total q))
  sum_total (c · m ∷ p) q =
      add_total c m (sum p q) ∙ ap (λ (s : ℤ). c *ℤ powers m +ℤ s) (sum_total p q) ∙ sym (+ℤ_assoc (c *ℤ powers m) (total p) (total q))

  product_of_terms : (c d : ℤ) (m l : List ℕ) → (c *ℤ d) *ℤ powers (join m l) ≡ (c *ℤ powers m) *ℤ (d *ℤ powers l)
  product_of_terms c d m l =
      ap (λ (s : ℤ). (c *ℤ d) *ℤ s) (join_powers m l) ∙ *ℤ-assoc c d (powers m *ℤ powers l)
      ∙ ap (λ (s : ℤ). c *ℤ s) (*ℤ-left-comm d (powers m) (powers l)) ∙ sym (*ℤ-assoc c (powers m) (d *ℤ powers l))

  scaled_total : (c : ℤ) (m : List ℕ) (p : List Term) → total (scaled c m p) ≡ (c *ℤ powers m) *ℤ total p
  scaled_total c m [] = sym (*ℤ-zero (c *ℤ powers m))
  scaled_total c m (d · l ∷ p) =
      add_total (c *ℤ d) (join m l) (scaled c m p)
      ∙ ap₂ ◌+ℤ◌ (product_of_terms c d m l) (scaled_total c m p)
      ∙ sym (*ℤ-distribˡ (c *ℤ powers m) (d *ℤ powers l) (total p))

  product_total : (p q : List Term) → total (product p q) ≡ total p *ℤ total q
  product_total [] q = sym (zero-*ℤ (total q))
  product_total (c · m ∷ p) q =
      sum_total (scaled c m q) (product p q) ∙ ap₂ ◌+ℤ◌ (scaled_total c m q) (product_total p q)
      ∙ sym (*ℤ-distribʳ (c *ℤ powers m) (total p) (total q))

  minus_one : (z : ℤ) → (negsuc 0 *ℤ pos 1) *ℤ z ≡ neg_ℤ z
  minus_one z = negℤ-*ℤ (pos 1) z ∙ ap neg_ℤ (unit-*ℤ z)

  normal_total : (e : Expression) → total (normal e) ≡ meaning values e
  normal_total (variable i) =
      +ℤ_idr (pos 1 *ℤ (get_or values i (pos 0) *ℤ pos 1)) ∙ unit-*ℤ (get_or values i (pos 0) *ℤ pos 1)
      ∙ *ℤ-unit (get_or values i (pos 0))
  normal_total (constant c) = nonzero_total c [] [] ∙ +ℤ_idr (c *ℤ pos 1) ∙ *ℤ-unit c
  normal_total (⊝ a) = scaled_total (negsuc 0) [] (normal a) ∙ minus_one (total (normal a)) ∙ ap neg_ℤ (normal_total a)
  normal_total (a ⊕ b) = sum_total (normal a) (normal b) ∙ ap₂ ◌+ℤ◌ (normal_total a) (normal_total b)
  normal_total (a ⊗ b) = product_total (normal a) (normal b) ∙ ap₂ ◌*ℤ◌ (normal_total a) (normal_total b)

  nothing_total : (p : List Term) → T (is_nothing p) → total p ≡ pos 0
  nothing_total [] t = refl
  nothing_total (x ∷ p) t = absurd t

-- ---- the solver

pub data Equation : Type 0 where
  ◌≐◌ : Expression → Expression → Equation

abbrev pub Sides : ℕ → Type 0
Sides zero = Equation
Sides (suc n) = Expression → Sides n

abbrev pub named : (n : ℕ) → Sides n → Equation
named zero e = e
named (suc n) f = named n (f (variable n))

abbrev pub balances : Equation → Bool
balances (a ≐ b) = is_nothing (normal (a ⊖ b))

abbrev pub Holds : List ℤ → Equation → Type 0
Holds values (a ≐ b) = meaning values a ≡ meaning values b

abbrev pub Identity : (n : ℕ) → Equation → List ℤ → Type 0
Identity zero e values = Holds values e
Identity (suc n) e values = (x : ℤ) → Identity n e (x ∷ values)

pub difference_zero : (a b : ℤ) → a -ℤ b ≡ pos 0 → a ≡ b
difference_zero a b h =
    sym (+ℤ_idr a) ∙ ap (λ (t : ℤ). a +ℤ t) (sym (+ℤ_invl b)) ∙ sym (+ℤ_assoc a (neg_ℤ b) b) ∙ ap (λ (t : ℤ). t +ℤ b) h ∙ +ℤ_idl b

holds : (e : Equation) → T (balances e) → (values : List ℤ) → Holds values e
holds (a ≐ b) t values =
    difference_zero (meaning values a) (meaning values b)
    (sym (normal_total values (a ⊖ b)) ∙ nothing_total values (normal (a ⊖ b)) t)

identity : (n : ℕ) (e : Equation) → T (balances e) → (values : List ℤ) → Identity n e values
identity zero e t values = holds e t values
identity (suc n) e t values = λ x. identity n e t (x ∷ values)

pub ring : (n : ℕ) (sides : Sides n) → T (balances (named n sides)) → Identity n (named n sides) []
ring n sides t = identity n (named n sides) t []

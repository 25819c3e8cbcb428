-- How a caller knows that 128 bits hold a result, so that its promise is the exact value: the bounds of the numbers that it is made of are
-- multiplied out by antt, as `ring` of `whole` multiplies out an identity. `stays n (λ x y .. . result) x bound within y bound within ..
-- tt` says `held result ≡ result` of the n numbers named after it, each with its bound and a proof of it. A result that could pass 128
-- bits is refused at `tt`.
use Rattle.std.specs.Prelude.{◌≡◌, List, [], ◌∷◌, ℕ, zero, suc, ◌+◌, ◌*◌, ◌^◌, ◌≤◌, ◌<◌, T, ltb, ℤ, pos, negsuc, neg_ℤ, nat_abs, ◌-ℤ◌, ◌*ℤ◌}
use Rattle.std.specs.Prelude.{get_or}
use Rattle.vocabulary.specs.{ap, le_refl, le_trans, add-le-add, mul-le-mul, lt_of_le_of_lt, ltb→lt}
use Rattle.whole.proofs.Magnitudes.{nat_abs_neg, nat_abs_add, nat_abs_mul}
use Rattle.whole.proofs.Ring.{Expression, variable, constant, ⊝◌, ◌⊕◌, ◌⊖◌, ◌⊗◌, meaning}
use Rattle.wide.specs.{Wide.limit, Wide.value_of, Wide.held, declared.Wide.Wide}
use Rattle.wide.proofs.{Signs.signed_size, Sizes.held_size_lem}

-- ---- What is held, and what a wide number's size is

pub held_within : (z : ℤ) → nat_abs z < 2 ^ 128 → held z ≡ z
unfolding held limit
held_within (pos n) h = ap pos (held_size_lem n h)
held_within (negsuc n) h = ap (λ (m : ℕ). neg_ℤ (pos m)) (held_size_lem (suc n) h)

pub value_size : (a : Wide) → nat_abs (value_of a) ≡ a.size
unfolding value_of
value_size a = signed_size a.negative a.size

-- ---- How far a result reaches from 0 where its numbers reach no farther than their bounds

abbrev pub reach : List ℕ → Expression → ℕ
reach bounds (variable i) = get_or bounds i 0
reach bounds (constant c) = nat_abs c
reach bounds (⊝ a) = reach bounds a
reach bounds (a ⊕ b) = reach bounds a + reach bounds b
reach bounds (a ⊗ b) = reach bounds a * reach bounds b

-- the i-th number within the i-th bound
abbrev pub Within : List ℤ → List ℕ → Type 0
Within values bounds = (i : ℕ) → nat_abs (get_or values i (pos 0)) ≤ get_or bounds i 0

within_none : Within [] []
within_none i = le_refl 0

within_more : (x : ℤ) (bound : ℕ) (values : List ℤ) (bounds : List ℕ) → nat_abs x ≤ bound → Within values bounds → Within (x ∷ values) (bound ∷ bounds)
within_more x bound values bounds h w zero = h
within_more x bound values bounds h w (suc i) = w i

reaches : (values : List ℤ) (bounds : List ℕ) → Within values bounds → (e : Expression) → nat_abs (meaning values e) ≤ reach bounds e
reaches values bounds w (variable i) = w i
reaches values bounds w (constant c) = le_refl (nat_abs c)
reaches values bounds w (⊝ a) = rw (nat_abs_neg (meaning values a)) (reaches values bounds w a)
reaches values bounds w (a ⊕ b) =
    le_trans (nat_abs_add (meaning values a) (meaning values b)) (add-le-add (reaches values bounds w a) (reaches values bounds w b))
reaches values bounds w (a ⊗ b) =
    rw (nat_abs_mul (meaning values a) (meaning values b)) (mul-le-mul (reaches values bounds w a) (reaches values bounds w b))

-- ---- Results of n numbers

abbrev pub Result : ℕ → Type 0
Result zero = Expression
Result (suc n) = Expression → Result n

abbrev pub named : (n : ℕ) → Result n → Expression
named zero e = e
named (suc n) f = named n (f (variable n))

abbrev pub Stays : ℕ → Expression → List ℤ → List ℕ → Type 0
Stays zero e values bounds = T (ltb (reach bounds e) (2 ^ 128)) → held (meaning values e) ≡ meaning values e
Stays (suc n) e values bounds = (x : ℤ) (bound : ℕ) → nat_abs x ≤ bound → Stays n e (x ∷ values) (bound ∷ bounds)

staying : (n : ℕ) (e : Expression) (values : List ℤ) (bounds : List ℕ) → Within values bounds → Stays n e values bounds
staying zero e values bounds w = λ t. held_within (meaning values e) (lt_of_le_of_lt (reaches values bounds w e) (ltb→lt (reach bounds e) (2 ^ 128) t))
staying (suc n) e values bounds w = λ x bound h. staying n e (x ∷ values) (bound ∷ bounds) (within_more x bound values bounds h w)

pub stays : (n : ℕ) (result : Result n) → Stays n (named n result) [] []
stays n result = staying n (named n result) [] [] within_none

-- and their magnitude itself
abbrev pub Reaches : ℕ → Expression → List ℤ → List ℕ → Type 0
Reaches zero e values bounds = nat_abs (meaning values e) ≤ reach bounds e
Reaches (suc n) e values bounds = (x : ℤ) (bound : ℕ) → nat_abs x ≤ bound → Reaches n e (x ∷ values) (bound ∷ bounds)

reaching : (n : ℕ) (e : Expression) (values : List ℤ) (bounds : List ℕ) → Within values bounds → Reaches n e values bounds
reaching zero e values bounds w = reaches values bounds w e
reaching (suc n) e values bounds w = λ x bound h. reaching n e (x ∷ values) (bound ∷ bounds) (within_more x bound values bounds h w)

pub magnitude_reaches : (n : ℕ) (result : Result n) → Reaches n (named n result) [] []
magnitude_reaches n result = reaching n (named n result) [] [] within_none

-- ---- Two conditions at once: the determinant of their normal equations, and a numerator of a correction

-- coefficients up to 2 ^ 28 and misclosures up to 2 ^ 18, with a factor of 2400
numerator_stays : (a bb wa ab wb : ℤ) → nat_abs a ≤ 2 ^ 28 → nat_abs bb ≤ 2 ^ 60 → nat_abs wa ≤ 2 ^ 18 → nat_abs ab ≤ 2 ^ 60 → nat_abs wb ≤ 2 ^ 18
    → held (a *ℤ pos 2400 *ℤ (bb *ℤ wa -ℤ ab *ℤ wb)) ≡ a *ℤ pos 2400 *ℤ (bb *ℤ wa -ℤ ab *ℤ wb)
numerator_stays a bb wa ab wb h k l m n =
    stays 5 (λ a bb wa ab wb. a ⊗ constant (pos 2400) ⊗ (bb ⊗ wa ⊖ ab ⊗ wb)) a (2 ^ 28) h bb (2 ^ 60) k wa (2 ^ 18) l ab (2 ^ 60) m wb (2 ^ 18) n tt

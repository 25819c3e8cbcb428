-- Laws of lists made by a rule and of padded lists (specs/Lists.antt), and the one law of every loop that fills an array. Assumes nothing.
use Rattle.std.specs.Prelude.{◌≡◌, refl, List, [], ◌∷◌, ◌++◌, ℕ, zero, suc, ◌+◌, ◌≤◌, ◌<◌, length, get_or, take, set}
use Rattle.vocabulary.specs.{sym, ap, ap₂, ◌∙◌, le_of_suc-le-suc, not-suc-le-zero, add-one, arith, length-set, take-suc, take-suc-set}
use Rattle.vocabulary.specs.{take_all, get_or-set_other}
use Rattle.whole.specs.Lists.{listed, padded}

module _ {A : Type 0} where
  pub length_listed : (n : ℕ) (f : ℕ → A) → length (listed n f) ≡ n
  unfolding listed
  length_listed zero f = refl
  length_listed (suc n) f = ap suc (length_listed n (λ i. f (suc i)))

  pub get_or_listed : (n : ℕ) (f : ℕ → A) (i : ℕ) (d : A) → i < n → get_or (listed n f) i d ≡ f i
  unfolding listed
  get_or_listed zero f i d b = absurd (not-suc-le-zero b)
  get_or_listed (suc n) f zero d b = refl
  get_or_listed (suc n) f (suc i) d b = get_or_listed n (λ k. f (suc k)) i d (le_of_suc-le-suc b)

  pub listed_ext : (n : ℕ) (f g : ℕ → A) → ((i : ℕ) → i < n → f i ≡ g i) → listed n f ≡ listed n g
  unfolding listed
  listed_ext zero f g h = refl
  listed_ext (suc n) f g h = ap₂ ◌∷◌ (h 0 (omega arith)) (listed_ext n (λ i. f (suc i)) (λ i. g (suc i)) (λ i b. h (suc i) (omega arith)))

  -- a list of n values is the list of its values
  pub listed_get_or : (d : A) (xs : List A) → listed (length xs) (λ i. get_or xs i d) ≡ xs
  unfolding listed
  listed_get_or d [] = refl
  listed_get_or d (x ∷ xs) = ap (λ (ys : List A). x ∷ ys) (listed_get_or d xs)

  -- within a list the value past its end does not matter
  pub get_d_any : (xs : List A) (i : ℕ) (d e : A) → i < length xs → get_or xs i d ≡ get_or xs i e
  get_d_any [] i d e b = absurd (not-suc-le-zero b)
  get_d_any (x ∷ xs) zero d e b = refl
  get_d_any (x ∷ xs) (suc i) d e b = get_d_any xs i d e (le_of_suc-le-suc b)

  pub length_padded : (n : ℕ) (d : A) (xs : List A) → length (padded n d xs) ≡ n
  length_padded zero d xs = refl
  length_padded (suc n) d [] = ap suc (length_padded n d [])
  length_padded (suc n) d (x ∷ xs) = ap suc (length_padded n d xs)

  pub get_or_padded : (n : ℕ) (d : A) (xs : List A) (i : ℕ) → i < n → get_or (padded n d xs) i d ≡ get_or xs i d
  get_or_padded zero d xs i b = absurd (not-suc-le-zero b)
  get_or_padded (suc n) d [] zero b = refl
  get_or_padded (suc n) d [] (suc i) b = get_or_padded n d [] i (le_of_suc-le-suc b)
  get_or_padded (suc n) d (x ∷ xs) zero b = refl
  get_or_padded (suc n) d (x ∷ xs) (suc i) b = get_or_padded n d xs i (le_of_suc-le-suc b)

  -- the invariant of every loop that fills an array by a rule: the first i of n places are filled
  pub record Filled (n : ℕ) (f : ℕ → A) (i : ℕ) (l : List A) : Type 0 where
    pub within : i ≤ n
    pub size : length l ≡ n
    pub done : take i l ≡ take i (listed n f)

  pub filled_none : (n : ℕ) (f : ℕ → A) (l : List A) → length l ≡ n → Filled n f 0 l
  filled_none n f l e = record { within = omega arith; size = e; done = refl }

  pub filled_more : {n i : ℕ} {f : ℕ → A} {l : List A} {v : A} → Filled n f i l → i < n → v ≡ f i → Filled n f (i + 1) (set l i v)
  filled_more {n} {i} {f} {l} {v} h b e = record {
    within = omega arith;
    size = length-set l i v ∙ h.size;
    done =
        ap (λ (k : ℕ). take k (set l i v)) (add-one i) ∙ take-suc-set l i v (omega (arith, h.size))
        ∙ ap₂ (λ (s : List A) (x : A). s ++ (x ∷ [])) h.done (e ∙ sym (get_or_listed n f i v b))
        ∙ sym (take-suc (listed n f) i v (omega (arith, length_listed n f))) ∙ ap (λ (k : ℕ). take k (listed n f)) (sym (add-one i));
  }

  pub filled_all : {n i : ℕ} {f : ℕ → A} {l : List A} → Filled n f i l → n ≤ i → l ≡ listed n f
  filled_all {n} {i} {f} {l} h b = sym (take_all i l (omega (arith, h.size))) ∙ h.done ∙ take_all i (listed n f) (omega (arith, length_listed n f))

  -- the invariant of every loop that works an array over in place: what is not passed yet is as it was
  pub record Replaced (d : A) (n : ℕ) (f : ℕ → A) (old : List A) (i : ℕ) (l : List A) : Type 0 where
    pub filled : Filled n f i l
    pub left : (k : ℕ) → i ≤ k → get_or l k d ≡ get_or old k d

  pub replaced_none : (d : A) (n : ℕ) (f : ℕ → A) (l : List A) → length l ≡ n → Replaced d n f l 0 l
  replaced_none d n f l e = record { filled = filled_none n f l e; left = λ k h. refl }

  pub replaced_more : {d : A} {n i : ℕ} {f : ℕ → A} {old l : List A} {v : A} → Replaced d n f old i l → i < n → v ≡ f i → Replaced d n f old (i + 1) (set l i v)
  replaced_more {d} {n} {i} {f} {old} {l} {v} h b e = record {
    filled = filled_more h.filled b e;
    left = λ k past. get_or-set_other l i k v d (λ (same : k ≡ i). omega arith) ∙ h.left k (omega arith);
  }

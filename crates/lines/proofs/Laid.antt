-- Texts laid one after the other, and how lines and tables are made of them. Assumes nothing.
use Rattle.std.specs.Prelude.{◌≡◌, refl, List, [], ◌∷◌, ◌++◌, ℕ, ◌+◌, ◌^◌, ◌<◌, ℤ, pos, length, take, get_or}
use Rattle.std.proofs.lemmas.List.{take_more}
use Rattle.vocabulary.specs.{w32, sym, ap, ap₂, ◌∙◌, append_assoc, append-nil, map-append, mag, w64, to_z, of_z, to_z-of_z}
use Rattle.whole.specs.Lists.{listed}
use Rattle.text.specs.Page.{Place, laid_on}
use Rattle.text.specs.Text.{space, line_feed, decimal, spaced, line, lines}
use Rattle.text.proofs.{Laying.laid_on_append, Lines.lines_listed}
use Rattle.lines.specs.{Lays.line_start, Lays.numbers_ended, Lines.numbers}

-- ---- One after the other

-- as `Lays` has it, of the names of a page's slice before and after, and of where the page stood and stands
abbrev pub Laid : {N : Type 0} → (s : List ℕ) → (a b : N) → (p q : Place) → Type 0
Laid s a b p q = (b ≡ a) × (q ≡ laid_on p s)

module _ {N : Type 0} {a b : N} (p : Place) {q : Place} where
  -- the same text, put another way
  pub lays_as : {s s' : List ℕ} → s ≡ s' → Laid s a b p q → Laid s' a b p q
  lays_as e lays = (lays.0, lays.1 ∙ ap (laid_on p) e)

  pub lays_then : (s s' : List ℕ) {c : N} {r : Place} → Laid s a b p q → Laid s' b c q r → Laid (s ++ s') a c p r
  lays_then s s' before next = (next.0 ∙ before.0, next.1 ∙ ap (λ (x : Place). laid_on x s') before.1 ∙ laid_on_append p s s')

-- lines after a text, laid one by one, as a loop lays them
module _ {N : Type 0} {a b : N} (p : Place) {q : Place} (t : List ℕ) (f : ℕ → List (List ℕ)) where
  pub lines_begun : Laid t a b p q → Laid (t ++ lines (listed 0 f)) a b p q
  unfolding lines listed
  lines_begun lays = lays_as p (sym (append-nil t)) lays

  pub lines_more : (n : ℕ) {c : N} {r : Place} → Laid (t ++ lines (listed n f)) a b p q → Laid (line (f n)) b c q r → Laid (t ++ lines (listed (n + 1) f)) a c p r
  lines_more n so_far next =
      lays_as p (append_assoc t (lines (listed n f)) (line (f n)) ∙ ap (λ (l : List ℕ). t ++ l) (sym (lines_listed n f)))
      (lays_then p (t ++ lines (listed n f)) (line (f n)) so_far next)

-- ---- The parts of a line

start_more : (ps qs : List (List ℕ)) → line_start ps ++ line_start qs ≡ line_start (ps ++ qs)
unfolding line_start
start_more [] qs = refl
start_more (p ∷ ps) qs =
    append_assoc p (space ∷ line_start ps) (line_start qs) ∙ ap (λ (l : List ℕ). p ++ (space ∷ l)) (start_more ps qs)

-- a part, and the rest of its line
line_more : (p q : List ℕ) (ps : List (List ℕ)) → line (p ∷ q ∷ ps) ≡ p ++ (space ∷ line (q ∷ ps))
unfolding line spaced
line_more p q ps = append_assoc p (space ∷ spaced (q ∷ ps)) (line_feed ∷ [])

start_line : (ps : List (List ℕ)) (q : List ℕ) (qs : List (List ℕ)) → line_start ps ++ line (q ∷ qs) ≡ line (ps ++ (q ∷ qs))
unfolding line_start
start_line [] q qs = refl
start_line (p ∷ []) q qs = append_assoc p (space ∷ []) (line (q ∷ qs)) ∙ sym (line_more p q qs)
start_line (p ∷ r ∷ ps) q qs =
    append_assoc p (space ∷ line_start (r ∷ ps)) (line (q ∷ qs)) ∙ ap (λ (l : List ℕ). p ++ (space ∷ l)) (start_line (r ∷ ps) q qs)
    ∙ sym (line_more p r (ps ++ (q ∷ qs)))

-- one part with the space after it, and the rest of its line
pub part_line : (p q : List ℕ) (ps : List (List ℕ)) → (p ++ (space ∷ [])) ++ line (q ∷ ps) ≡ line (p ∷ q ∷ ps)
unfolding line_start
part_line p q ps = start_line (p ∷ []) q ps

-- how a line begins, and what stands after that on the line
module _ {N : Type 0} {a b c : N} (x : Place) {y z : Place} where
  pub lays_parts : (ps qs : List (List ℕ)) → Laid (line_start ps) a b x y → Laid (line_start qs) b c y z
      → Laid (line_start (ps ++ qs)) a c x z
  lays_parts ps qs before next = lays_as x (start_more ps qs) (lays_then x (line_start ps) (line_start qs) before next)

  pub lays_line : (ps : List (List ℕ)) (q : List ℕ) (qs : List (List ℕ)) → Laid (line_start ps) a b x y
      → Laid (line (q ∷ qs)) b c y z → Laid (line (ps ++ (q ∷ qs))) a c x z
  lays_line ps q qs before next = lays_as x (start_line ps q qs) (lays_then x (line_start ps) (line (q ∷ qs)) before next)

-- a part with the byte after it
module _ (p : List ℕ) {N : Type 0} {a b : N} (x : Place) {y : Place} where
  pub part_start : Laid (p ++ (space ∷ [])) a b x y → Laid (line_start (p ∷ [])) a b x y
  unfolding line_start
  part_start lays = lays

  pub part_last : Laid (p ++ (line_feed ∷ [])) a b x y → Laid (line (p ∷ [])) a b x y
  unfolding line spaced
  part_last lays = lays

-- numbers that are laid one by one, as a loop lays them: each but the first with a space before it
spaced_more : (p : List ℕ) (ps : List (List ℕ)) (q : List ℕ) → spaced (p ∷ ps) ++ (space ∷ q) ≡ spaced (p ∷ (ps ++ (q ∷ [])))
unfolding spaced
spaced_more p [] q = refl
spaced_more p (r ∷ ps) q =
    append_assoc p (space ∷ spaced (r ∷ ps)) (space ∷ q) ∙ ap (λ (l : List ℕ). p ++ (space ∷ l)) (spaced_more r ps q)

pub number_more : (z : ℤ) (zs : List ℤ) (n : ℕ) → n < length zs
    → spaced (numbers (z ∷ take n zs)) ++ (space ∷ decimal (get_or zs n (pos 0))) ≡ spaced (numbers (z ∷ take (n + 1) zs))
number_more z zs n within =
    let last = get_or zs n (pos 0) in
    spaced_more (decimal z) (numbers (take n zs)) (decimal last)
    ∙ ap (λ (l : List (List ℕ)). spaced (decimal z ∷ l)) (sym (map-append decimal (take n zs) (last ∷ [])) ∙ ap numbers (sym (take_more zs n (pos 0) within)))

-- numbers that end in a space begin a line
pub spaced_start : (p : List ℕ) (ps : List (List ℕ)) → spaced (p ∷ ps) ++ (space ∷ []) ≡ line_start (p ∷ ps)
unfolding line_start spaced
spaced_start p [] = refl
spaced_start p (q ∷ ps) =
    append_assoc p (space ∷ spaced (q ∷ ps)) (space ∷ []) ∙ ap (λ (l : List ℕ). p ++ (space ∷ l)) (spaced_start q ps)

-- ---- The numbers of a line, as its array holds them

-- one more, before others
pub number_then : {z z' : ℤ} {zs zs' : List ℤ} → z ≡ z' → zs ≡ zs' → z ∷ zs ≡ z' ∷ zs'
number_then = ap₂ ◌∷◌

-- what a call answered
pub answered : {r z : ℤ} → mag r < 2 ^ 63 → r ≡ z → to_z w64 (of_z w64 r) ≡ z
answered fits e = to_z-of_z {w = w64} (record { sfits = fits }) ∙ e

-- what a value of a slice was widened to
pub from_natural : {r : ℤ} {m n : ℕ} → mag r < 2 ^ 63 → r ≡ pos m → m ≡ n → to_z w64 (of_z w64 r) ≡ pos n
from_natural fits e read = answered fits (e ∙ ap pos read)

pub from_signed : {r y z : ℤ} → mag r < 2 ^ 63 → mag y < 2 ^ 31 → r ≡ to_z w32 (of_z w32 y) → y ≡ z → to_z w64 (of_z w64 r) ≡ z
from_signed fits small e read = answered fits (e ∙ to_z-of_z {w = w32} (record { sfits = small }) ∙ read)

-- they end their line
pub numbers_line : {values : List ℤ} (zs : List ℤ) → values ≡ zs → numbers_ended values line_feed ≡ line (numbers zs)
unfolding numbers_ended line
numbers_line zs e = ap (λ (l : List ℤ). spaced (numbers l) ++ (line_feed ∷ [])) e

-- after a word, which is given with the space after it
pub word_line : (word : List ℕ) {values : List ℤ} (z : ℤ) (zs : List ℤ) → values ≡ z ∷ zs
    → (word ++ (space ∷ [])) ++ numbers_ended values line_feed ≡ line (word ∷ numbers (z ∷ zs))
word_line word z zs e = ap (λ (l : List ℕ). (word ++ (space ∷ [])) ++ l) (numbers_line (z ∷ zs) e) ∙ part_line word (decimal z) (numbers zs)

-- Where each item of a layout stands, by tests that antt computes over all kinds and figures: no item stands twice, and each value that
-- is counted stands there. Assumes nothing.
use Rattle.std.specs.Prelude.{ℕ, suc, ◌+◌, ◌≤◌, ◌<◌, Bool, true, false, cond, ◌&&◌, List, [], ◌∷◌, map, ◌≡◌, refl, T, eqb, leb, ltb, length}
use Rattle.std.specs.Prelude.{get_or, take}
use Rattle.vocabulary.specs.{zero-le, suc-le-suc, sym, ap, ap₂, ◌∙◌, le_of_suc-le-suc, not-suc-le-zero, arith, eqb→eq, leb→le, ltb→lt, lit≤}
use Rattle.whole.specs.Lists.{every, every_below}
use Rattle.whole.proofs.Computed.{and_left, and_right, every_at, every_below_lem}
use Rattle.bits.specs.Bits.{total_width}
use Rattle.figures.specs.{declared.Figure.Figure, Figure.all_figures, Figure.angle_count}
use Rattle.sheet_layout.specs.{declared.Kind.Kind, Kinds.all_kinds}
use Rattle.sheet_layout.specs.Layout.{Item, the_kind, the_code, the_n, limit, tolerance, angle, angle_rounds, fixed_angle, log_sine, difference, log_side, width_of, head, layout, limit_or_tolerance_item, rounds_in, fixed_in, sine_entries_in, sides_in, sort, number_of_item, same, position_of, held}
use Rattle.sheet_layout.proofs.EachKind.{each}

-- ---- items and their indexes

-- an item is told by its sort and its number
item_from : ℕ → ℕ → Item
item_from s i =
    get_or (the_kind ∷ the_code ∷ the_n ∷ limit ∷ tolerance ∷ angle i ∷ angle_rounds i ∷ fixed_angle i ∷ log_sine i ∷ difference i ∷ log_side i ∷ []) s the_kind

told : (p : Item) → item_from (sort p) (number_of_item p) ≡ p
unfolding item_from sort number_of_item
told the_kind = refl
told the_code = refl
told the_n = refl
told limit = refl
told tolerance = refl
told (angle i) = refl
told (angle_rounds i) = refl
told (fixed_angle i) = refl
told (log_sine i) = refl
told (difference i) = refl
told (log_side i) = refl

pub same_item : (p q : Item) → T (same p q) → p ≡ q
unfolding same
same_item p q t =
    sym (told p)
    ∙ ap₂ item_from (eqb→eq (sort p) (sort q) (and_left (eqb (sort p) (sort q)) (eqb (number_of_item p) (number_of_item q)) t))
    (eqb→eq (number_of_item p) (number_of_item q) (and_right (eqb (sort p) (sort q)) (eqb (number_of_item p) (number_of_item q)) t))
    ∙ told q

-- the index at which an item is first met
unfoldable pub index_of : Item → List Item → ℕ
unfolding same
index_of p [] = 0
index_of p (q ∷ later) = cond (same p q) 0 (suc (index_of p later))

pub position_by_index : (p : Item) (l : List Item) → position_of p l ≡ total_width (take (index_of p l) (map width_of l))
unfolding position_of index_of total_width
position_by_index p [] = refl
position_by_index p (q ∷ l) = go (same p q) (position_by_index p l)
  where
    go : (t : Bool) → position_of p l ≡ total_width (take (index_of p l) (map width_of l))
        → cond t 0 (width_of q + position_of p l) ≡ total_width (take (cond t 0 (suc (index_of p l))) (width_of q ∷ map width_of l))
    go true rest = refl
    go false rest = ap (λ (n : ℕ). width_of q + n) rest

-- the item that is met at its index
pub item_at_index : (p : Item) (l : List Item) (other : Item) → index_of p l < length l → get_or l (index_of p l) other ≡ p
unfolding index_of
item_at_index p [] other h = absurd (not-suc-le-zero h)
item_at_index p (q ∷ l) other h = go (same p q) (same_item p q) (item_at_index p l other) h
  where
    go : (t : Bool) → (T t → p ≡ q) → (index_of p l < length l → get_or l (index_of p l) other ≡ p)
        → cond t 0 (suc (index_of p l)) < suc (length l) → get_or (q ∷ l) (cond t 0 (suc (index_of p l))) other ≡ p
    go true found later h = sym (found tt)
    go false found later h = later (le_of_suc-le-suc h)

-- ---- tests over all kinds and figures

-- no item stands twice
pub stands_once : (kind : Kind) (f : Figure) (k : ℕ) → k < length (layout kind f) → index_of (get_or (layout kind f) k the_kind) (layout kind f) ≡ k
unfolding layout index_of same sort number_of_item
stands_once kind f k h =
    eqb→eq (index_of (get_or (layout kind f) k the_kind) (layout kind f)) k
    (every_below_lem (length (layout kind f)) (λ j. eqb (index_of (get_or (layout kind f) j the_kind) (layout kind f)) j)
    (each (λ kind f. every_below (length (layout kind f)) (λ j. eqb (index_of (get_or (layout kind f) j the_kind) (layout kind f)) j)) tt kind f) k h)

-- every item of a layout is one that its kind counts for the figure
abbrev is_among : ℕ → ℕ → Bool
is_among count i = leb 1 i && leb i count

pub none_among : (i : ℕ) → T (is_among 0 i) → ⊥
none_among i t = let none : i ≤ 0 = leb→le i 0 (and_right (leb 1 i) (leb i 0) t) in let one : 1 ≤ i = leb→le 1 i (and_left (leb 1 i) (leb i 0) t) in omega arith

abbrev pub counted : Kind → Figure → Item → Bool
counted kind f the_kind = true
counted kind f the_code = true
counted kind f the_n = true
counted kind f limit = same limit (limit_or_tolerance_item kind)
counted kind f tolerance = same tolerance (limit_or_tolerance_item kind)
counted kind f (angle i) = is_among (angle_count f) i
counted kind f (angle_rounds i) = is_among (rounds_in kind f) i
counted kind f (fixed_angle i) = is_among (fixed_in kind f) i
counted kind f (log_sine i) = is_among (sine_entries_in kind f) i
counted kind f (difference i) = is_among (sine_entries_in kind f) i
counted kind f (log_side i) = is_among (sides_in kind f) i

pub each_counted : (kind : Kind) (f : Figure) (k : ℕ) → k < length (layout kind f) → T (counted kind f (get_or (layout kind f) k the_kind))
unfolding layout same sort number_of_item
each_counted kind f k h =
    every_at (counted kind f) (layout kind f) (each (λ kind f. every (counted kind f) (layout kind f)) tt kind f) k the_kind h

pub narrow : (p : Item) → width_of p ≤ 32
narrow the_kind = lit≤ tt
narrow the_code = lit≤ tt
narrow the_n = lit≤ tt
narrow limit = lit≤ tt
narrow tolerance = lit≤ tt
narrow (angle i) = lit≤ tt
narrow (angle_rounds i) = lit≤ tt
narrow (fixed_angle i) = lit≤ tt
narrow (log_sine i) = lit≤ tt
narrow (difference i) = lit≤ tt
narrow (log_side i) = lit≤ tt

-- the items of the head, and L or e, stand in every layout
pub kind_stands : (kind : Kind) (f : Figure) → index_of the_kind (layout kind f) < length (layout kind f)
unfolding layout index_of same sort number_of_item
kind_stands kind f = suc-le-suc zero-le

pub code_stands : (kind : Kind) (f : Figure) → index_of the_code (layout kind f) < length (layout kind f)
unfolding layout index_of same sort number_of_item
code_stands kind f = suc-le-suc (suc-le-suc zero-le)

pub n_stands : (kind : Kind) (f : Figure) → index_of the_n (layout kind f) < length (layout kind f)
unfolding layout index_of same sort number_of_item
n_stands kind f = suc-le-suc (suc-le-suc (suc-le-suc zero-le))

pub limit_stands : (kind : Kind) (f : Figure) → index_of (limit_or_tolerance_item kind) (layout kind f) < length (layout kind f)
unfolding layout index_of same sort number_of_item
limit_stands kind f =
    ltb→lt (index_of (limit_or_tolerance_item kind) (layout kind f)) (length (layout kind f))
    (each (λ k g. ltb (index_of (limit_or_tolerance_item k) (layout k g)) (length (layout k g))) tt kind f)

-- and so does each value that is counted
module _ (item : ℕ → Item) (count : Kind → Figure → ℕ) where
  stands : Kind → Figure → ℕ → Bool
  stands kind f i = ltb (index_of (item (suc i)) (layout kind f)) (length (layout kind f))

  all_stand : Kind → Figure → Bool
  all_stand kind f = every_below (count kind f) (stands kind f)

  each_stands : T (every (λ kind. every (all_stand kind) all_figures) all_kinds)
      → (kind : Kind) (f : Figure) (i : ℕ) → i < count kind f → index_of (item (suc i)) (layout kind f) < length (layout kind f)
  unfolding all_stand stands
  each_stands t kind f i h =
      ltb→lt (index_of (item (suc i)) (layout kind f)) (length (layout kind f)) (every_below_lem (count kind f) (stands kind f) (each all_stand t kind f) i h)

pub angle_stands : (kind : Kind) (f : Figure) (i : ℕ) → i < angle_count f → index_of (angle (suc i)) (layout kind f) < length (layout kind f)
unfolding layout index_of same sort number_of_item all_stand stands
angle_stands = each_stands angle (λ kind f. angle_count f) tt

pub rounds_stand : (kind : Kind) (f : Figure) (i : ℕ) → i < rounds_in kind f → index_of (angle_rounds (suc i)) (layout kind f) < length (layout kind f)
unfolding layout index_of same sort number_of_item all_stand stands
rounds_stand = each_stands angle_rounds rounds_in tt

pub fixed_stands : (kind : Kind) (f : Figure) (i : ℕ) → i < fixed_in kind f → index_of (fixed_angle (suc i)) (layout kind f) < length (layout kind f)
unfolding layout index_of same sort number_of_item all_stand stands
fixed_stands = each_stands fixed_angle fixed_in tt

pub log_sine_stands : (kind : Kind) (f : Figure) (i : ℕ) → i < sine_entries_in kind f → index_of (log_sine (suc i)) (layout kind f) < length (layout kind f)
unfolding layout index_of same sort number_of_item all_stand stands
log_sine_stands = each_stands log_sine sine_entries_in tt

pub difference_stands : (kind : Kind) (f : Figure) (i : ℕ) → i < sine_entries_in kind f → index_of (difference (suc i)) (layout kind f) < length (layout kind f)
unfolding layout index_of same sort number_of_item all_stand stands
difference_stands = each_stands difference sine_entries_in tt

pub log_side_stands : (kind : Kind) (f : Figure) (i : ℕ) → i < sides_in kind f → index_of (log_side (suc i)) (layout kind f) < length (layout kind f)
unfolding layout index_of same sort number_of_item all_stand stands
log_side_stands = each_stands log_side sides_in tt

-- ---- the head stands first in every layout

module _ (kind : Kind) (f : Figure) (s : List ℕ) where
  pub kind_in_head : held (layout kind f) s the_kind ≡ held head s the_kind
  unfolding held layout position_of same sort number_of_item
  kind_in_head = refl

  pub code_in_head : held (layout kind f) s the_code ≡ held head s the_code
  unfolding held layout position_of same sort number_of_item
  code_in_head = refl

  pub n_in_head : held (layout kind f) s the_n ≡ held head s the_n
  unfolding held layout position_of same sort number_of_item
  n_in_head = refl

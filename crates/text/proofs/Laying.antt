-- Laws of laying text in a buffer: where it has room and where not, and several texts laid one after the other. Assumes nothing.
use Rattle.std.specs.Prelude.{◌≡◌, refl, Bool, true, false, cond, List, [], ◌∷◌, ◌++◌, ℕ, ◌+◌, ◌-◌, ◌≤◌, ◌<◌, leb, length, take, drop, set}
use Rattle.vocabulary.specs.{sym, ap, ap₂, ◌∙◌, append_assoc, append-nil, zero-add, add-one, arith, le-leb, lt-leb, leb-true, leb-false}
use Rattle.vocabulary.specs.{length-append, length-take, length-drop, drop_of_length-le, take_all, take-append_seam, take-append-drop}
use Rattle.vocabulary.specs.{take-append-le, take-append-add, take_at, drop_at, drop-drop, length-take-le, append_snoc}
use Rattle.vocabulary.specs.{set_split}
use Rattle.text.specs.{Text.laid, Text.after, Holds.Holds, Page.Place, Page.place, Page.laid_on}

room_or_none : (P : Type 0) (m n : ℕ) → (m ≤ n → P) → (n < m → P) → P
room_or_none P m n room none = go (leb m n) refl
  where
    go : (b : Bool) → leb m n ≡ b → P
    go true e = room (leb-true m n e)
    go false e = none (leb-false m n e)

-- ---- The position

pub after_room : (size at : ℕ) (t : List ℕ) → at + length t ≤ size → after size at t ≡ at + length t
unfolding after
after_room size at t h = rw (le-leb (at + length t) size h)

pub after_none : (size at : ℕ) (t : List ℕ) → size < at + length t → after size at t ≡ size + 1
unfolding after
after_none size at t h = rw (lt-leb (at + length t) size h)

after_same : (size at at' : ℕ) (t t' : List ℕ) → at + length t ≡ at' + length t' → after size at t ≡ after size at' t'
unfolding after
after_same size at at' t t' e = ap (λ (k : ℕ). cond (leb k size) k (size + 1)) e

-- ---- The bytes

drop_past : (l : List ℕ) (i j : ℕ) → length l ≤ i → length l ≤ j → drop i l ≡ drop j l
drop_past l i j p q = drop_of_length-le l p ∙ sym (drop_of_length-le l q)

module _ (buffer : List ℕ) (at : ℕ) (t : List ℕ) where
  pub length_laid : length (laid buffer at t) ≡ length buffer
  unfolding laid
  length_laid = simp (length-append, length-take, length-drop) (omega arith)

  pub laid_room : at + length t ≤ length buffer → laid buffer at t ≡ take at buffer ++ t ++ drop (at + length t) buffer
  unfolding laid
  laid_room h = ap (λ (l : List ℕ). take at buffer ++ l ++ drop (at + length t) buffer) (take_all (length buffer - at) t (omega arith))

  -- past the end nothing is laid
  pub laid_past : length buffer ≤ at → laid buffer at t ≡ buffer
  unfolding laid
  laid_past h =
      let none : length buffer - at ≡ 0 = omega arith in
      rw (take_all at buffer h, none, drop_of_length-le buffer {i = at + length t} (omega arith)) (append-nil (buffer ++ []) ∙ append-nil buffer)

-- spelled from the last byte backwards, so that the text ends where it has to
pub laid_spelled : (buffer spelled : List ℕ) (at count from : ℕ) {s t : List ℕ} → s ≡ t → count ≡ length t → at + count ≤ length buffer
    → from + length s ≡ at + count → drop from spelled ≡ s ++ drop (at + count) buffer → take from spelled ≡ take from buffer
    → place spelled (at + count) ≡ place (laid buffer at t) (after (length buffer) at t)
laid_spelled buffer spelled at count from {s} {t} same counted room starts written before =
    let size : length s ≡ length t = ap length same in
    let here : from ≡ at = omega arith in
    let ends : at + count ≡ at + length t = omega arith in
    let kept : take from spelled ≡ take at buffer = before ∙ ap (λ (k : ℕ). take k buffer) here in
    let more : drop from spelled ≡ t ++ drop (at + length t) buffer = written ∙ ap₂ (λ (l : List ℕ) (k : ℕ). l ++ drop k buffer) same ends in
    ap₂ place (sym (take-append-drop from spelled) ∙ ap₂ (λ (l m : List ℕ). l ++ m) kept more
    ∙ sym (append_assoc (take at buffer) t (drop (at + length t) buffer)) ∙ sym (laid_room buffer at t (omega arith)))
    (ends ∙ sym (after_room (length buffer) at t (omega arith)))

-- one byte
module _ (buffer : List ℕ) (at b : ℕ) (h : at < length buffer) where
  stored : set buffer at b ≡ take at buffer ++ (b ∷ drop (at + 1) buffer)
  stored = set_split buffer at b h ∙ ap (λ (k : ℕ). take at buffer ++ (b ∷ drop k buffer)) (sym (add-one at))

  pub laid_byte : laid buffer at (b ∷ []) ≡ set buffer at b
  laid_byte = laid_room buffer at (b ∷ []) (omega arith) ∙ append_snoc (take at buffer) b (drop (at + 1) buffer) ∙ sym stored

-- ---- One after the other

after_then : (size at : ℕ) (t s : List ℕ) → after size (after size at t) s ≡ after size at (t ++ s)
after_then size at t s =
    room_or_none (after size (after size at t) s ≡ after size at (t ++ s)) (at + length t) size
    (λ room. ap (λ (k : ℕ). after size k s) (after_room size at t room) ∙ after_same size (at + length t) at s (t ++ s) (omega (arith, length-append t s)))
    (λ none. ap (λ (k : ℕ). after size k s) (after_none size at t none)
    ∙ after_none size (size + 1) s (omega arith) ∙ sym (after_none size at (t ++ s) (omega (arith, length-append t s))))

-- the second text at the position that the first one gave: it is as if both had been laid at once
module _ (buffer : List ℕ) (at : ℕ) (t s : List ℕ) where
  module _ (room : at + length t ≤ length buffer) where
    -- what stands before the second text, and its position
    abbrev head : List ℕ
    head = take at buffer ++ t

    abbrev next : ℕ
    next = at + length t

    length_head : length head ≡ next
    length_head = rw (length-append, length-take-le at buffer (omega arith))

    before : take next (laid buffer at t) ≡ head
    before = ap (take next) (laid_room buffer at t room) ∙ take_at head (drop next buffer) next length_head

    from : drop next (laid buffer at t) ≡ drop next buffer
    from = ap (drop next) (laid_room buffer at t room) ∙ drop_at head (drop next buffer) next length_head

    middle : head ++ take (length (laid buffer at t) - next) s ≡ take at buffer ++ take (length buffer - at) (t ++ s)
    middle =
        let left : length buffer - at ≡ length t + (length buffer - next) = omega arith in
        ap (λ (k : ℕ). head ++ take (k - next) s) (length_laid buffer at t) ∙ append_assoc (take at buffer) t (take (length buffer - next) s)
        ∙ ap (λ (l : List ℕ). take at buffer ++ l) (sym (ap (λ (k : ℕ). take k (t ++ s)) left ∙ take-append-add t s (length buffer - next)))

    end : drop (next + length s) (laid buffer at t) ≡ drop (at + length (t ++ s)) buffer
    end =
        let same : next + length s ≡ at + length (t ++ s) = omega (arith, length-append t s) in
        sym (drop-drop (length s) next (laid buffer at t)) ∙ ap (drop (length s)) from ∙ drop-drop (length s) next buffer ∙ ap (λ (k : ℕ). drop k buffer) same

    then_room : laid (laid buffer at t) next s ≡ laid buffer at (t ++ s)
    unfolding laid
    then_room = ap₂ (λ (l m : List ℕ). l ++ m) (ap (λ (l : List ℕ). l ++ take (length (laid buffer at t) - next) s) before ∙ middle) end

  then_none : length buffer < at + length t → laid buffer at t ≡ laid buffer at (t ++ s)
  unfolding laid
  then_none none =
      ap₂ (λ (l m : List ℕ). take at buffer ++ l ++ m) (sym (take-append-le (length buffer - at) t s (omega arith)))
      (drop_past buffer (at + length t) (at + length (t ++ s)) (omega arith) (omega (arith, length-append t s)))

  laid_then : laid (laid buffer at t) (after (length buffer) at t) s ≡ laid buffer at (t ++ s)
  laid_then =
      room_or_none (laid (laid buffer at t) (after (length buffer) at t) s ≡ laid buffer at (t ++ s)) (at + length t) (length buffer)
      (λ room. ap (λ (k : ℕ). laid (laid buffer at t) k s) (after_room (length buffer) at t room) ∙ then_room room)
      (λ none. ap (λ (k : ℕ). laid (laid buffer at t) k s) (after_none (length buffer) at t none)
      ∙ laid_past (laid buffer at t) (length buffer + 1) s (omega (arith, length_laid buffer at t)) ∙ then_none none)

  -- as a caller has it, who knows what each of the two gave
  pub laid_more : {buffer' buffer'' : List ℕ} {at' at'' : ℕ} → buffer' ≡ laid buffer at t → at' ≡ after (length buffer) at t
      → buffer'' ≡ laid buffer' at' s → at'' ≡ after (length buffer') at' s → (buffer'' ≡ laid buffer at (t ++ s)) × (at'' ≡ after (length buffer) at (t ++ s))
  laid_more e p e' p' = (
    e' ∙ ap₂ (λ (l : List ℕ) (k : ℕ). laid l k s) e p ∙ laid_then,
    p' ∙ ap₂ (λ (size k : ℕ). after size k s) (ap length e ∙ length_laid buffer at t) p ∙ after_then (length buffer) at t s,
  )

-- ---- From the start

-- what was laid where it has room, read off the buffer
pub laid_taken : (start t : List ℕ) → length t ≤ length start → take (length t) (laid start 0 t) ≡ t
laid_taken start t room = ap (take (length t)) (laid_room start 0 t (omega arith)) ∙ take-append_seam t (drop (0 + length t) start)

pub holds_none : (start : List ℕ) → Holds start [] start 0
holds_none start = record { bytes = sym (laid_room start 0 [] (omega arith)); position = sym (after_room (length start) 0 [] (omega arith)) }

module _ {start t buffer : List ℕ} {at : ℕ} (held : Holds start t buffer at) where
  pub holds_size : length buffer ≡ length start
  holds_size = ap length held.bytes ∙ length_laid start 0 t

  -- where all of it has room
  module _ (room : length t ≤ length start) where
    pub holds_length : at ≡ length t
    holds_length = held.position ∙ after_room (length start) 0 t (omega arith) ∙ zero-add (length t)

    pub holds_taken : take at buffer ≡ t
    holds_taken = ap₂ take holds_length held.bytes ∙ laid_taken start t room

-- ---- On a page

-- two texts one after the other are one
pub laid_on_append : (p : Place) (t s : List ℕ) → laid_on (laid_on p t) s ≡ laid_on p (t ++ s)
unfolding laid_on
laid_on_append p t s = let both = laid_more p.bytes p.at t s refl refl refl refl in ap₂ place both.0 both.1

-- on a page that began so
pub holds_page : (start t : List ℕ) {buffer : List ℕ} {at : ℕ} → place buffer at ≡ laid_on (place start 0) t → Holds start t buffer at
unfolding laid_on
holds_page start t e = record { bytes = ap (λ (p : Place). p.bytes) e; position = ap (λ (p : Place). p.at) e }

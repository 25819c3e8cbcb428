-- Fields that run on without gaps: read off and packed again they are the same, both ways, and each one stands at the offset that the
-- widths before it add up to. Assumes nothing.
use Rattle.std.specs.Prelude.{Bool, true, false, List, [], ◌∷◌, ◌++◌, ◌≡◌, refl, ℕ, zero, suc, ◌+◌, ◌*◌, ◌≤◌, ◌<◌, length, take, drop}
use Rattle.std.specs.Prelude.{get_or, replicate}
use Rattle.vocabulary.specs.{append_assoc, append-nil, sym, ap, ap₂, ◌∙◌, zero-add, add_assoc, le_of_suc-le-suc, arith, length-append}
use Rattle.vocabulary.specs.{length-drop, length-map, length-replicate, take-append-drop, pow_pos, take_at, drop_at, take-add, drop-drop}
use Rattle.vocabulary.specs.{length-take-le, take_all}
use Rattle.bits.specs.Bits.{bits, value, bits_of, bytes_of, byte_count, filling_width, inside, field_at, Field, widths, total_width, packed_bits, read_fields, AllFit}
use Rattle.bits.proofs.Bytes.{AreBytes, length_bits_of, bits_of_injective, bytes_of_bytes, length_bytes_of, bits_of_bytes_of}
use Rattle.bits.proofs.Fields.{is_inside, field_at_is, bits_field_at}
use Rattle.bits.proofs.Numbers.{length_bits, bits_zero, bits_value, value_bits}

-- ---- how long, and runs joined

pub length_packed_bits : (fs : List Field) → length (packed_bits fs) ≡ total_width (widths fs)
unfolding packed_bits total_width widths
length_packed_bits [] = refl
length_packed_bits (f ∷ fs) =
    length-append (bits f.width f.holds) (packed_bits fs) ∙ ap₂ (λ (m n : ℕ). m + n) (length_bits f.width f.holds) (length_packed_bits fs)

pub packed_bits_append : (fs gs : List Field) → packed_bits (fs ++ gs) ≡ packed_bits fs ++ packed_bits gs
unfolding packed_bits
packed_bits_append [] gs = refl
packed_bits_append (f ∷ fs) gs =
    ap (λ (b : List Bool). bits f.width f.holds ++ b) (packed_bits_append fs gs)
    ∙ sym (append_assoc (bits f.width f.holds) (packed_bits fs) (packed_bits gs))

pub total_width_append : (ws us : List ℕ) → total_width (ws ++ us) ≡ total_width ws + total_width us
unfolding total_width
total_width_append [] us = sym (zero-add (total_width us))
total_width_append (w ∷ ws) us = ap (λ (n : ℕ). w + n) (total_width_append ws us) ∙ sym (add_assoc w (total_width ws) (total_width us))

pub widths_append : (fs gs : List Field) → widths (fs ++ gs) ≡ widths fs ++ widths gs
unfolding widths
widths_append [] gs = refl
widths_append (f ∷ fs) gs = ap (λ (l : List ℕ). f.width ∷ l) (widths_append fs gs)

pub widths_read_fields : (ws : List ℕ) (b : List Bool) → widths (read_fields ws b) ≡ ws
unfolding widths read_fields
widths_read_fields [] b = refl
widths_read_fields (w ∷ ws) b = ap (λ (l : List ℕ). w ∷ l) (widths_read_fields ws (drop w b))

-- ---- both round trips

-- fields that are packed and read off again
pub read_fields_packed_bits : (fs : List Field) (rest : List Bool) → AllFit fs → read_fields (widths fs) (packed_bits fs ++ rest) ≡ fs
unfolding read_fields packed_bits widths AllFit
read_fields_packed_bits [] rest fit = refl
read_fields_packed_bits (f ∷ fs) rest fit =
    let own : List Bool = bits f.width f.holds in
    ap (λ (b : List Bool). read_fields (f.width ∷ widths fs) b) (append_assoc own (packed_bits fs) rest)
    ∙ ap₂ (λ (v : ℕ) (l : List Field). record { width = f.width; holds = v } ∷ l)
    (ap value (take_at own (packed_bits fs ++ rest) f.width (length_bits f.width f.holds)) ∙ value_bits f.width f.holds fit.0)
    (ap (read_fields (widths fs)) (drop_at own (packed_bits fs ++ rest) f.width (length_bits f.width f.holds))
    ∙ read_fields_packed_bits fs rest fit.1)

-- bits that are read off and packed again
pub packed_bits_read_fields : (ws : List ℕ) (b : List Bool) → total_width ws ≤ length b → packed_bits (read_fields ws b) ≡ take (total_width ws) b
unfolding read_fields packed_bits total_width
packed_bits_read_fields [] b h = refl
packed_bits_read_fields (w ∷ ws) b h =
    ap₂ (λ (x y : List Bool). x ++ y) (bits_value w (take w b) (length-take-le w b (omega arith)))
    (packed_bits_read_fields ws (drop w b) (omega (arith, length-drop w b))) ∙ sym (take-add w (total_width ws) b)

-- ---- fields by their positions

-- the k-th field read off is the one at the offset to which the widths before it add up
pub read_fields_at : (ws : List ℕ) (b : List Bool) (k : ℕ) (none : Field) → k < length ws
    → (get_or (read_fields ws b) k none).holds ≡ value (take (get_or ws k 0) (drop (total_width (take k ws)) b))
unfolding read_fields total_width
read_fields_at [] b k none h = absurd (omega arith)
read_fields_at (w ∷ ws) b zero none h = refl
read_fields_at (w ∷ ws) b (suc k) none h =
    read_fields_at ws (drop w b) k none (le_of_suc-le-suc h) ∙ ap (λ (c : List Bool). value (take (get_or ws k 0) c)) (drop-drop (total_width (take k ws)) w b)

-- the k-th field ends within all of them
pub offset_within : (ws : List ℕ) (k : ℕ) → total_width (take k ws) + get_or ws k 0 ≤ total_width ws
unfolding total_width
offset_within [] zero = omega arith
offset_within [] (suc k) = omega arith
offset_within (w ∷ ws) zero = omega arith
offset_within (w ∷ ws) (suc k) = omega (arith, offset_within ws k)

-- ---- a reader by positions

pub offset_inside : (s : List ℕ) (ws : List ℕ) (k : ℕ) → total_width ws ≤ 8 * length s → get_or ws k 0 ≤ 32
    → inside s (total_width (take k ws)) (get_or ws k 0) ≡ true
offset_inside s ws k h n = is_inside s (total_width (take k ws)) (get_or ws k 0) (omega (arith, offset_within ws k)) n

-- a field of bytes at its offset is the one that is read off their bits
pub field_at_offset : (s : List ℕ) (ws : List ℕ) (k : ℕ) (none : Field) → total_width ws ≤ 8 * length s → k < length ws → get_or ws k 0 ≤ 32
    → field_at s (total_width (take k ws)) (get_or ws k 0) ≡ (get_or (read_fields ws (bits_of s)) k none).holds
field_at_offset s ws k none h l n =
    field_at_is s (total_width (take k ws)) (get_or ws k 0) (offset_inside s ws k h n) ∙ sym (read_fields_at ws (bits_of s) k none l)

-- in bytes that begin with packed fields, the k-th field is at its offset
pub field_at_packed : (s : List ℕ) (fs : List Field) (rest : List Bool) (k : ℕ) (none : Field) → bits_of s ≡ packed_bits fs ++ rest → AllFit fs
    → k < length fs → get_or (widths fs) k 0 ≤ 32
    → field_at s (total_width (take k (widths fs))) (get_or (widths fs) k 0) ≡ (get_or fs k none).holds
unfolding widths
field_at_packed s fs rest k none e fit l n =
    let enough : total_width (widths fs) ≤ 8 * length s =
    omega (arith, ap length e, length-append (packed_bits fs) rest, length_packed_bits fs, length_bits_of s) in
    field_at_offset s (widths fs) k none enough (omega (arith, length-map fs (λ (f : Field). f.width))) n
    ∙ ap (λ (gs : List Field). (get_or gs k none).holds) (ap (read_fields (widths fs)) e ∙ read_fields_packed_bits fs rest fit)

-- ---- a writer by positions

-- ---- packed fields as bytes, the last byte filled

-- packed fields and the filling as a field of its own
filled : (fs : List Field) → packed_bits (fs ++ (record { width = filling_width (total_width (widths fs)); holds = 0 } ∷ [])) ≡ bits_of (bytes_of (packed_bits fs))
unfolding packed_bits
filled fs =
    let filling : ℕ = filling_width (total_width (widths fs)) in
    packed_bits_append fs (record { width = filling; holds = 0 } ∷ [])
    ∙ ap (λ (b : List Bool). packed_bits fs ++ b) (append-nil (bits filling 0) ∙ bits_zero filling)
    ∙ ap (λ (n : ℕ). packed_bits fs ++ replicate (filling_width n) false) (sym (length_packed_bits fs)) ∙ sym (bits_of_bytes_of (packed_bits fs))

-- fields that are written are read back
pub read_back : (fs : List Field) → AllFit fs → read_fields (widths fs) (bits_of (bytes_of (packed_bits fs))) ≡ fs
read_back fs fit =
    ap (read_fields (widths fs)) (bits_of_bytes_of (packed_bits fs))
    ∙ read_fields_packed_bits fs (replicate (filling_width (length (packed_bits fs))) false) fit

-- bytes that are read, and whose filling holds 0, are written back
pub written_back : (s : List ℕ) (ws : List ℕ) → AreBytes s → length s ≡ byte_count (total_width ws)
    → field_at s (total_width ws) (filling_width (total_width ws)) ≡ 0 → bytes_of (packed_bits (read_fields ws (bits_of s))) ≡ s
unfolding filling_width
written_back s ws h l e =
    let total : ℕ = total_width ws in
    let filling : ℕ = filling_width total in
    let held : packed_bits (read_fields ws (bits_of s)) ≡ take total (bits_of s) = packed_bits_read_fields ws (bits_of s) (omega (arith, length_bits_of s)) in
    let long : length (packed_bits (read_fields ws (bits_of s))) ≡ total = length_packed_bits (read_fields ws (bits_of s)) ∙ ap total_width (widths_read_fields ws (bits_of s)) in
    let zeros : replicate filling false ≡ drop total (bits_of s) =
    sym (bits_zero filling) ∙ ap (bits filling) (sym e) ∙ bits_field_at s total filling (is_inside s total filling (omega arith) (omega arith))
    ∙ take_all filling (drop total (bits_of s)) (omega (arith, length-drop total (bits_of s), length_bits_of s)) in
    bits_of_injective (bytes_of (packed_bits (read_fields ws (bits_of s)))) s (bytes_of_bytes (packed_bits (read_fields ws (bits_of s)))) h
    (bits_of_bytes_of (packed_bits (read_fields ws (bits_of s)))
    ∙ ap₂ (λ (b : List Bool) (n : ℕ). b ++ replicate (filling_width n) false) held long
    ∙ ap (λ (b : List Bool). take total (bits_of s) ++ b) zeros ∙ take-append-drop total (bits_of s))

-- the filling of written fields holds 0
pub filling_zero : (fs : List Field) → field_at (bytes_of (packed_bits fs)) (total_width (widths fs)) (filling_width (total_width (widths fs))) ≡ 0
unfolding filling_width
filling_zero fs =
    let total : ℕ = total_width (widths fs) in
    let filling : ℕ = filling_width total in
    let here : inside (bytes_of (packed_bits fs)) total filling ≡ true =
    is_inside (bytes_of (packed_bits fs)) total filling (omega (arith, length_bytes_of (packed_bits fs), length_packed_bits fs)) (omega arith) in
    field_at_is (bytes_of (packed_bits fs)) total filling here
    ∙ ap (λ (b : List Bool). value (take filling (drop total b))) (bits_of_bytes_of (packed_bits fs))
    ∙ ap (λ (b : List Bool). value (take filling b)) (drop_at (packed_bits fs) (replicate (filling_width (length (packed_bits fs))) false) total (length_packed_bits fs))
    ∙ ap (λ (n : ℕ). value (take filling (replicate (filling_width n) false))) (length_packed_bits fs)
    ∙ ap value (take_all filling (replicate filling false) (omega (arith, length-replicate filling false)) ∙ sym (bits_zero filling))
    ∙ value_bits filling 0 (pow_pos filling)

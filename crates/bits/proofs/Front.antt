-- A field that lies within the first bytes is the same of these alone. Assumes nothing.
use Rattle.std.specs.Prelude.{◌≡◌, List, Bool, ℕ, ◌+◌, ◌*◌, ◌≤◌, length, take, drop}
use Rattle.vocabulary.specs.{sym, ap, ◌∙◌, zero-add, arith, length-take-le}
use Rattle.bits.specs.Bits.{value, bits_of, field_at}
use Rattle.bits.proofs.{Fields.is_inside, Fields.field_at_is, Runs.within_run}

pub field_in_front : (s : List ℕ) (n at w : ℕ) → n ≤ length s → at + w ≤ 8 * n → w ≤ 32 → field_at (take n s) at w ≡ field_at s at w
field_in_front s n at w within fits narrow =
    let long : length (take n s) ≡ n = length-take-le n s within in
    let start : at ≡ 8 * 0 + at = omega arith in
    let same : take w (drop at (bits_of s)) ≡ take w (drop at (bits_of (take n s))) =
    ap (λ (k : ℕ). take w (drop k (bits_of s))) start ∙ within_run s 0 n at w (omega arith) fits in
    field_at_is (take n s) at w (is_inside (take n s) at w (omega (arith, long, fits)) narrow) ∙ ap value (sym same)
    ∙ sym (field_at_is s at w (is_inside s at w (omega (arith, within, fits)) narrow))

-- A field written from its last bit on: what the loop of `bits::put_field` keeps, and its steps. Assumes nothing.
use Rattle.std.specs.Prelude.{Bool, true, List, ◌≡◌, ℕ, ◌+◌, ◌-◌, ◌*◌, ◌/◌, ◌%◌, ◌≤◌, length, set}
use Rattle.vocabulary.specs.{sym, ap, ◌∙◌, arith}
use Rattle.bits.specs.Bits.{odd, bits_of, bytes_of, inside, with_field}
use Rattle.bits.proofs.{Bytes.AreBytes, Bytes.length_bits_of, Bytes.bytes_of_bits_of, Places.lay_last, Places.lay_none}
use Rattle.bits.proofs.Fields.{laid, with_field_is}

-- old and new: the bytes as they came, and as they are; left: how many bits of the value are still to write, rest: the number that holds
-- them
pub record Going (old : List ℕ) (at width value : ℕ) (new : List ℕ) (rest left : ℕ) : Type 0 where
  pub same : length new ≡ length old
  pub bytes : AreBytes new
  pub written : laid (bits_of new) at left rest ≡ laid (bits_of old) at width value

-- a turn writes the last bit that is left
pub turn : (old : List ℕ) (at width value : ℕ) (new : List ℕ) (rest left place : ℕ) → at + width ≤ 8 * length old → left ≤ width → left ≡ place + 1
    → Going old at width value new rest left
    → (next : List ℕ) → bits_of next ≡ set (bits_of new) (at + place) (odd (rest % 2)) → length next ≡ length new → AreBytes next
    → Going old at width value next (rest / 2) place
turn old at width value new rest left place room few one g next put kept are =
    let fits : at + left ≤ length (bits_of new) = omega (arith, g.same, length_bits_of new) in
    let less : left - 1 ≡ place = omega arith in
    record {
      same = kept ∙ g.same;
      bytes = are;
      written = ap (λ (b : List Bool). laid b at place (rest / 2)) (put ∙ ap (λ (j : ℕ). set (bits_of new) (at + j) (odd (rest % 2))) (sym less)) ∙ ap (λ (j : ℕ). laid (set (bits_of new) (at + (left - 1)) (odd (rest % 2))) at j (rest / 2)) (sym less) ∙ lay_last (bits_of new) at left rest (omega arith) fits ∙ g.written;
    }

-- with none left the bytes are those wanted
pub done : (old : List ℕ) (at width value : ℕ) (new : List ℕ) (rest left : ℕ) → inside old at width ≡ true → left ≡ 0
    → Going old at width value new rest left → new ≡ with_field old at width value
done old at width value new rest left here none g =
    sym (bytes_of_bits_of new g.bytes) ∙ ap bytes_of (sym (ap (λ (j : ℕ). laid (bits_of new) at j rest) none ∙ lay_none (bits_of new) at rest) ∙ g.written) ∙ sym (with_field_is old at width value here)

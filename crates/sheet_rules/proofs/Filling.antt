-- Number 13, "a filling bit is 1": some bit after the last field is 1 exactly if the field that they make up does not hold 0. Assumes
-- nothing.
use Rattle.std.specs.Prelude.{ℕ, ◌+◌, ◌*◌, ◌^◌, ◌<◌, Bool, true, false, not, List, [], ◌∷◌, ◌↔◌, ◌≡◌, refl, eqb, length, drop}
use Rattle.vocabulary.specs.{sym, ap, ◌∙◌, arith, eqb-true, eq-eqb, ne_eqb, not-false, length-drop, pow_pos, take_all}
use Rattle.refusals.specs.{Order.HoldsNowhere, Questions.some_one, Questions.any_one, Questions.asked, Table.filling_row}
use Rattle.refusals.proofs.Decided.{decided_not}
use Rattle.bits.specs.Bits.{digit, value, bits_of, byte_count, filling_width, field_at}
use Rattle.bits.proofs.{Bytes.length_bits_of, Fields.is_inside, Fields.field_at_is}
use Rattle.figures.specs.declared.Figure.{Figure}
use Rattle.sheet_layout.specs.{declared.Kind.Kind, Layout.bit_count, Layout.sheet_size}
use Rattle.sheet_rules.specs.Judging.{filling_bits}

-- bits stand for 0 exactly if none is 1
any_one_lem : (bits : List Bool) → any_one bits ≡ not (eqb (value bits) 0)
unfolding value digit
any_one_lem [] = refl
any_one_lem (true ∷ later) =
    let more : 0 < 1 * 2 ^ length later + value later = omega (arith, pow_pos (length later)) in
    sym (ap not (ne_eqb (1 * 2 ^ length later + value later) 0 (λ e. omega arith)))
any_one_lem (false ∷ later) =
    let least : 0 * 2 ^ length later + value later ≡ value later = omega arith in
    any_one_lem later ∙ sym (ap (λ (n : ℕ). not (eqb n 0)) least)

module _ (kind : Kind) (f : Figure) (s : List ℕ) (size : length s ≡ sheet_size kind f) where
  -- what stands after the last field, up to the end of the last byte
  abbrev filling : ℕ
  filling = field_at s (bit_count kind f) (filling_width (bit_count kind f))

  filling_value : filling ≡ value (filling_bits kind f s)
  unfolding sheet_size filling_width byte_count
  filling_value =
      let end : ℕ = bit_count kind f in
      let width : ℕ = filling_width end in
      field_at_is s end width (is_inside s end width (omega arith) (omega arith))
      ∙ ap value (take_all width (drop end (bits_of s)) (omega (arith, length-drop end (bits_of s), length_bits_of s)))

  pub filling_asked : asked (some_one (filling_bits kind f s)) ≡ not (eqb filling 0)
  filling_asked = any_one_lem (filling_bits kind f s) ∙ ap (λ (n : ℕ). not (eqb n 0)) (sym filling_value)

  pub no_filling_bit : HoldsNowhere (filling_row (filling_bits kind f s)) ↔ (filling ≡ 0)
  no_filling_bit = (
    λ none.
        let zero : not (eqb filling 0) ≡ false = sym filling_asked ∙ (decided_not (some_one (filling_bits kind f s))).1 (λ some. none 0 (refl, some)) in
        eqb-true filling 0 (not-false (eqb filling 0) zero),
    λ e p held. (decided_not (some_one (filling_bits kind f s))).0 (filling_asked ∙ ap not (eq-eqb filling 0 e)) held.1,
  )

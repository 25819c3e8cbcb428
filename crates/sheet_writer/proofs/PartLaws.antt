-- The fields of a layout, part by part as the writer writes them. Assumes nothing.
use Rattle.std.specs.Prelude.{ℕ, zero, suc, ◌+◌, ◌*◌, ◌≤◌, Bool, true, false, List, [], ◌∷◌, ◌++◌, map, ◌≡◌, refl, pos, length}
use Rattle.vocabulary.specs.{map-append, sym, ap, ap₂, subst, ◌∙◌, zero-add, add-zero, arith}
use Rattle.refusals.specs.Numbers.{numbered}
use Rattle.bits.specs.Bits.{Field, bits, bits_of, bytes_of, widths, total_width, byte_count}
use Rattle.figures.specs.{declared.Figure.Figure, Figure.description, Figure.angle_count, Figure.fixed_count, Figure.side_count, Rows.each_of}
use Rattle.sheet_layout.specs.{declared.Kind.Kind, declared.Pass.Pass, Kinds.number_of_kind, Kinds.pass_of, Kinds.carries_rounds, Kinds.of_pass}
use Rattle.sheet_layout.specs.Layout.{Item, limit, tolerance, fixed_angle, log_sine, difference, log_side, width_of, limit_or_tolerance_item, angle_items, body, layout, rounds_bits, sheet_size}
use Rattle.sheet_layout.proofs.Sizes.{bits_for, pass_bits, bits_within}
use Rattle.sheet_rules.specs.Sheet.{Values, values_from, field_of, packed_sheet}
use Rattle.sheet_writer.specs.declared.packer.Packer.{Packer}
use Rattle.sheet_writer.specs.Packer.{none_packed, packed_so_far, packed_count, WellHeld, HasRoom, Packs}
use Rattle.sheet_writer.specs.Parts.{field_from, head_fields, angle_fields, row_of, body_fields, BodyFits}
use Rattle.sheet_rules.proofs.{Accepted.AsMany, Layouts.fields_bits}
use Rattle.sheet_writer.proofs.PackerLaws.{packs_then}

map_each : {A B : Type 0} (g : A → B) (n : ℕ) (r : ℕ → List A) → map g (each_of n r) ≡ each_of n (λ i. map g (r i))
map_each g zero r = refl
map_each g (suc n) r = map-append g (each_of n r) (r (suc n)) ∙ ap (λ (l : List _). l ++ map g (r (suc n))) (map_each g n r)

each_same : {A : Type 0} (n : ℕ) (r s : ℕ → List A) → ((i : ℕ) → r i ≡ s i) → each_of n r ≡ each_of n s
each_same zero r s e = refl
each_same (suc n) r s e = ap₂ (λ (a b : List _). a ++ b) (each_same n r s e) (e (suc n))

-- so many items, or rows of them, as there are values
as_many_fields : {A : Type 0} (g : Item → Field) (values : List A) (row : ℕ → List Item) (fields : ℕ → List Field) {count : ℕ} → length values ≡ count
    → ((i : ℕ) → map g (row i) ≡ fields i) → map g (each_of count row) ≡ each_of (length values) fields
as_many_fields g values row fields {count} same each =
    map_each g count row ∙ ap (λ (k : ℕ). each_of k (λ i. map g (row i))) (sym same) ∙ each_same (length values) (λ i. map g (row i)) fields each

-- L or e and the body, for either pass and with rounds or without
module _ (kind : Kind) (f : Figure) (v : Values) where
  angle_fields_lem : (carried : Bool) (i : ℕ) → map (field_of kind f v) (angle_items carried i) ≡ angle_fields carried (numbered v.angles i 0) (numbered v.rounds i 0)
  angle_fields_lem true i = refl
  angle_fields_lem false i = refl

  row_fields_lem : (carried : Bool) (i : ℕ) → map (field_of kind f v) (angle_items carried i ++ (log_sine i ∷ difference i ∷ []))
      ≡ row_of carried (numbered v.angles i 0) (numbered v.rounds i 0) (numbered v.log_sines i 0) (numbered v.differences i (pos 0))
  row_fields_lem true i = refl
  row_fields_lem false i = refl

  fields_for : (pass : Pass) (carried : Bool) → length v.angles ≡ angle_count f
      → length v.fixed ≡ of_pass pass (fixed_count f) 0 → length v.log_sides ≡ of_pass pass 0 (side_count f)
      → map (field_of kind f v) (of_pass pass limit tolerance ∷ body pass carried f)
      ≡ field_from (width_of (of_pass pass limit tolerance)) v.limit_or_tolerance ∷ body_fields pass carried v
  fields_for Pass.First carried angle_many fixed-many side_many =
      let g : Item → Field = field_of kind f v in
      ap (λ (l : List Field). field_from 10 v.limit_or_tolerance ∷ l)
      (map-append g (each_of (angle_count f) (angle_items carried)) (each_of (fixed_count f) (λ j. fixed_angle j ∷ []))
      ∙ ap₂ (λ (a b : List Field). a ++ b) (as_many_fields g v.angles (angle_items carried) _ angle_many (angle_fields_lem carried))
      (as_many_fields g v.fixed (λ j. fixed_angle j ∷ []) _ fixed-many (λ j. refl)))
  fields_for Pass.Second carried angle_many fixed-many side_many =
      let g : Item → Field = field_of kind f v in
      let row : ℕ → List Item = λ i. angle_items carried i ++ (log_sine i ∷ difference i ∷ []) in
      ap (λ (l : List Field). field_from 6 v.limit_or_tolerance ∷ l)
      (map-append g (each_of (side_count f) (λ j. log_side j ∷ [])) (each_of (angle_count f) row)
      ∙ ap₂ (λ (a b : List Field). a ++ b) (as_many_fields g v.log_sides (λ j. log_side j ∷ []) _ side_many (λ j. refl))
      (as_many_fields g v.angles row _ angle_many (row_fields_lem carried)))

pub layout_fields : (kind : Kind) (f : Figure) (v : Values) → AsMany kind f v
    → map (field_of kind f v) (layout kind f)
    ≡ head_fields (number_of_kind kind) (description f).code (description f).n
    ++ (field_from (width_of (limit_or_tolerance_item kind)) v.limit_or_tolerance ∷ body_fields (pass_of kind) (carries_rounds kind) v)
unfolding layout
layout_fields kind f v e =
    ap (λ (l : List Field). head_fields (number_of_kind kind) (description f).code (description f).n ++ l)
    (fields_for kind f v (pass_of kind) (carries_rounds kind) e.angles e.fixed e.log_sides)

-- ---- room

module _ (kind : Kind) (f : Figure) (v : Values) (lengths : AsMany kind f v) (s : List ℕ) (size : length s ≡ sheet_size kind f) where
  abbrev Sizes : Pass → (carried : Bool) → Type 0
  Sizes pass carried =
      (length v.fixed ≡ of_pass pass (fixed_count f) 0) × (length v.log_sines ≡ of_pass pass 0 (angle_count f))
      × (length v.differences ≡ of_pass pass 0 (angle_count f)) × (length v.log_sides ≡ of_pass pass 0 (side_count f))
      × (bits_for pass carried f ≤ 8 * length s)

  sizes : {pass : Pass} {carried : Bool} → pass ≡ pass_of kind → carried ≡ carries_rounds kind → Sizes pass carried
  sizes {pass} e d =
      subst (Sizes pass) (sym d) (subst (λ (p : Pass). Sizes p (carries_rounds kind)) (sym e)
      (lengths.fixed, lengths.log_sines, lengths.differences, lengths.log_sides, omega (arith, size, pass_bits kind f, bits_within kind f)))

  pub head_fits : 12 ≤ 8 * length s
  head_fits = go (pass_of kind) (sizes refl refl).4
    where
      go : (pass : Pass) → bits_for pass (carries_rounds kind) f ≤ 8 * length s → 12 ≤ 8 * length s
      go Pass.First h = omega arith
      go Pass.Second h = omega arith

  -- after the head, L or e
  pub limit_fits : (t : List ℕ) (p : Packer) {pass : Pass} → pass ≡ pass_of kind → length t ≡ length s → WellHeld p → packed_count p ≡ 12
      → HasRoom t p (width_of (of_pass pass limit tolerance))
  limit_fits t p {pass} e same well counted = record { well = well; enough = go pass (sizes e refl).4 }
    where
      go : (pass : Pass) → bits_for pass (carries_rounds kind) f ≤ 8 * length s → packed_count p + width_of (of_pass pass limit tolerance) ≤ 8 * length t
      go Pass.First h = omega (arith, same, counted)
      go Pass.Second h = omega (arith, same, counted)

  -- and after that the body
  pub body_fits : (t : List ℕ) (p : Packer) {pass : Pass} {carried : Bool} → pass ≡ pass_of kind → carried ≡ carries_rounds kind → length t ≡ length s
      → WellHeld p → packed_count p ≡ 12 + width_of (of_pass pass limit tolerance) → BodyFits t p pass carried v
  body_fits t p {pass} {carried} e d same well counted = go pass carried (sizes e d) counted
    where
      rounds : length v.rounds ≡ length v.angles
      rounds = lengths.rounds ∙ sym lengths.angles

      first : (carried : Bool) → Sizes Pass.First carried → packed_count p ≡ 22
          → packed_count p + ((23 + rounds_bits carried) * length v.angles + 23 * length v.fixed) ≤ 8 * length t
      first true h c = omega (arith, h.0, h.4, c, same, lengths.angles)
      first false h c = omega (arith, h.0, h.4, c, same, lengths.angles)

      second : (carried : Bool) → Sizes Pass.Second carried → packed_count p ≡ 18
          → packed_count p + (27 * length v.log_sides + (65 + rounds_bits carried) * length v.angles) ≤ 8 * length t
      second true h c = omega (arith, h.3, h.4, c, same, lengths.angles)
      second false h c = omega (arith, h.3, h.4, c, same, lengths.angles)

      go : (pass : Pass) (carried : Bool) → Sizes pass carried → packed_count p ≡ 12 + width_of (of_pass pass limit tolerance) → BodyFits t p pass carried v
      go Pass.First carried h c = (record { well = well; enough = first carried h c }, rounds)
      go Pass.Second carried h c =
          (record { well = well; enough = second carried h c }, rounds, h.1 ∙ sym lengths.angles, h.2 ∙ sym lengths.angles)

-- ---- a sheet that is packed part by part

-- the body has no use for L or e
abbrev with_bound : ℕ → Values → Values
with_bound l v = values_from l v.angles v.rounds v.fixed v.log_sines v.differences v.log_sides

same_body : (pass : Pass) (carried : Bool) (l : ℕ) (v : Values) → body_fields pass carried (with_bound l v) ≡ body_fields pass carried v
same_body Pass.First carried l v = refl
same_body Pass.Second carried l v = refl

module _ (kind : Kind) (f : Figure) (v : Values) (lengths : AsMany kind f v) (s : List ℕ)
    {pass : Pass} (own : pass ≡ pass_of kind) {carried : Bool} (as_kind : carried ≡ carries_rounds kind) where
  abbrev heading : List Field
  heading = head_fields (number_of_kind kind) (description f).code (description f).n

  abbrev bound : List Field
  bound = field_from (width_of (of_pass pass limit tolerance)) v.limit_or_tolerance ∷ []

  abbrev w₀ : Values
  w₀ = with_bound 0 v

  all_fields : heading ++ (bound ++ body_fields pass carried w₀) ≡ map (field_of kind f v) (layout kind f)
  all_fields =
      ap (λ (l : List Field). heading ++ (bound ++ l)) (same_body pass carried 0 v)
      ∙ ap₂ (λ (q : Pass) (b : Bool). heading ++ (field_from (width_of (of_pass q limit tolerance)) v.limit_or_tolerance ∷ body_fields q b v)) own as_kind
      ∙ sym (layout_fields kind f v lengths)

  pub count_after_head : {a : List ℕ} {p : Packer} → Packs s none_packed heading a p → packed_count p ≡ 12
  unfolding total_width widths
  count_after_head head = head.counted

  pub count_after_bound : {a b : List ℕ} {p q : Packer} → Packs s none_packed heading a p → Packs a p bound b q
      → packed_count q ≡ 12 + width_of (of_pass pass limit tolerance)
  unfolding total_width widths
  count_after_bound head limited =
      limited.counted ∙ ap₂ ◌+◌ (count_after_head head) (add-zero (width_of (of_pass pass limit tolerance)))

  module _ {a b c : List ℕ} {p q r : Packer}
      (head : Packs s none_packed heading a p) (limited : Packs a p bound b q) (bodied : Packs b q (body_fields pass carried w₀) c r) where
    all_packed : Packs s none_packed (map (field_of kind f v) (layout kind f)) c r
    all_packed =
        subst (λ (fs : List Field). Packs s none_packed fs c r) all_fields
        (packs_then s none_packed heading (bound ++ body_fields pass carried w₀) head (packs_then a p bound (body_fields pass carried w₀) limited bodied))

    pub all_counted : byte_count (packed_count r) ≡ sheet_size kind f
    unfolding sheet_size
    all_counted = ap byte_count (all_packed.counted ∙ zero-add _ ∙ fields_bits kind f v)

    pub sheet_packed : bytes_of (packed_so_far c r) ≡ packed_sheet kind f v
    unfolding packed_sheet bits_of bits
    sheet_packed = ap bytes_of all_packed.holds

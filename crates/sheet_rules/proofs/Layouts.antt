-- The fields of a layout have the widths and the bits that it counts. Assumes nothing.
use Rattle.std.specs.Prelude.{ℕ, List, [], ◌∷◌, map, ◌≡◌, refl}
use Rattle.vocabulary.specs.{ap}
use Rattle.bits.specs.Bits.{widths, total_width}
use Rattle.figures.specs.declared.Figure.{Figure}
use Rattle.sheet_layout.specs.{declared.Kind.Kind, Layout.Item, Layout.width_of, Layout.layout, Layout.bit_count}
use Rattle.sheet_rules.specs.Sheet.{Values, field_of}

module _ (kind : Kind) (f : Figure) (v : Values) where
  pub fields_widths : (ps : List Item) → widths (map (field_of kind f v) ps) ≡ map width_of ps
  unfolding widths
  fields_widths [] = refl
  fields_widths (p ∷ ps) = ap (λ (l : List ℕ). width_of p ∷ l) (fields_widths ps)

  pub fields_bits : total_width (widths (map (field_of kind f v) (layout kind f))) ≡ bit_count kind f
  unfolding bit_count
  fields_bits = ap total_width (fields_widths (layout kind f))

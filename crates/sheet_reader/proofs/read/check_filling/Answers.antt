-- The filling begins where the fields end, and is less than a byte wide.
use Rattle.std.proofs.Common.{ℕ, ◌-◌, ◌*◌, Bool, true, false, List, ◌≡◌, length, sym, ap, ◌∙◌, arith}
use Rattle.std.specs.Prelude.{not, eqb}
use Rattle.vocabulary.specs.{eq-eqb, ne_eqb}
use Rattle.refusals.specs.{declared.Refusal.Refusal, Order.fails_if, Order.verdict_of, Table.filling_row}
use Rattle.bits.specs.Bits.{field_at, filling_width}
use Rattle.figures.specs.declared.Figure.{Figure}
use Rattle.sheet_layout.specs.{declared.Kind.Kind, Layout.bit_count, Layout.sheet_size}
use Rattle.sheet_layout.proofs.Sizes.{few_bits, bits_within, bits_nearly}
use Rattle.sheet_rules.specs.Judging.{filling_bits}
use Rattle.sheet_rules.proofs.Filling.{filling_asked}
use Rattle.sheet_reader.proofs.read.check_filling.Goals as goal

module _ (kind : Kind) (f : Figure) (s : List ℕ) {end size held : ℕ} (b : end ≡ bit_count kind f) (z : size ≡ sheet_size kind f)
    (h : held ≡ field_at s end (8 * size - end)) where
  -- what was read between the end of the fields and the end of the bytes is the filling
  found : held ≡ field_at s (bit_count kind f) (filling_width (bit_count kind f))
  unfolding sheet_size filling_width
  found = rw (b, z) at h

module _ (kind : Kind) (f : Figure) (s : List ℕ) {held : ℕ} (right : length s ≡ sheet_size kind f)
    (is : held ≡ field_at s (bit_count kind f) (filling_width (bit_count kind f))) where
  -- the row's question is whether the filling is not 0
  asked_so : (t : Bool) → not (eqb held 0) ≡ t → fails_if t Refusal.FillingBitSet ≡ verdict_of (filling_row (filling_bits kind f s))
  asked_so t e =
      sym (ap (λ (b : Bool). fails_if b Refusal.FillingBitSet) (filling_asked kind f s right ∙ ap (λ (n : ℕ). not (eqb n 0)) (sym is) ∙ e))

pub overflow_mul-left : goal.overflow_mul-left
overflow_mul-left c = omega (arith, few_bits c.args.kind c.args.figure, bits_nearly c.args.kind c.args.figure)

pub overflow_sub-left : goal.overflow_sub-left
overflow_sub-left c = omega (arith, bits_within c.args.kind c.args.figure)

pub overflow_cast-left : goal.overflow_cast-left
overflow_cast-left c = omega (arith, bits_nearly c.args.kind c.args.figure)

pub returns-then-field-ne0 : goal.returns-then-field-ne0
returns-then-field-ne0 c =
    asked_so c.args.kind c.args.figure c.args.sheet.now c.requires
    (found c.args.kind c.args.figure c.args.sheet.now c.bit_count-end.ensures c.requires c.field.ensures)
    true (ap not (ne_eqb _ 0 c.if-field-ne0.true))

pub returns : goal.returns
returns c =
    asked_so c.args.kind c.args.figure c.args.sheet.now c.requires
    (found c.args.kind c.args.figure c.args.sheet.now c.bit_count-end.ensures c.requires c.field.ensures)
    false (ap not (eq-eqb _ 0 c.if-field-ne0.false))

use Rattle.std.proofs.Common.{ℕ, List, ◌≡◌, sym, ap, ◌∙◌}
use Rattle.bits.specs.Bits.{field_at}
use Rattle.figures.specs.declared.Figure.{Figure}
use Rattle.sheet_layout.specs.{declared.Kind.Kind, declared.Pass.Pass, Kinds.pass_of, Kinds.of_pass}
use Rattle.sheet_layout.specs.Layout.{limit, tolerance, width_of}
use Rattle.sheet_rules.specs.Sheet.{values_read}
use Rattle.sheet_reader.proofs.ColumnLaws.{limit_or_tolerance_read}
use Rattle.sheet_reader.proofs.values.limit_or_tolerance_in.Goals as goal

-- the field of the pass that was told
of_pass_lem : {pass : Pass} (kind : Kind) (told : Pass) (f : Figure) (s : List ℕ) {held : ℕ} → pass ≡ pass_of kind → pass ≡ told
    → held ≡ field_at s 12 (width_of (of_pass told limit tolerance)) → held ≡ (values_read kind f s).limit_or_tolerance
of_pass_lem kind told f s own e is =
    is ∙ ap (λ (p : Pass). field_at s 12 (width_of (of_pass p limit tolerance))) (sym e ∙ own) ∙ sym (limit_or_tolerance_read kind f s)

pub returns-in-First : goal.returns-in-First
returns-in-First c = λ f. of_pass_lem c.args.kind Pass.First f c.args.sheet.now c.pass_of.ensures c.in-First.is c.field.ensures

pub returns-in-Second : goal.returns-in-Second
returns-in-Second c = λ f. of_pass_lem c.args.kind Pass.Second f c.args.sheet.now c.pass_of.ensures c.in-Second.is c.field-in-Second.ensures

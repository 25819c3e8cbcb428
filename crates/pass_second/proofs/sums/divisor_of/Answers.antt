-- With two conditions the determinant is its own size.
use Rattle.std.specs.Prelude.{Bool, cond, ◌≡◌, ℤ, pos, nat_abs, ◌≤ℤ◌}
use Rattle.vocabulary.specs.{sym, ap, ◌∙◌, subst, ne_eqb}
use Rattle.whole.proofs.Order.{natural}
use Rattle.wide.proofs.Bounds.{value_size}
use Rattle.pass_pair.specs.Pair.{determinant}
use Rattle.pass_second.specs.Steps.{divisor_from}
use Rattle.pass_second.proofs.sums.divisor_of.Goals as goal

pub returns-else-sides-eq0 : goal.returns-else-sides-eq0
returns-else-sides-eq0 c =
    let p = c.args.pair in
    let is : divisor_from c.args.sides p ≡ determinant p.aa p.ab p.bb =
    ap (λ (b : Bool). cond b p.aa (determinant p.aa p.ab p.bb)) (ne_eqb c.args.sides 0 c.if-sides-eq0.false) in
    let size : nat_abs (determinant p.aa p.ab p.bb) ≡ c.pair_factors.result.determinant.size =
    sym (ap nat_abs c.pair_factors.ensures.determinant_value) ∙ value_size c.pair_factors.result.determinant in
    ap pos (sym size)
    ∙ sym (natural (determinant p.aa p.ab p.bb) (subst (λ (z : ℤ). pos 0 ≤ℤ z) is c.requires)) ∙ sym is

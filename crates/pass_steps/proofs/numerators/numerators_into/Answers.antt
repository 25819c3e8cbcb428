use Rattle.std.proofs.Common.{◌∙◌, sym}
use Rattle.pass_steps.specs.Premises.{most_applied}
use Rattle.pass_steps.proofs.Judged.{misclosures_small}
use Rattle.pass_steps.proofs.numerators.numerators_into.Goals as goal

pub table_applied-requires-clause-within : goal.table_applied-requires-clause-within
table_applied-requires-clause-within c = misclosures_small most_applied c.args.w.now (sym c.check_misclosures.ensures ∙ c.in-Ok.is)

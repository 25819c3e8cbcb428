-- the line is laid from the start
use Rattle.std.proofs.Common.{rules}
use Rattle.text.proofs.Laying.{holds_page}
use Rattle.lines.proofs.refused.refused_lines.Goals as goal

pub returns : goal.returns
returns c = holds_page _ _ (search rules)

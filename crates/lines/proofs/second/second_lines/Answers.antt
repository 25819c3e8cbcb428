-- the lines are laid from the start
use Rattle.std.proofs.Common.{rules}
use Rattle.text.proofs.Laying.{holds_page}
use Rattle.lines.specs.Lines.{second_lines, second_text}
use Rattle.lines.proofs.second.second_lines.Goals as goal

pub returns : goal.returns
unfolding second_text second_lines
returns c = holds_page _ _ (search rules)

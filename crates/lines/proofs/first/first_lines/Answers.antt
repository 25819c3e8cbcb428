-- the lines are laid from the start
use Rattle.std.proofs.Common.{rules}
use Rattle.text.proofs.Laying.{holds_page}
use Rattle.lines.specs.Lines.{first_lines, first_text}
use Rattle.lines.proofs.first.first_lines.Goals as goal

pub returns : goal.returns
unfolding first_text first_lines
returns c = holds_page _ _ (search rules)

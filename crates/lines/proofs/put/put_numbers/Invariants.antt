-- the numbers passed so far are laid after the first
use Rattle.std.proofs.Common.{◌∷◌, take, get_or, pos}
use Rattle.text.specs.{Page.Lays, Text.spaced}
use Rattle.lines.specs.Lines.{numbers}
use Rattle.lines.proofs.put.put_numbers.Given as goal

abbrev pub invariant-loop-value : goal.invariant-loop-value
invariant-loop-value l = Lays (spaced (numbers (get_or l.values 0 (pos 0) ∷ take l.value-index l.others))) l.fn.page l.page

-- the case holds at none of the places asked so far
use Rattle.std.specs.Prelude.{◌≡◌, ◌++◌, None, pos}
use Rattle.refusals.specs.{Numbers.numbered, Order.lowest_place, Questions.asked, Table.sine_entry_outside}
use Rattle.judging.proofs.search.lowest_entry_outside.Given as given

abbrev pub invariant-loop-i : given.invariant-loop-i
invariant-loop-i l =
    lowest_place (λ p. asked (sine_entry_outside (numbered (l.log_sines ++ l.log_sides) p 0) (numbered l.differences p (pos 0)))) l.i ≡ None

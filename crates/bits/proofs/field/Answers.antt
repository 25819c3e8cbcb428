-- the field is a part of the number of the bytes that were taken, eight or as many as it straddles
use Rattle.std.proofs.Common.{◌≡◌, true, ◌∙◌, ◌+◌, ◌-◌, ◌/◌, ◌%◌, arith, rules}
use Rattle.bits.specs.Bits.{inside}
use Rattle.bits.proofs.{Fields.inside_within, Runs.field_part}
use Rattle.bits.proofs.field.Goals as goal

pub returns-then-first-bytes : goal.returns-then-first-bytes
returns-then-first-bytes c =
    let a = c.args in
    c.part.ensures
    ∙ field_part a.bytes.now a.at a.width 8 c.window.ensures (omega arith) (omega arith) (omega arith) (omega arith)

pub returns : goal.returns
returns c =
    let a = c.args in
    let here : inside a.bytes.now a.at a.width ≡ true = search rules in
    let spanned = a.at / 8 + (a.at % 8 + a.width + 7) / 8 - a.at / 8 in
    c.part-2.ensures
    ∙ field_part a.bytes.now a.at a.width spanned c.number_of-number.ensures
    (omega (arith, inside_within a.bytes.now a.at a.width here)) (omega arith) (omega arith) (omega arith)

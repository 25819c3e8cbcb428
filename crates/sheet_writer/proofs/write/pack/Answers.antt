-- the parts that are packed one after the other are the fields of the layout
use Rattle.std.proofs.Common.{sym, ◌∙◌}
use Rattle.sheet_rules.specs.{Sheet.Values, Lent.values_given}
use Rattle.sheet_rules.proofs.Accepted.{as_many}
use Rattle.sheet_writer.proofs.PartLaws.{head_fits, limit_fits, body_fits, count_after_head, count_after_bound, all_counted, sheet_packed}
use Rattle.sheet_writer.proofs.write.pack.Goals as goal

pub put_head-with_head-requires : goal.put_head-with_head-requires
put_head-with_head-requires c =
    let a = c.args in
    let v : Values = values_given a.bound a.values in
    head_fits a.head.kind a.head.figure v (as_many a.head.kind a.head.figure v c.requires.lengths) a.sheet.now c.requires.sheet_len

pub put_limit_or_tolerance-with_bound-requires : goal.put_limit_or_tolerance-with_bound-requires
put_limit_or_tolerance-with_bound-requires c =
    let a = c.args in
    let v : Values = values_given a.bound a.values in
    let many = as_many a.head.kind a.head.figure v c.requires.lengths in
    let packs = c.put_head-with_head.ensures in
    limit_fits a.head.kind a.head.figure v many a.sheet.now c.requires.sheet_len _ _ c.pass_of-pass.ensures c.put_head-with_head.auto.sheet packs.well
    (count_after_head a.head.kind a.head.figure v many a.sheet.now c.pass_of-pass.ensures c.carries_rounds-carried.ensures packs)

pub put_body-packed-requires : goal.put_body-packed-requires
put_body-packed-requires c =
    let a = c.args in
    let v : Values = values_given a.bound a.values in
    let unbound : Values = values_given 0 a.values in
    body_fits a.head.kind a.head.figure unbound (as_many a.head.kind a.head.figure unbound c.requires.lengths) a.sheet.now c.requires.sheet_len _ _
    c.pass_of-pass.ensures c.carries_rounds-carried.ensures
    (c.put_limit_or_tolerance-with_bound.auto.sheet ∙ c.put_head-with_head.auto.sheet) c.put_limit_or_tolerance-with_bound.ensures.well
    (count_after_bound a.head.kind a.head.figure v (as_many a.head.kind a.head.figure v c.requires.lengths) a.sheet.now
    c.pass_of-pass.ensures c.carries_rounds-carried.ensures c.put_head-with_head.ensures c.put_limit_or_tolerance-with_bound.ensures)

pub finish-requires-clause-packer_value : goal.finish-requires-clause-packer_value
finish-requires-clause-packer_value c =
    let a = c.args in
    let v : Values = values_given a.bound a.values in
    all_counted a.head.kind a.head.figure v (as_many a.head.kind a.head.figure v c.requires.lengths) a.sheet.now
    c.pass_of-pass.ensures c.carries_rounds-carried.ensures c.put_head-with_head.ensures c.put_limit_or_tolerance-with_bound.ensures
    c.put_body-packed.ensures
    ∙ sym (c.put_body-packed.auto.sheet ∙ c.put_limit_or_tolerance-with_bound.auto.sheet ∙ c.put_head-with_head.auto.sheet ∙ c.requires.sheet_len)

pub returns : goal.returns
returns c =
    let a = c.args in
    let v : Values = values_given a.bound a.values in
    c.finish.ensures
    ∙ sheet_packed a.head.kind a.head.figure v (as_many a.head.kind a.head.figure v c.requires.lengths) a.sheet.now
    c.pass_of-pass.ensures c.carries_rounds-carried.ensures c.put_head-with_head.ensures c.put_limit_or_tolerance-with_bound.ensures
    c.put_body-packed.ensures

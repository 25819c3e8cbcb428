use Rattle.std.specs.Prelude.{◌≡◌, refl, List, ℕ, get_or}
use Rattle.vocabulary.specs.{sym, ap, ◌∙◌}
use Rattle.pass_rules.specs.{Promises.second_lent, Lent.second_held}
use Rattle.pass_steps.proofs.{Fitting.copied, Held.sums_are}
use Rattle.pass_second.specs.Steps.{work_of, work_lent, work_lengths}
use Rattle.pass_second.proofs.corrections.store_second.Goals as goal

pub returns-clause-left : goal.returns-clause-left
returns-clause-left c =
    let pre = c.requires in
    let entry = c.args.room.now in
    let at : (k : ℕ) → get_or (work_lent (work_of (second_held entry))) k 0 ≡ get_or (work_lengths c.args.figure) k 0 =
    λ k. ap (λ (l : List ℕ). get_or l k 0) pre.room_len in
    let high = c.store.ensures ∙ copied c.args.high.now entry.numerators_high.now (pre.high_len ∙ sym (at 2)) in
    let low = c.store-2.ensures ∙ copied c.args.low.now entry.numerators_low.now (pre.low_len ∙ sym (at 3)) in
    let tenths = c.store-3.ensures ∙ copied c.args.tenths.now entry.rounded.now (pre.tenths_len ∙ sym (at 4)) in
    let rests = sums_are c.args.figure c.args.tenths.now pre.within c.args.tenths.now entry.rests.now refl pre.tenths_len (at 6) c.condition_sums.ensures in
    λ i. second_lent (c.store_wide.ensures i) (c.store_wide-2.ensures i) (high i) (low i) (tenths i) entry.adjusted.now entry.adjusted_rounds.now (rests i)

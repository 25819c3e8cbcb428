use Rattle.std.specs.Prelude.{ℕ, ◌-◌, ◌<◌, length}
use Rattle.std.proofs.Common.{arith, rules, ap, ◌∙◌, FitsSigned, w32, to_z-of_z}
use Rattle.std.proofs.lemmas.Int.{ints}
use Rattle.vocabulary.specs.{+ℤ_idl}
use Rattle.whole.specs.Sums.{vector}
use Rattle.figures.specs.{Figure.angle_count, Numerators.sum_over}
use Rattle.figures.proofs.Figures.{angle_bound}
use Rattle.closing.proofs.Starts.{laid, start_within, sum_step, length_step, sum_end, laid_few}
use Rattle.closing.proofs.directions.start_of.Goals as goal

pub loop-angle-init : goal.loop-angle-init
loop-angle-init c =
    let f = c.args.figure in
    let x = vector c.args.x.now in
    record {
      among = omega (arith, c.starts_at-angle.ensures, start_within f c.args.i c.requires.i_bound);
      sums = +ℤ_idl _ ∙ ap (λ (angle : ℕ). sum_over (laid f angle) x) c.starts_at-angle.ensures;
      small = omega (arith, laid_few f c.starts_at-angle.result, angle_bound f);
    }

pub loop-angle-smaller : goal.loop-angle-smaller
loop-angle-smaller c =
    let f = c.args.figure in
    let angle = c.loop-angle.angle in
    let next = ap (λ (a : ℕ). length (laid f a)) c.starts_at-angle-in-loop-angle.ensures in
    omega (arith, length_step f angle (omega arith) c.loop-angle.invariant.among, next)

pub loop-angle-preserved : goal.loop-angle-preserved
loop-angle-preserved c =
    let f = c.args.figure in
    let x = vector c.args.x.now in
    let angle = c.loop-angle.angle in
    let some : 0 < angle = omega arith in
    let fits : FitsSigned w32 (x (angle - 1)) = search rules in
    let value = simp to_z-of_z at c.from-total.ensures in
    let step = sum_step f x angle some c.loop-angle.invariant.among in
    let next = ap (λ (a : ℕ). sum_over (laid f a) x) c.starts_at-angle-in-loop-angle.ensures in
    let shorter = length_step f angle some c.loop-angle.invariant.among in
    let rest = ap (λ (a : ℕ). length (laid f a)) c.starts_at-angle-in-loop-angle.ensures in
    let within = c.requires.within (angle - 1) in
    let among : angle - 1 < angle_count f = omega (arith, c.loop-angle.invariant.among) in
    record {
      among = omega (arith, c.starts_at-angle-in-loop-angle.ensures, start_within f (angle - 1) among);
      sums = omega (arith, ints);
      small = omega (arith, ints);
    }

pub returns : goal.returns
returns c =
    let f = c.args.figure in
    let x = vector c.args.x.now in
    let none = ap (λ (a : ℕ). sum_over (laid f a) x) c.loop-angle-test.false in
    let end = sum_end f x in
    omega (arith, ints)

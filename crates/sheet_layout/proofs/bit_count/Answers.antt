-- What the arms compute is the width of the layout, for every figure.
use Rattle.std.proofs.Common.{ℕ, ◌+◌, ◌*◌, ◌≡◌, sym, ap, ap₂, ◌∙◌}
use Rattle.figures.specs.{declared.Counts.Counts, declared.Figure.Figure, Figure.counts_of}
use Rattle.sheet_layout.specs.{declared.Kind.Kind, declared.Pass.Pass, Kinds.pass_of, Kinds.carries_rounds, Kinds.of_pass}
use Rattle.sheet_layout.specs.Layout.{rounds_bits, bit_count}
use Rattle.sheet_layout.proofs.Sizes.{bits_for, pass_bits}
use Rattle.sheet_layout.proofs.bit_count.Goals as goal

-- the bits of the pass that was told
of_pass_lem : {pass : Pass} {r : Counts} {step : ℕ} (kind : Kind) (f : Figure) (told : Pass) → r ≡ counts_of f → step ≡ rounds_bits (carries_rounds kind)
    → pass ≡ pass_of kind → pass ≡ told
    → of_pass told (22 + 23 * (r.angles + r.fixed)) (18 + 27 * r.sides + 65 * r.angles) + step * r.angles ≡ bit_count kind f
of_pass_lem kind f told is step own e =
    ap₂ (λ (r : Counts) (s : ℕ). of_pass told (22 + 23 * (r.angles + r.fixed)) (18 + 27 * r.sides + 65 * r.angles) + s * r.angles) is step
    ∙ ap (λ (p : Pass). bits_for p (carries_rounds kind) f) (sym e ∙ own) ∙ sym (pass_bits kind f)

pub returns-in-First : goal.returns-in-First
returns-in-First c = of_pass_lem c.args.kind c.args.figure Pass.First c.counts_of-counts.ensures c.rounds_step.ensures c.pass_of.ensures c.in-First.is

pub returns-in-Second : goal.returns-in-Second
returns-in-Second c = of_pass_lem c.args.kind c.args.figure Pass.Second c.counts_of-counts.ensures c.rounds_step.ensures c.pass_of.ensures c.in-Second.is

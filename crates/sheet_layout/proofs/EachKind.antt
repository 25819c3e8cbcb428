-- What every kind passes, every kind and figure pass: tests that antt computes. Assumes nothing.
use Rattle.std.specs.Prelude.{Bool, T}
use Rattle.whole.specs.Lists.{every}
use Rattle.whole.proofs.Computed.{and_left, and_right}
use Rattle.figures.specs.{declared.Figure.Figure, Figure.all_figures}
use Rattle.figures.proofs.Figures.{each_figure}
use Rattle.sheet_layout.specs.{declared.Kind.Kind, Kinds.all_kinds}
use Rattle.sheet_layout.specs.declared.Kind.TheVariants.{One, Two, Three, Four, Five}

pub each_kind : (test : Kind → Bool) → T (every test all_kinds) → (kind : Kind) → T (test kind)
each_kind test t kind =
    let from-two = and_right (test One) _ t in
    let from-three = and_right (test Two) _ from-two in
    let from-four = and_right (test Three) _ from-three in
    go kind (and_left (test One) _ t) (and_left (test Two) _ from-two) (and_left (test Three) _ from-three) (and_left (test Four) _ from-four)
    (and_left (test Five) _ (and_right (test Four) _ from-four))
  where
    go : (kind : Kind) → T (test One) → T (test Two) → T (test Three) → T (test Four) → T (test Five) → T (test kind)
    go One one two three four five = one
    go Two one two three four five = two
    go Three one two three four five = three
    go Four one two three four five = four
    go Five one two three four five = five

pub each : (test : Kind → Figure → Bool) → T (every (λ kind. every (test kind) all_figures) all_kinds) → (kind : Kind) (f : Figure) → T (test kind f)
each test t kind f = each_figure (test kind) (each_kind (λ k. every (test k) all_figures) t kind) f

-- Both sine conditions by their signs.
use Rattle.std.specs.Prelude.{Bool, true, false, cond, ◌≡◌, ℕ, ℤ, length}
use Rattle.std.proofs.Common.{rules}
use Rattle.vocabulary.specs.{sym, ap, ◌∙◌, w64, to_z, of_z, to_z_of_z_at}
use Rattle.whole.specs.{Lists.listed, Sums.dot, Sums.vector}
use Rattle.figures.specs.Figure.{angle_count, pole, side, has_side}
use Rattle.figures.proofs.Figures.{pole_signed, side_signed}
use Rattle.pass_rules.specs.Lent.{entries_given}
use Rattle.pass_rules.specs.SecondPass.{reduced_in, reduced_of}
use Rattle.pass_steps.specs.Premises.{most_reduced}
use Rattle.pass_steps.proofs.StepLaws.{listed_within, length_of}
use Rattle.pass_second.specs.{declared.sines.Sines.Sines, Sines.alone_of, Sines.together_of, Sines.with_sides}
use Rattle.pass_second.proofs.SineBounds.{angles_magnitude, reduced_magnitude}
use Rattle.pass_second.proofs.SineSteps.{sign_small, sines_are, reduced_by_lem}
use Rattle.pass_second.proofs.SumSteps.{told_side, none_left, alone_are, none_reduced, both_misclosure, both_reduced, shared_are, together_are}
use Rattle.pass_second.proofs.sums.sums_into.Goals as goal

pub sines_into-pole-requires-clause-by_index : goal.sines_into-pole-requires-clause-by_index
sines_into-pole-requires-clause-by_index c =
    sign_small c.args.figure (pole c.args.figure) c.signs_of-signs.result c.signs_of-signs.ensures (entries_given c.args.given) (pole_signed c.args.figure)

pub returns-then-is_empty-clause-value : goal.returns-then-is_empty-clause-value
returns-then-is_empty-clause-value c =
    let f = c.args.figure in
    let e = entries_given c.args.given in
    let none : has_side f ≡ false = told_side f (length c.args.given.log_sides.now) true c.requires.log_sides_len c.if-is_empty.ensures in
    let pole_is =
    c.sines_into-pole.ensures.value ∙ sines_are f (pole f) c.signs_of-signs.result c.signs_of-signs.ensures e in
    c.together.ensures ∙ ap alone_of pole_is ∙ alone_are f e none

pub returns-then-is_empty-clause-a_after : goal.returns-then-is_empty-clause-a_after
returns-then-is_empty-clause-a_after c =
    c.sines_into-pole.ensures.a_after
    ∙ reduced_by_lem c.args.figure (pole c.args.figure) c.signs_of-signs.result c.signs_of-signs.ensures (entries_given c.args.given)

pub returns-then-is_empty-clause-b_after : goal.returns-then-is_empty-clause-b_after
returns-then-is_empty-clause-b_after c =
    let f = c.args.figure in
    let e = entries_given c.args.given in
    let none : has_side f ≡ false = told_side f (length c.args.given.log_sides.now) true c.requires.log_sides_len c.if-is_empty.ensures in
    none_left c.args.b.now (c.requires.b_len ∙ ap (λ (b : Bool). cond b (angle_count f) 0) none) ∙ sym (none_reduced f e none)

pub sines_into-side-requires-clause-by_index : goal.sines_into-side-requires-clause-by_index
sines_into-side-requires-clause-by_index c =
    sign_small c.args.figure (side c.args.figure) c.side_signs_of-side_signs.result c.side_signs_of-side_signs.ensures (entries_given c.args.given)
    (side_signed c.args.figure)

pub products-shared-requires-clause-within : goal.products-shared-requires-clause-within
products-shared-requires-clause-within c =
    let f = c.args.figure in
    let e = entries_given c.args.given in
    let a_is : c.sines_into-pole.new.a ≡ reduced_of f e =
    c.sines_into-pole.ensures.a_after ∙ reduced_by_lem f (pole f) c.signs_of-signs.result c.signs_of-signs.ensures e in
    λ i. rw a_is (listed_within (angle_count f) (reduced_in f (pole f) e) most_reduced
    (λ k h. reduced_magnitude f (pole f) (pole_signed f) e c.requires.within k) i)

pub products-shared-requires-clause-within_2 : goal.products-shared-requires-clause-within_2
products-shared-requires-clause-within_2 c =
    let f = c.args.figure in
    let e = entries_given c.args.given in
    let b_is : c.sines_into-side.new.a ≡ listed (angle_count f) (reduced_in f (side f) e) =
    c.sines_into-side.ensures.a_after ∙ reduced_by_lem f (side f) c.side_signs_of-side_signs.result c.side_signs_of-side_signs.ensures e in
    λ i. rw b_is (listed_within (angle_count f) (reduced_in f (side f) e) most_reduced
    (λ k h. reduced_magnitude f (side f) (side_signed f) e c.requires.within k) i)

pub with_sides-side_misclosure-requires-clause-of_angles_bound : goal.with_sides-side_misclosure-requires-clause-of_angles_bound
with_sides-side_misclosure-requires-clause-of_angles_bound c =
    let f = c.args.figure in
    let e = entries_given c.args.given in
    let side_is =
    c.sines_into-side.ensures.value ∙ sines_are f (side f) c.side_signs_of-side_signs.result c.side_signs_of-side_signs.ensures e in
    let read : to_z w64 (of_z w64 c.sines_into-side.result.misclosure) ≡ c.sines_into-side.result.misclosure = search rules in
    let is = ap (λ (s : Sines). s.misclosure) side_is in
    rw (read, is) (angles_magnitude f (side f).signs (λ i h. (side_signed f).sign_small i) c.args.given.log_sines.now c.requires.log_sines)

pub returns-clause-value : goal.returns-clause-value
returns-clause-value c =
    let f = c.args.figure in
    let e = entries_given c.args.given in
    let both : has_side f ≡ true = told_side f (length c.args.given.log_sides.now) false c.requires.log_sides_len c.if-is_empty.ensures in
    let pole_is =
    c.sines_into-pole.ensures.value ∙ sines_are f (pole f) c.signs_of-signs.result c.signs_of-signs.ensures e in
    let a_is : c.sines_into-pole.new.a ≡ reduced_of f e =
    c.sines_into-pole.ensures.a_after ∙ reduced_by_lem f (pole f) c.signs_of-signs.result c.signs_of-signs.ensures e in
    let side_is =
    c.sines_into-side.ensures.value ∙ sines_are f (side f) c.side_signs_of-side_signs.result c.side_signs_of-side_signs.ensures e in
    let b_is : c.sines_into-side.new.a ≡ listed (angle_count f) (reduced_in f (side f) e) =
    c.sines_into-side.ensures.a_after ∙ reduced_by_lem f (side f) c.side_signs_of-side_signs.result c.side_signs_of-side_signs.ensures e in
    let own : to_z w64 (of_z w64 c.sines_into-side.result.misclosure) ≡ c.sines_into-side.result.misclosure = search rules in
    let shared =
    to_z_of_z_at w64 _ (record { sfits = c.products-shared.type_inv }) ∙ c.products-shared.ensures
    ∙ (λ i. dot (length (a_is i)) (vector (a_is i)) (vector (b_is i)))
    ∙ ap (λ (n : ℕ). dot n (vector (reduced_of f e)) (vector (listed (angle_count f) (reduced_in f (side f) e)))) (length_of _ _ (λ i. reduced_of f e))
    ∙ shared_are f e both in
    let misclosure =
    to_z_of_z_at w64 _ (record { sfits = c.with_sides-side_misclosure.type_inv }) ∙ c.with_sides-side_misclosure.ensures
    ∙ ap (λ (z : ℤ). with_sides z c.args.given.log_sides.now) (own ∙ ap (λ (s : Sines). s.misclosure) side_is) ∙ sym (both_misclosure f e both) in
    c.together-2.ensures
    ∙ (λ i. together_of (pole_is i) (side_is i) (to_z w64 (of_z w64 c.products-shared.result)) (to_z w64 (of_z w64 c.with_sides-side_misclosure.result)))
    ∙ together_are f e both shared misclosure

pub returns-clause-a_after : goal.returns-clause-a_after
returns-clause-a_after c =
    c.sines_into-pole.ensures.a_after
    ∙ reduced_by_lem c.args.figure (pole c.args.figure) c.signs_of-signs.result c.signs_of-signs.ensures (entries_given c.args.given)

pub returns-clause-b_after : goal.returns-clause-b_after
returns-clause-b_after c =
    let f = c.args.figure in
    let e = entries_given c.args.given in
    let both : has_side f ≡ true = told_side f (length c.args.given.log_sides.now) false c.requires.log_sides_len c.if-is_empty.ensures in
    let b_is : c.sines_into-side.new.a ≡ listed (angle_count f) (reduced_in f (side f) e) =
    c.sines_into-side.ensures.a_after ∙ reduced_by_lem f (side f) c.side_signs_of-side_signs.result c.side_signs_of-side_signs.ensures e in
    b_is ∙ sym (both_reduced f e both)

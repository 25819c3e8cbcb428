use Rattle.std.specs.Prelude.{◌≡◌, List, ℕ, suc, ◌<◌, ℤ, pos, ◌+ℤ◌, length}
use Rattle.std.proofs.Common.{arith, rules, sym, ap, ◌∙◌, FitsSigned, w32, to_z-of_z}
use Rattle.whole.specs.Sums.{vector}
use Rattle.whole.proofs.Lists.{length_listed}
use Rattle.refusals.specs.Questions.{asked, outside_signed, any_place}
use Rattle.pass_steps.proofs.StepLaws.{listed_at}
use Rattle.closing.specs.Steps.{each_with}
use Rattle.closing.proofs.Anywhere.{one_more, found, nowhere}
use Rattle.closing.proofs.check.some_left.Invariants.{test}
use Rattle.closing.proofs.check.some_left.Goals as goal

-- as many rests as misclosures, each the misclosure with the sum
module _ (w sums : List ℤ) where
  over_all : any_place (length w) (test w sums) ≡ any_place (length (each_with w sums)) (test w sums)
  over_all = ap (λ (n : ℕ). any_place n (test w sums)) (sym (length_listed (length w) (λ j. vector w j +ℤ vector sums j)))

  asked_at : (j : ℕ) → j < length w → test w sums (suc j) ≡ asked (outside_signed (pos 0) (pos 0) (vector w j +ℤ vector sums j))
  asked_at j h = ap (λ (z : ℤ). asked (outside_signed (pos 0) (pos 0) z)) (listed_at (length w) (λ i. vector w i +ℤ vector sums i) j h)

pub returns-then-is_open : goal.returns-then-is_open
returns-then-is_open c =
    let w = c.args.misclosures.now in
    let sums = c.args.sums.now in
    let j = c.loop-j.j in
    let first : FitsSigned w32 (vector w j) = search rules in
    let second : FitsSigned w32 (vector sums j) = search rules in
    let made : c.is_open.result ≡ asked (outside_signed (pos 0) (pos 0) (vector w j +ℤ vector sums j)) = simp to_z-of_z at c.is_open.ensures in
    sym (sym (over_all w sums) ∙ found (test w sums) (length w) j (omega arith) (asked_at w sums j (omega arith) ∙ sym made ∙ c.if-is_open.true))

pub loop-j-preserved : goal.loop-j-preserved
loop-j-preserved c =
    let w = c.args.misclosures.now in
    let sums = c.args.sums.now in
    let j = c.loop-j.j in
    let first : FitsSigned w32 (vector w j) = search rules in
    let second : FitsSigned w32 (vector sums j) = search rules in
    let made : c.is_open.result ≡ asked (outside_signed (pos 0) (pos 0) (vector w j +ℤ vector sums j)) = simp to_z-of_z at c.is_open.ensures in
    one_more (test w sums) j c.loop-j.invariant (asked_at w sums j (omega arith) ∙ sym made ∙ c.if-is_open.false)

pub returns : goal.returns
returns c =
    let w = c.args.misclosures.now in
    let sums = c.args.sums.now in
    sym (sym (over_all w sums) ∙ nowhere (test w sums) c.loop-j.j (length w) c.loop-j.invariant (omega arith) (omega arith))

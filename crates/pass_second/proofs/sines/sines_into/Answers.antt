-- d is what the signs give.
use Rattle.std.specs.Prelude.{◌≡◌, ℕ}
use Rattle.std.proofs.Common.{rules}
use Rattle.vocabulary.specs.{ap, ◌∙◌, w64, to_z, of_z, to_z_of_z_at}
use Rattle.whole.specs.{Lists.listed, Sums.dot, Sums.squares as sums_squares, Sums.vector}
use Rattle.refusals.specs.Ranges.{most_difference}
use Rattle.pass_rules.specs.Pass.{given}
use Rattle.pass_second.specs.{declared.sines.SignedSums.SignedSums, Sines.signed_by}
use Rattle.pass_second.proofs.{SineSteps.own_reduced, SineSteps.own_squares, SineSteps.own_small, Exact.product_magnitude}
use Rattle.pass_second.proofs.sines.sines_into.Goals as goal

pub reduced_into-squares-requires-clause-within : goal.reduced_into-squares-requires-clause-within
reduced_into-squares-requires-clause-within c =
    let rule = signed_by c.args.signs c.args.differences.now in
    let d = c.signed_into-sums.ensures.d_after ∙ ap (λ (k : ℕ). listed k rule) c.requires.differences_len in
    own_small c.args.figure _ rule d most_difference
    (λ i h. product_magnitude (vector c.args.signs i) (vector c.args.differences.now i) 1 most_difference (c.requires.by_index i h) (c.requires.within i))

pub returns-clause-value : goal.returns-clause-value
returns-clause-value c =
    let signs = c.args.signs in
    let rule = signed_by signs c.args.differences.now in
    let n = c.requires.differences_len in
    let d = c.signed_into-sums.ensures.d_after ∙ ap (λ (k : ℕ). listed k rule) n in
    let sums = c.signed_into-sums.result in
    let own_misclosure : to_z w64 (of_z w64 sums.misclosure) ≡ sums.misclosure = search rules in
    let own_differences : to_z w64 (of_z w64 sums.difference_squares) ≡ sums.difference_squares = search rules in
    let misclosure =
    own_misclosure ∙ ap (λ (s : SignedSums). s.misclosure) c.signed_into-sums.ensures.value
    ∙ ap (λ (k : ℕ). dot k (vector signs) (given c.args.log_sines.now)) n in
    let squares =
    to_z_of_z_at w64 _ (record { sfits = c.reduced_into-squares.type_inv }) ∙ c.reduced_into-squares.ensures.value ∙ own_squares c.args.figure _ rule d in
    let differences =
    own_differences ∙ ap (λ (s : SignedSums). s.difference_squares) c.signed_into-sums.ensures.value ∙ ap (λ (k : ℕ). sums_squares k rule) n in
    λ k. record { misclosure = misclosure k; squares = squares k; difference_squares = differences k }

pub returns-clause-a_after : goal.returns-clause-a_after
returns-clause-a_after c =
    let rule = signed_by c.args.signs c.args.differences.now in
    let d = c.signed_into-sums.ensures.d_after ∙ ap (λ (k : ℕ). listed k rule) c.requires.differences_len in
    c.reduced_into-squares.ensures.a_after ∙ own_reduced c.args.figure _ rule d

-- `pass_pair::products_difference` meets its contract: a product of two 64-bit numbers is at most 2^126 either way.
use Rattle.std.specs.Prelude.{◌≡◌, ◌-ℤ◌, ◌*ℤ◌}
use Rattle.vocabulary.specs.{ap, ap₂, ◌∙◌, to_z-of_z}
use Rattle.wide.specs.Wide.{held}
use Rattle.pass_pair.proofs.Exact.{difference_stays}
use Rattle.pass_pair.proofs.products_difference.Goals as goal

pub returns : goal.returns
returns c =
    let args = c.args in
    let fits = c.ranges in
    c.difference.ensures
    ∙ ap held
    (ap₂ ◌-ℤ◌ (c.product.ensures ∙ ap₂ ◌*ℤ◌ (to_z-of_z fits.a) (to_z-of_z fits.b))
    (c.product-2.ensures ∙ ap₂ ◌*ℤ◌ (to_z-of_z fits.c) (to_z-of_z fits.d)))
    ∙ difference_stays args.a args.b args.c args.d fits.a fits.b fits.c fits.d

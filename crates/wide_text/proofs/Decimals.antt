-- The decimal text of a wide number, by its sign and size. Assumes nothing.
use Rattle.std.specs.Prelude.{◌≡◌, true, false, ◌∷◌, ℕ, ℤ, pos}
use Rattle.vocabulary.specs.{ap, ◌∙◌, lt_z}
use Rattle.text.specs.Text.{minus, natural, decimal}
use Rattle.text.proofs.Numbers as Numbers
use Rattle.wide.specs.{Wide.value_of, declared.Wide.Wide}
use Rattle.wide.proofs.Bounds.{value_size}

pub decimal_below : (a : Wide) → lt_z (value_of a) (pos 0) ≡ true → decimal (value_of a) ≡ minus ∷ natural (a.size)
decimal_below a e = Numbers.decimal_below (value_of a) e ∙ ap (λ (n : ℕ). minus ∷ natural n) (value_size a)

pub decimal_other : (a : Wide) → lt_z (value_of a) (pos 0) ≡ false → decimal (value_of a) ≡ natural (a.size)
decimal_other a e = Numbers.decimal_other (value_of a) e ∙ ap natural (value_size a)

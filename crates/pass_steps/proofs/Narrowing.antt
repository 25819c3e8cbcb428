-- A number of 64 bits that is small enough is read from 32 as it was. Assumes nothing.
use Rattle.std.specs.Prelude.{◌≡◌, ◌≤◌, ℤ, nat_abs}
use Rattle.vocabulary.specs.{ap, ◌∙◌, lt_of_le_of_lt, lit<, w32, w64, SFits, to_z, of_z, to_z_of_z_at}
use Rattle.whole.proofs.Magnitudes.{magnitude_fits}
use Rattle.pass_steps.specs.Premises.{most_rounded}

module _ (z q : ℤ) (fits : SFits w64 z) (same : z ≡ q) (small : nat_abs q ≤ most_rounded) where
  read : to_z w64 (of_z w64 z) ≡ q
  read = to_z_of_z_at w64 z fits ∙ same

  narrow : SFits w32 q
  narrow = magnitude_fits w32 q (lt_of_le_of_lt small (lit< tt))

  pub narrow_fits : SFits w32 (to_z w64 (of_z w64 z))
  narrow_fits = rw read narrow

  pub narrowed : to_z w32 (of_z w32 (to_z w64 (of_z w64 z))) ≡ q
  narrowed = ap (λ (t : ℤ). to_z w32 (of_z w32 t)) read ∙ to_z_of_z_at w32 q narrow

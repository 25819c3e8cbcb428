-- What the code makes of numbers that are small enough is exact, and is read back from its bits as it is. Assumes nothing.
use Rattle.std.specs.Prelude.{◌≡◌, ℕ, ◌*◌, ◌^◌, ◌≤◌, ◌<◌, ℤ, nat_abs, ◌*ℤ◌}
use Rattle.vocabulary.specs.{sym, ap₂, ◌∙◌, subst, lt_of_le_of_lt, mul-le-mul, Width, SFits, to_z, of_z, hbits, to_z_of_z_at}
use Rattle.whole.proofs.Magnitudes.{nat_abs_mul, magnitude_fits}

pub record Exact (w : Width) (most : ℕ) (made exact : ℤ) : Type 0 where
  pub fits : SFits w made
  pub read : to_z w (of_z w made) ≡ exact
  pub small : nat_abs exact ≤ most

pub is_exact : (w : Width) (most : ℕ) (made exact : ℤ) → most < 2 ^ hbits w → made ≡ exact → nat_abs exact ≤ most → Exact w most made exact
is_exact w most made exact room same small = record { fits = fits; read = to_z_of_z_at w made fits ∙ same; small = small }
  where
    fits : SFits w made
    fits = subst (SFits w) (sym same) (magnitude_fits w exact (lt_of_le_of_lt small room))

pub product_magnitude : (a b : ℤ) (m n : ℕ) → nat_abs a ≤ m → nat_abs b ≤ n → nat_abs (a *ℤ b) ≤ m * n
product_magnitude a b m n h k = rw (nat_abs_mul a b) (mul-le-mul h k)

pub product : (w : Width) (m n : ℕ) (x y a b : ℤ) → m * n < 2 ^ hbits w → x ≡ a → y ≡ b → nat_abs a ≤ m → nat_abs b ≤ n → Exact w (m * n) (x *ℤ y) (a *ℤ b)
product w m n x y a b room x-is y-is a_small b_small = is_exact w (m * n) (x *ℤ y) (a *ℤ b) room (ap₂ ◌*ℤ◌ x-is y-is) (product_magnitude a b m n a_small b_small)

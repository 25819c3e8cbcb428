-- Of two sine conditions the determinant and the exact corrections follow from A and B of the figure's angles and both misclosures
-- alone. Assumes nothing.
use Rattle.std.specs.Prelude.{ℕ, ◌<◌, ◌≡◌, ℤ, ◌-ℤ◌, ◌*ℤ◌}
use Rattle.whole.proofs.Sums.{dot_ext}
use Rattle.pass_pair.specs.Pair.{pair_numerator}
use Rattle.figures.specs.{declared.Figure.Figure, Figure.angle_count}
use Rattle.pass_rules.specs.SecondPass.{tenths_factor}
use Rattle.demands.specs.Demand2.{products, determinant_of, exact_of_two}

module _ (f : Figure) (a b a' b' : ℕ → ℤ)
    (same-a : (i : ℕ) → i < angle_count f → a i ≡ a' i) (same-b : (i : ℕ) → i < angle_count f → b i ≡ b' i) where
  AA : products f a a ≡ products f a' a'
  AA = dot_ext (angle_count f) a a a' a' same-a same-a

  AB : products f a b ≡ products f a' b'
  AB = dot_ext (angle_count f) a b a' b' same-a same-b

  BB : products f b b ≡ products f b' b'
  BB = dot_ext (angle_count f) b b b' b' same-b same-b

  pub determinant_agrees : determinant_of f a b ≡ determinant_of f a' b'
  determinant_agrees = λ k. AA k *ℤ BB k -ℤ AB k *ℤ AB k

  pub exact_agrees : {wa wb wa' wb' : ℤ} → wa ≡ wa' → wb ≡ wb' → (i : ℕ) → i < angle_count f
      → exact_of_two f a b wa wb i ≡ exact_of_two f a' b' wa' wb' i
  exact_agrees same-wa same-wb i h =
      λ k. pair_numerator (tenths_factor f) (AA k) (AB k) (BB k) (same-wa k) (same-wb k) (same-a i h k) (same-b i h k)

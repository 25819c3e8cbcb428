-- Laws of sizes: what 128 bits can hold. `omega` stops at numbers of 39 digits, which 2 ^ 128 has, so no law here opens the limit where its
-- size matters.
use Rattle.std.specs.Prelude.{◌≡◌, refl, ℕ, ◌*◌, ◌^◌, ◌≤◌, ◌<◌, ltb, Bool, true, false}
use Rattle.std.specs.Prelude.{Option, None, Some, unwrap_or}
use Rattle.std.specs.Option.{SomeIff}
use Rattle.vocabulary.specs.{sym, ◌∙◌, lt-ltb, le-ltb, ltb-true, ltb-false}
use Rattle.wide.specs.Wide.{radix, limit, held_size}

pub radix_is : radix ≡ 2 ^ 64
unfolding radix
radix_is = refl

pub limit_is : limit ≡ radix * radix
unfolding limit radix
limit_is = refl

pub held_size_lem : (n : ℕ) → n < limit → held_size n ≡ n
unfolding held_size
held_size_lem n h = rw (lt-ltb n limit h)

pub held_nothing : (n : ℕ) → limit ≤ n → held_size n ≡ 0
unfolding held_size
held_nothing n h = rw (le-ltb n limit h)

-- what a sum or a product that is answered with None past 128 bits gives, with 0 for None
pub held_by : (n : ℕ) (r : Option ℕ) → SomeIff r (n < 2 ^ 128) n → held_size n ≡ unwrap_or r 0
unfolding limit
held_by n None h = go (ltb n limit) refl
  where
    go : (t : Bool) → ltb n limit ≡ t → held_size n ≡ 0
    go true e = absurd (h (ltb-true n limit e))
    go false e = held_nothing n (ltb-false n limit e)
held_by n (Some k) h = held_size_lem n h.0 ∙ sym h.1

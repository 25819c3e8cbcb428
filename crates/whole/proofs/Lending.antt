-- The first n of an array, lent to a step and put back. Assumes nothing.
use Rattle.std.specs.Prelude.{◌≡◌, List, ◌++◌, ℕ, ◌≤◌, length, take, drop}
use Rattle.vocabulary.specs.{sym, ap, ◌∙◌, arith, length-append, length-take-le, take_at}

module _ {A : Type 0} (n : ℕ) (whole : List A) (few : n ≤ length whole) where
  pub lent_length : n ≡ length (take n whole)
  lent_length = sym (length-take-le n whole few)

  module _ (part : List A) (kept : length part ≡ length (take n whole)) where
    pub part_length : length part ≡ n
    part_length = kept ∙ sym lent_length

    -- what was lent stands again at the start
    pub part_again : take n (part ++ drop n whole) ≡ part
    part_again = take_at part (drop n whole) n part_length

    pub still_few : n ≤ length (part ++ drop n whole)
    still_few = omega (arith, length-append part (drop n whole), part_length)

    pub again_length : n ≡ length (take n (part ++ drop n whole))
    again_length = sym part_length ∙ sym (ap length part_again)

-- What a call promises: what it answers, and what everything lent to it holds in the end. Every promise is an instance of this, so that
-- two results which one promise allows are equal by one law, `one_result` (proofs/OneResult.antt).
use Rattle.std.specs.Prelude.{Err, Ok}
use Rattle.refusals.specs.Numbers.{Verdict}
use Rattle.std.specs.Prelude.{◌≡◌}

pub record Promised {R L : Type 0} (answer : R) (left : L) (result : R) (exit : L) : Type 0 where
  pub answered : result ≡ answer
  pub leaves : exit ≡ left

-- what is lent holds the new values where every test passed, and else what it held: "Nothing lent changes"
abbrev pub stored : {L : Type 0} → Verdict → (new old : L) → L
stored (Ok tt) new old = new
stored (Err refusal) new old = old

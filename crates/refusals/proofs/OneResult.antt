-- Two results that one promise allows are equal, with everything lent. Assumes nothing.
use Rattle.std.specs.Prelude.{◌≡◌, refl}
use Rattle.vocabulary.specs.{◌∙⁻¹◌}
use Rattle.refusals.specs.Promise.{Promised}

pub one_result : {R L : Type 0} {answer : R} {left : L} {r r' : R} {exit exit' : L}
    → Promised answer left r exit → Promised answer left r' exit' → (r ≡ r') × (exit ≡ exit')
one_result p q = (p.answered ∙⁻¹ q.answered, p.leaves ∙⁻¹ q.leaves)

-- a function to which nothing is lent to be changed promises its answer alone
pub alone : {R : Type 0} {answer r : R} → r ≡ answer → Promised answer (tt {0}) r (tt {0})
alone e = record { answered = e; leaves = refl }

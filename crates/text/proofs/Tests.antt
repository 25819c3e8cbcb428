-- Tests joined, and tests of every entry of a list. Assumes nothing.
use Rattle.std.specs.Prelude.{Bool, true, false, ◌&&◌, ◌||◌, List, [], ◌∷◌, ◌++◌, T}
use Rattle.whole.specs.Lists.{every}
use Rattle.whole.proofs.Computed.{and_left, and_right}

pub and_both : (a b : Bool) → T a → T b → T (a && b)
and_both true b t u = u
and_both false b t u = t

pub or_left : (a b : Bool) → T a → T (a || b)
or_left true b t = tt
or_left false b t = absurd t

pub or_cases : (a b : Bool) (P : Type 0) → (T a → P) → (T b → P) → T (a || b) → P
or_cases true b P f g t = f tt
or_cases false b P f g t = g t

module _ {A : Type 0} (test : A → Bool) where
  pub every_append : (l m : List A) → T (every test l) → T (every test m) → T (every test (l ++ m))
  every_append [] m t u = u
  every_append (x ∷ l) m t u =
      and_both (test x) (every test (l ++ m)) (and_left (test x) (every test l) t) (every_append l m (and_right (test x) (every test l) t) u)

  -- another test, which each entry passes that passes this one
  pub every_also : (other : A → Bool) → ((x : A) → T (test x) → T (other x)) → (l : List A) → T (every test l) → T (every other l)
  every_also other f [] t = tt
  every_also other f (x ∷ l) t =
      and_both (other x) (every other l) (f x (and_left (test x) (every test l) t)) (every_also other f l (and_right (test x) (every test l) t))

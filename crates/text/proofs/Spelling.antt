-- A number's decimal text, as the library spells it. Assumes nothing.
use Rattle.std.specs.Prelude.{◌≡◌, [], ◌∷◌, ◌++◌, List, ℕ, ◌%◌, ◌^◌, ◌<◌}
use Rattle.vocabulary.specs.{sym, ap, ◌∙◌, lt_trans, lit<}
use Rattle.std.specs.Fmt.{decimal as std_decimal}
use Rattle.std.proofs.lemmas.Fmt.{decimal_by_steps_wide}
use Rattle.text.specs.Text.{digit, natural}
use Rattle.text.proofs.Numbers.{natural_last, natural_before}

pub spelled_wide : (n : ℕ) → n < 2 ^ 128 → std_decimal n ≡ natural n
spelled_wide n h =
    decimal_by_steps_wide (λ n ds. ds ≡ natural n) (λ n one. sym (natural_last n one))
    (λ n ds more e. ap (λ (l : List ℕ). l ++ (digit (n % 10) ∷ [])) e ∙ sym (natural_before n more)) n (lt_trans h (lit< tt))

pub spelled : (n : ℕ) → n < 2 ^ 64 → std_decimal n ≡ natural n
spelled n h = spelled_wide n (lt_trans h (lit< tt))

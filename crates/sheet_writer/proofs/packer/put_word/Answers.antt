-- the four bytes are copied after those before them
use Rattle.std.proofs.Common.{◌≡◌, List, [], ◌∷◌, ◌++◌, ℕ, ◌+◌, ◌/◌, ◌%◌, ◌∙◌, ap, take, arith}
use Rattle.std.proofs.lemmas.Slice.{take-put_mid}
use Rattle.sheet_writer.specs.Packer.{word_bytes}
use Rattle.sheet_writer.proofs.packer.put_word.Goals as goal

pub returns : goal.returns
returns c =
    let a = c.args in
    let first : a.word / 16777216 % 256 ≡ a.word / 16777216 = omega arith in
    let bytes : c.copy_from_slice.new.self ≡ word_bytes a.word =
    c.copy_from_slice.ensures.after ∙ c.to_be_bytes.ensures
    ∙ ap (λ (x : ℕ). x ∷ a.word / 65536 % 256 ∷ a.word / 256 % 256 ∷ a.word % 256 ∷ []) first in
    take-put_mid a.at _ a.sheet.now c.copy_from_slice.new.self (a.at + 4) (omega (arith, c.copy_from_slice.ensures.len)) (omega arith)
    ∙ ap (λ (l : List ℕ). take a.at a.sheet.now ++ l) bytes

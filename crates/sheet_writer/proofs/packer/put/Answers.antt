-- the field's bits are held after those that were, or fill four bytes with them
use Rattle.std.proofs.Common.{ℕ, ◌+◌, ◌-◌, ◌/◌, ◌%◌, ◌^◌, ◌<◌, ◌++◌, [], ◌∷◌, ap, sym, subst, ◌∙◌, take, arith}
use Rattle.sheet_writer.specs.{Packer.packer_from, Packer.Packs, Packer.word_bytes, Parts.field_from}
use Rattle.sheet_writer.proofs.PackerLaws.{together_is, together_fits, packs_held, packs_out}
use Rattle.sheet_writer.proofs.packer.put.Goals as goal

pub overflow_add-held : goal.overflow_add-held
overflow_add-held c =
    let a = c.args in
    record {
      fits =
          subst (λ (n : ℕ). n < 2 ^ 64) (sym (together_is a.packer.held a.width a.value c.requires.width_bound c.from.ensures))
          (together_fits a.packer.held a.width a.value c.requires.width_bound);
    }

pub returns-then-count-lt32 : goal.returns-then-count-lt32
returns-then-count-lt32 c =
    let a = c.args in
    let s = a.sheet.now in
    let p = a.packer in
    subst (λ (h : ℕ). Packs s p (field_from a.width a.value ∷ []) s (packer_from h (p.count + a.width) p.at))
    (sym (together_is p.held a.width a.value c.requires.width_bound c.from.ensures))
    (packs_held s p c.requires.has_room.well a.width a.value c.requires.width_bound c.if-count-lt32.true)

pub returns : goal.returns
returns c =
    let a = c.args in
    let s = a.sheet.now in
    let p = a.packer in
    let left : ℕ = p.count + a.width - 32 in
    let all = together_is p.held a.width a.value c.requires.width_bound c.from.ensures in
    subst (λ (h : ℕ). Packs s p (field_from a.width a.value ∷ []) c.put_word.new.sheet (packer_from h left (p.at + 4))) (sym all)
    (packs_out s p c.requires.has_room.well a.width a.value c.requires.width_bound left (omega (arith, c.if-count-lt32.false))
    (omega (arith, c.requires.has_room.well, c.requires.width_bound))
    (c.put_word.ensures ∙ ap (λ (n : ℕ). take p.at s ++ word_bytes (n / 2 ^ left % 2 ^ 32)) all))

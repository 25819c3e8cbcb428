-- `sheet_writer::write::put_angle` meets its contract: the rounds are packed after the angle, where they are carried.
use Rattle.std.specs.Prelude.{ℕ, ◌+◌, Bool, List, [], ◌∷◌, ◌≡◌}
use Rattle.vocabulary.specs.{sym, subst, arith}
use Rattle.sheet_layout.specs.Layout.{rounds_bits}
use Rattle.sheet_writer.specs.{declared.packer.Packer.Packer, Packer.HasRoom, Packer.Packs, Parts.field_from, Parts.angle_fields}
use Rattle.sheet_writer.proofs.PackerLaws.{packs_then, room_after_one, holding}
use Rattle.sheet_writer.proofs.write.put_angle.Goals as goal

-- as the branch was told
module _ {carried told : Bool} (e : carried ≡ told) {a : List ℕ} {p : Packer} where
  room_of : HasRoom a p (23 + rounds_bits carried) → HasRoom a p (23 + rounds_bits told)
  room_of room = subst (λ (b : Bool). HasRoom a p (23 + rounds_bits b)) e room

  packs_of : {b : List ℕ} {q : Packer} (angle rounds : ℕ) → Packs a p (angle_fields told angle rounds) b q → Packs a p (angle_fields carried angle rounds) b q
  packs_of {b} {q} angle rounds packs = subst (λ (t : Bool). Packs a p (angle_fields t angle rounds) b q) (sym e) packs

pub put-requires : goal.put-requires
put-requires c =
    record {
      has_room = room_after_one 23 _ 8 c.put-with_angle.ensures c.put-with_angle.auto.sheet (room_of c.if-carried.true c.requires);
      width_bound = omega arith;
    }

pub returns-then-carried : goal.returns-then-carried
returns-then-carried c =
    let a = c.args in
    packs_of c.if-carried.true a.angle a.rounds
    (packs_then a.sheet.now a.start (field_from 23 a.angle ∷ []) (field_from 8 a.rounds ∷ []) c.put-with_angle.ensures (holding 8 c.from.ensures c.put.ensures))

pub returns : goal.returns
returns c =
    let a = c.args in
    packs_of c.if-carried.false a.angle a.rounds c.put-with_angle.ensures

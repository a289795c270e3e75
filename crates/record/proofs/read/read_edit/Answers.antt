use Rattle.std.proofs.Common.{◌≡◌, length, ◌∙◌, w32, SFits, rules}
use Rattle.std.proofs.lemmas.Int.{to_z-of_z}
use Rattle.record.proofs.Bytes.{edit_law}
use Rattle.record.proofs.read.read_edit.Goals as goal

pub returns : goal.returns
returns c =
    let long : length c.args.fields.now ≡ 18 = search rules in
    let fr : SFits w32 c.from_le_bytes-2.result = search rules in
    let fs : SFits w32 c.from_le_bytes-3.result = search rules in
    let fa : SFits w32 c.from_le_bytes-4.result = search rules in
    let fq : SFits w32 c.from_le_bytes-5.result = search rules in
    edit_law c.args.fields.now _ _ _ _ _ long c.type_inv.fields
    c.from_le_bytes.ensures
    (to_z-of_z w32 _ fr ∙ c.from_le_bytes-2.ensures)
    (to_z-of_z w32 _ fs ∙ c.from_le_bytes-3.ensures)
    (to_z-of_z w32 _ fa ∙ c.from_le_bytes-4.ensures)
    (to_z-of_z w32 _ fq ∙ c.from_le_bytes-5.ensures)

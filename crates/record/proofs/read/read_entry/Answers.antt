use Rattle.std.proofs.Common.{◌≤◌, length, rules}
use Rattle.record.proofs.Bytes.{entry_law}
use Rattle.record.proofs.read.read_entry.Goals as goal

pub returns : goal.returns
returns c =
    let long : 4 ≤ length c.args.fields.now = search rules in
    entry_law c.args.fields.now _ _ long c.type_inv.fields c.from_le_bytes-term.ensures c.in_ok-edit.ensures

use Rattle.std.proofs.Common.{◌≤◌, length, rules}
use Rattle.record.proofs.Bytes.{head_law}
use Rattle.record.proofs.read.take_head.Goals as goal

pub returns : goal.returns
returns c =
    let long : 4 ≤ length c.args.bytes.now = search rules in
    head_law c.args.bytes.now _ _ long c.type_inv.bytes c.from_le_bytes-length.ensures c.from_le_bytes-kind.ensures

use Rattle.std.proofs.Common.{◌≡◌, length, rules}
use Rattle.record.proofs.Bytes.{ballot_law}
use Rattle.record.proofs.read.read_ballot.Goals as goal

pub returns : goal.returns
returns c =
    let long : length c.args.fields.now ≡ 6 = search rules in
    ballot_law c.args.fields.now _ _ long c.type_inv.fields c.from_le_bytes-term.ensures c.from_le_bytes-vote.ensures

use Rattle.std.proofs.Common.{◌≡◌, ◌+◌, ◌*◌, length}
use Rattle.image.specs.Images.{held}
use Rattle.image.proofs.Reading.{Behind}
use Rattle.image.proofs.parsing.read_entries.Given as goal

abbrev pub invariant-loop-rest : goal.invariant-loop-rest
invariant-loop-rest l =
    (l.offset ≡ 10 + 26 * l.contents.len) × (l.contents.ballot ≡ l.ballot)
    × Behind l.ballot.term l.bytes (held l.contents) l.contents.len l.low l.offset l.rest

abbrev pub decreases-loop-rest : goal.decreases-loop-rest
decreases-loop-rest l = length l.rest

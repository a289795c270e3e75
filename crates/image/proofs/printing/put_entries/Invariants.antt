use Rattle.std.proofs.Common.{◌≡◌, ◌+◌, ◌*◌, ◌++◌, take, drop}
use Rattle.image.specs.Images.{entries_in}
use Rattle.image.proofs.printing.put_entries.Given as goal

abbrev pub invariant-loop-place : goal.invariant-loop-place
invariant-loop-place l = l.buffer ≡ (take 10 l.initial.buffer ++ entries_in (take l.place l.entries)) ++ drop (10 + 26 * l.place) l.initial.buffer

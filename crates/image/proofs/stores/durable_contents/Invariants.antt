use Rattle.std.proofs.Common.{◌≡◌, take}
use Rattle.record.specs.Format.{BallotFits}
use Rattle.image.specs.Images.{held}
use Rattle.image.specs.Stores.{ballot_of}
use Rattle.image.specs.Laws.{AllFit}
use Rattle.image.proofs.stores.durable_contents.Given as goal

abbrev pub invariant-loop-n : goal.invariant-loop-n
invariant-loop-n g l =
    (l.contents.ballot ≡ ballot_of (g.S.Store.meaning l.store)) × (l.contents.len ≡ l.n)
    × (held l.contents ≡ take l.n (g.S.Store.meaning l.store).entries) × BallotFits l.contents.ballot × AllFit (held l.contents)

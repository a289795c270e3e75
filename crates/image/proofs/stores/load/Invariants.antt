use Rattle.std.proofs.Common.{◌≡◌, take}
use Rattle.image.proofs.Loads.{filled}
use Rattle.image.proofs.stores.load.Given as goal

abbrev pub invariant-loop-entry : goal.invariant-loop-entry
invariant-loop-entry g l = g.S.Store.meaning l.store ≡ filled l.contents.ballot (take l.entry-index l.entry-items)

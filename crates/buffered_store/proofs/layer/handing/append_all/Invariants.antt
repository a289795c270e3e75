use Rattle.std.proofs.Common.{◌≡◌, take}
use Rattle.buffered_store.specs.Layers.{extended}
use Rattle.buffered_store.proofs.layer.handing.append_all.Given as goal

abbrev pub invariant-loop-entry : goal.invariant-loop-entry
invariant-loop-entry g l = g.S.Store.meaning l.below ≡ extended (take l.entry-index l.entries) (g.S.Store.meaning l.initial.below)

-- A buffered store as a layer and as a store, by what the store below means.
use Rattle.std.specs.Prelude.{vec_items}
use Rattle.store.specs.Stores.{StoreState}
use Rattle.store.specs.declared.Store.{Ghosts}
use Rattle.buffered_store.specs.Layers.{Layer, whole}
use Rattle.buffered_store.specs.declared.layer.BufferedStore.{BufferedStore}

module _ {S : Type 0} (b : Ghosts S) where
  abbrev pub layered : BufferedStore S → Layer
  layered s = record { below = b.meaning s.below; own = vec_items s.own.items }

  abbrev pub buffered : BufferedStore S → StoreState
  buffered s = whole (layered s)

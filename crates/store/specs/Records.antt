-- What a record store means.
use Rattle.std.specs.Prelude.{vec_items}
use Rattle.store.specs.Stores.{StoreState}
use Rattle.store.specs.declared.record_store.RecordStore.{RecordStore}

abbrev pub recorded : RecordStore → StoreState
recorded s = record { term = s.term; vote = s.vote; entries = vec_items s.entries.items; durable = s.durable }

-- What a byte store means.
use Rattle.store.specs.Stores.{StoreState}
use Rattle.byte_store.specs.declared.memory.ByteStore.{ByteStore}
use Rattle.byte_store.specs.Bytes.{meant}

abbrev pub kept : ByteStore → StoreState
kept s = meant s.len s.durable s.bytes

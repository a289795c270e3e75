use Rattle.std.proofs.Common.{sym}
use Rattle.byte_store.specs.Meaning.{length_entries}
use Rattle.byte_store.proofs.memory.calls.ByteStoreStore.len.Goals as goal

pub returns : goal.returns
returns c = sym (length_entries c.args.self.now.len c.args.self.now.bytes)

use Rattle.byte_store.specs.Steps.{sync_law}
use Rattle.byte_store.proofs.memory.calls.ByteStoreStore.sync.Goals as goal

pub returns : goal.returns
returns c = sync_law c.args.self.now.len c.args.self.now.durable c.args.self.now.bytes

use Rattle.std.proofs.Common.{arith}
use Rattle.byte_store.specs.Steps.{crash_law, kept_law}
use Rattle.byte_store.proofs.memory.calls.ByteStoreStore.crash.Goals as goal

pub returns : goal.returns
returns c =
    let s = c.args.self.now in
    record {
      crashed = crash_law s.len s.durable s.bytes _ (omega arith) (omega arith);
      exact = kept_law s.len s.durable s.bytes c.args.wish c.min.result c.min.ensures;
    }

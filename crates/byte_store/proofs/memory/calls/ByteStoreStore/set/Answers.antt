use Rattle.std.proofs.Common.{arith}
use Rattle.byte_store.specs.Steps.{opened_law, placed_stays, set_law}
use Rattle.byte_store.proofs.memory.calls.ByteStoreStore.set.Goals as goal

pub invariant_of-self : goal.invariant_of-self
invariant_of-self c =
    let s = c.args.self.now in
    record {
      held = s.held;
      few = s.few;
      opened = opened_law s.bytes _ _ (omega arith, omega arith) c.put_ballot.ensures;
      placed = placed_stays s.bytes _ _ (omega arith, omega arith) c.put_ballot.ensures s.len s.placed;
    }

pub returns : goal.returns
returns c =
    let s = c.args.self.now in
    set_law s.bytes c.put_ballot.new.bytes _ (omega arith, omega arith) c.put_ballot.ensures s.len s.durable

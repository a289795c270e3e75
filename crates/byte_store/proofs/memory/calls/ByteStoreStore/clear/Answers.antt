use Rattle.std.proofs.Common.{arith}
use Rattle.byte_store.specs.Steps.{opened_law, no_ballot, clear_law}
use Rattle.byte_store.proofs.memory.calls.ByteStoreStore.clear.Goals as goal

pub invariant_of-self : goal.invariant_of-self
invariant_of-self c =
    record {
      held = omega arith;
      few = omega arith;
      opened = opened_law c.args.self.now.bytes _ _ (omega arith, omega arith) c.put_ballot.ensures;
      placed = λ k h. absurd (omega arith);
    }

pub returns : goal.returns
returns c = clear_law c.args.self.now.bytes c.put_ballot.new.bytes _ (omega arith, omega arith) c.put_ballot.ensures (no_ballot _ (omega arith) (omega arith))

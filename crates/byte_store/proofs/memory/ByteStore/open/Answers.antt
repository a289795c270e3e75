use Rattle.std.proofs.Common.{replicate, arith}
use Rattle.byte_store.specs.Steps.{opened_law, no_ballot, clear_law}
use Rattle.byte_store.proofs.memory.ByteStore.open.Goals as goal

pub invariant_of-result : goal.invariant_of-result
invariant_of-result c =
    record {
      held = omega arith;
      few = omega arith;
      opened = opened_law (replicate 1674 0) _ _ (omega arith, omega arith) c.put_ballot.ensures;
      placed = λ k h. absurd (omega arith);
    }

pub returns : goal.returns
returns c = clear_law (replicate 1674 0) c.put_ballot.new.bytes _ (omega arith, omega arith) c.put_ballot.ensures (no_ballot _ (omega arith) (omega arith))

use Rattle.std.proofs.Common.{◌+◌, ◌*◌, ◌≤◌, length, arith, rules}
use Rattle.record.specs.Format.{EntryFits}
use Rattle.byte_store.specs.Steps.{full_law, opened_stays, placed_more, append_law}
use Rattle.byte_store.proofs.memory.calls.ByteStoreStore.append.Goals as goal
use Rattle.byte_store.proofs.memory.calls.ByteStoreStore.append.Goals.{After-put_entry}

fits : (c : After-put_entry) → EntryFits c.args.entry
fits c = (search rules, search rules, search rules, search rules, search rules, search rules)

long : (c : After-put_entry) → 10 + 26 * c.args.self.now.len ≤ length c.args.self.now.bytes
long c = search rules

pub returns-then-self-ge-MAX_ENTRIES : goal.returns-then-self-ge-MAX_ENTRIES
returns-then-self-ge-MAX_ENTRIES c =
    let s = c.args.self.now in
    let p = full_law s.len s.durable s.bytes c.args.entry c.if-self-ge-MAX_ENTRIES.true in
    record { answer = p.0; after = p.1 }

pub invariant_of-self : goal.invariant_of-self
invariant_of-self c =
    let s = c.args.self.now in
    record {
      held = omega arith;
      few = omega arith;
      opened = opened_stays s.bytes _ _ s.len c.args.entry (fits c) (long c) c.put_entry.ensures s.opened;
      placed = placed_more s.bytes _ _ s.len c.args.entry (fits c) (long c) c.put_entry.ensures s.placed;
    }

pub returns : goal.returns
returns c =
    let s = c.args.self.now in
    let w = (goal.at.returns c).After-put_entry in
    let p = append_law s.bytes c.put_entry.new.bytes _ s.len c.args.entry (fits w) (long w) c.put_entry.ensures s.durable c.if-self-ge-MAX_ENTRIES.false in
    record { answer = p.0; after = p.1 }

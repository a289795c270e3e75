use Rattle.std.proofs.Common.{◌-◌, sym, ◌∙◌, arith, rules}
use Rattle.store.proofs.Entries.{entry_read, entry_none}
use Rattle.byte_store.specs.Memories.{kept}
use Rattle.byte_store.specs.Meaning.{length_entries, entry_at}
use Rattle.byte_store.proofs.memory.calls.ByteStoreStore.entry.Goals as goal

pub returns-then-n-self : goal.returns-then-n-self
returns-then-n-self c =
    let s = c.args.self.now in
    let l = length_entries s.len s.bytes in
    entry_read (kept s) c.args.n c.read_entry.result (omega arith) (omega arith)
    (c.read_entry.ensures ∙ sym (entry_at s.len s.bytes (c.args.n - 1) c.read_entry.result (omega arith)))

pub returns-else-n-ge1 : goal.returns-else-n-ge1
returns-else-n-ge1 c =
    let s = c.args.self.now in
    let l = length_entries s.len s.bytes in
    entry_none (kept s) c.args.n (λ some. search rules)

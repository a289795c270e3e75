use Rattle.std.proofs.Common.{ap, ◌∙◌}
use Rattle.byte_store.specs.Steps.{past_law, cut_law}
use Rattle.byte_store.specs.Bytes.{meant}
use Rattle.byte_store.proofs.memory.calls.ByteStoreStore.truncate.Goals as goal

pub returns-then-n-self : goal.returns-then-n-self
returns-then-n-self c =
    let s = c.args.self.now in
    let p = past_law s.len s.durable s.bytes c.args.n c.if-n-self.true in
    record { answer = p.0; after = p.1 }

pub returns : goal.returns
returns c =
    let s = c.args.self.now in
    let p = cut_law s.len s.durable s.bytes c.args.n c.if-n-self.false in
    record { answer = p.0; after = ap (λ d. meant c.args.n d s.bytes) c.min-self.ensures ∙ p.1 }

use Rattle.std.proofs.Common.{take, ap, ◌∙◌}
use Rattle.byte_store.specs.Meaning.{image_said}
use Rattle.byte_store.proofs.memory.ByteStore.bytes.Goals as goal

pub returns : goal.returns
returns c =
    let s = c.args.self.now in
    ap (λ k. take k s.bytes) c.start_of.ensures ∙ image_said s.len s.bytes s.opened s.placed

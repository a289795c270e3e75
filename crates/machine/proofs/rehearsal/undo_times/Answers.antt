use Rattle.std.proofs.Common.{ap, ◌∙◌, add-one}
use Rattle.machine.specs.States.{undone}
use Rattle.machine.proofs.rehearsal.undo_times.Goals as goal

pub loop-i-preserved : goal.loop-i-preserved
loop-i-preserved g c = rw add-one (c.undo.ensures.after ∙ ap undone c.loop-i.invariant)

use Rattle.std.proofs.Common.{◌≡◌, ◌+◌, length, take}
use Rattle.machine.specs.States.{applied_all}
use Rattle.machine.proofs.rehearsal.apply_all.Given as goal

abbrev pub invariant-loop-edit : goal.invariant-loop-edit
invariant-loop-edit g l = let m = g.M.StateMachine in
    (m.states l.machine ≡ applied_all m.opening m.next (take l.edit-index l.edits) (m.states l.initial.machine))
    × (length (m.states l.machine) ≡ length (m.states l.initial.machine) + l.applied)

use Rattle.std.proofs.Common.{◌≡◌}
use Rattle.machine.specs.States.{undone_times}
use Rattle.machine.proofs.rehearsal.undo_times.Given as goal

abbrev pub invariant-loop-i : goal.invariant-loop-i
invariant-loop-i g l = g.M.StateMachine.states l.machine ≡ undone_times l._i (g.M.StateMachine.states l.initial.machine)

use Rattle.std.proofs.Common.{◌≡◌}
use Rattle.protocol.specs.Rules.{settled_times}
use Rattle.server.proofs.following.settle_times.Given as goal

abbrev pub invariant-loop-i : goal.invariant-loop-i
invariant-loop-i g l = g.M.StateMachine.states l.machine ≡ settled_times l._i (g.M.StateMachine.states l.initial.machine)

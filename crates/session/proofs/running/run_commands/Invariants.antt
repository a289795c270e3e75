use Rattle.std.proofs.Common.{◌≤◌, length, take, vec_items, vec_capacity}
use Rattle.server.specs.Turns.{kind_of}
use Rattle.cluster.specs.Meaning.{cluster_of}
use Rattle.session.specs.Ran.{Ran}
use Rattle.session.proofs.running.run_commands.Given as goal

abbrev pub invariant-loop-command : goal.invariant-loop-command
invariant-loop-command g l =
    let K = kind_of g.M.StateMachine in
    (length l.commands ≤ vec_capacity l.answers)
    × Ran K (take l.command-index l.commands) (vec_items l.answers) (cluster_of l.cluster)

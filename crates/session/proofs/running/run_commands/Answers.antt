use Rattle.std.proofs.Common.{vec_items, arith}
use Rattle.session.proofs.Runs.{ran_none, ran_more}
use Rattle.session.proofs.running.run_commands.Goals as goal

pub loop-command-init : goal.loop-command-init
loop-command-init g c =
    let v = c.in_ok-answers.ensures in
    (v.capacity, ran_none _ _ _ v.items c.in_ok-cluster.ensures)

pub loop-command-preserved : goal.loop-command-preserved
loop-command-preserved g c =
    let i = c.loop-command in (
      omega (arith, i.invariant.0, c.push_reserved.ensures.capacity),
      ran_more _ c.args.commands.now i.command-index _ c.loop-command-test.true (vec_items i.answers) _ c.make.result _ _
          c.push_reserved.ensures.items i.invariant.1 c.make.ensures,
    )

use Rattle.std.proofs.Common.{sym, ◌∙◌}
use Rattle.cluster.proofs.Networks.{lose_none, lose_done}
use Rattle.cluster.proofs.state.Cluster.lose.Goals as goal

pub returns-then-not-has : goal.returns-then-not-has
returns-then-not-has g c = lose_none c.args.self.now c.args.position (sym c.has.ensures ∙ c.if-not-has.true)

pub returns : goal.returns
returns g c = lose_done c.args.self.now c.args.position (sym c.has.ensures ∙ c.if-not-has.false) _ c.take_out.ensures

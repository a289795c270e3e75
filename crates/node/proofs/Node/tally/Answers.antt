use Rattle.std.proofs.Common.{sym}
use Rattle.node.proofs.Tallies.{tally_yes, tally_no}
use Rattle.node.proofs.Node.tally.Goals as goal

pub returns-then-two_of : goal.returns-then-two_of
returns-then-two_of g c = tally_yes c.args.from _ _ _ c.count.ensures c.win.ensures (sym c.if-two_of.ensures)

pub returns-else-two_of : goal.returns-else-two_of
returns-else-two_of g c = tally_no c.args.from _ _ c.count.ensures (sym c.if-two_of.ensures)

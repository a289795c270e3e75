use Rattle.std.proofs.Common.{sym, refl, ap, ◌∙◌}
use Rattle.protocol.specs.Calls.{close, said, word, close_answer}
use Rattle.cluster.proofs.Links.{nobody, asked}
use Rattle.cluster.proofs.state.Cluster.close.Goals as goal

pub returns-in-Ok-clause-calls : goal.returns-in-Ok-clause-calls
returns-in-Ok-clause-calls g c =
    asked c.args.self.now c.in-Ok.me _ c.index.result.now c.place_of.ensures.is c.index.ensures c.args.server (sym c.in-Ok.is ∙ c.try_from.ensures)
    (close c.args.server c.args.ticket.proposed.number c.args.ticket.proposed.term) _ (λ s ms. said word (close_answer s c.args.ticket.proposed.number c.args.ticket.proposed.term)) (ap (said word) c.close.ensures.says) refl refl refl

pub returns-in-Err-clause-calls : goal.returns-in-Err-clause-calls
returns-in-Err-clause-calls g c =
    nobody c.args.self.now (close c.args.server c.args.ticket.proposed.number c.args.ticket.proposed.term) _ (sym c.in-Err.is ∙ c.try_from.ensures) _ refl

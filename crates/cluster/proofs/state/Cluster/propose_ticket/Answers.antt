use Rattle.std.proofs.Common.{◌≡◌, Err, sym, refl, ap, ◌∙◌, rules}
use Rattle.refusal.specs.Numbers.{number_of}
use Rattle.server.specs.Tickets.{told_ticket}
use Rattle.protocol.specs.Rules.{proposes}
use Rattle.protocol.specs.Calls.{propose, said, ticket, propose_answer}
use Rattle.cluster.proofs.Links.{nobody, on_one}
use Rattle.cluster.proofs.state.Cluster.propose_ticket.Goals as goal

pub returns-in_err-me : goal.returns-in_err-me
returns-in_err-me g c =
    let t : told_ticket c.from_residual.result ≡ Err (number_of c.in_err-me.field-0.0) = search rules in
    nobody c.args.self.now (propose c.args.server c.args.edit) _ (sym c.in_err-me.was ∙ c.try_from.ensures) _ (ap (said (λ x. ticket x.0 x.1)) t)

pub returns : goal.returns
returns g c =
    on_one c.args.self.now c.in_ok-me.me _ c.index_mut.result.now c.place_of.ensures.is c.index_mut.ensures.value c.args.server (sym c.in_ok-me.was ∙ c.try_from.ensures)
    (propose c.args.server c.args.edit) _ (λ s. said (λ x. ticket x.0 x.1) (propose_answer s)) (λ r. proposes c.args.edit) _ (ap (said (λ x. ticket x.0 x.1)) c.propose_ticket.ensures.says) c.propose_ticket.ensures.turns refl refl refl

use Rattle.std.proofs.Common.{◌≡◌, Err, sym, ap, ◌∙◌, rules}
use Rattle.refusal.specs.Numbers.{told, number_of}
use Rattle.protocol.specs.Calls.{send, said, lost}
use Rattle.cluster.proofs.Links.{nobody}
use Rattle.cluster.proofs.Sends.{send_nowhere, send_refused, send_done}
use Rattle.cluster.proofs.state.Cluster.send.Goals as goal

pub returns-in_err-me : goal.returns-in_err-me
returns-in_err-me g c =
    let t : told c.from_residual.result ≡ Err (number_of c.in_err-me.field-0.0) = search rules in
    nobody c.args.self.now (send c.args.server c.args.receiver) _ (sym c.in_err-me.was ∙ c.try_from.ensures) _ (ap (said lost) t)

pub returns-in_err-to : goal.returns-in_err-to
returns-in_err-to g c =
    let t : told c.from_residual-in_err-to.result ≡ Err (number_of c.in_err-to.field-0.0) = search rules in
    send_nowhere c.args.self.now c.args.server c.args.receiver c.in_ok-me.me (sym c.in_ok-me.was ∙ c.try_from.ensures) _ (sym c.in_err-to.was ∙ c.try_from-2.ensures) _ (ap (said lost) t)

pub returns-in_err-message : goal.returns-in_err-message
returns-in_err-message g c =
    let t : told c.from_residual-in_err-message.result ≡ Err (number_of c.in_err-message.field-0.0) = search rules in
    send_refused c.args.self.now c.args.server c.args.receiver c.in_ok-me.me (sym c.in_ok-me.was ∙ c.try_from.ensures) c.in_ok-to.to (sym c.in_ok-to.was ∙ c.try_from-2.ensures) _ c.index.result.now c.place_of.ensures.is c.index.ensures
    _ _ (ap (said lost) t) (ap told (sym c.in_err-message.was) ∙ c.request.ensures)

pub returns : goal.returns
returns g c =
    send_done c.args.self.now c.args.server c.args.receiver c.in_ok-me.me (sym c.in_ok-me.was ∙ c.try_from.ensures) c.in_ok-to.to (sym c.in_ok-to.was ∙ c.try_from-2.ensures) _ c.index.result.now c.place_of.ensures.is c.index.ensures
    c.in_ok-message.message (ap told (sym c.in_ok-message.was) ∙ c.request.ensures) _ _ c.post.ensures.messages c.post.ensures.lost

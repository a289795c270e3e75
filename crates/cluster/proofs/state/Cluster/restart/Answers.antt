use Rattle.std.proofs.Common.{◌≡◌, Err, sym, refl, ap, ◌∙◌, rules}
use Rattle.refusal.specs.Numbers.{told, number_of}
use Rattle.protocol.specs.Rules.{restarts}
use Rattle.protocol.specs.Calls.{restart, said, done, restart_answer}
use Rattle.cluster.proofs.Links.{nobody, on_one}
use Rattle.cluster.proofs.state.Cluster.restart.Goals as goal

pub returns-in_err-me : goal.returns-in_err-me
returns-in_err-me g c =
    let t : told c.from_residual.result ≡ Err (number_of c.in_err-me.field-0.0) = search rules in
    nobody c.args.self.now (restart c.args.server) _ (sym c.in_err-me.was ∙ c.try_from.ensures) _ (ap (said (λ _. done)) t)

pub returns : goal.returns
returns g c =
    on_one c.args.self.now c.in_ok-me.me _ c.index_mut.result.now c.place_of.ensures.is c.index_mut.ensures.value c.args.server (sym c.in_ok-me.was ∙ c.try_from.ensures)
    (restart c.args.server) _ (λ s. said (λ _. done) (restart_answer s)) (λ r. restarts) _ (ap (said (λ _. done)) c.restart.ensures.says) c.restart.ensures.turns refl refl refl

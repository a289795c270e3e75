use Rattle.std.proofs.Common.{◌≡◌, Err, sym, refl, ap, ◌∙◌, rules}
use Rattle.refusal.specs.Numbers.{told, number_of}
use Rattle.protocol.specs.Rules.{fails}
use Rattle.protocol.specs.Calls.{outage, said, keeps, outage_answer}
use Rattle.server.specs.Answers.{kept_by}
use Rattle.cluster.proofs.Links.{nobody, on_one, may_keep_by}
use Rattle.cluster.proofs.state.Cluster.outage.Goals as goal

pub returns-in_err-me : goal.returns-in_err-me
returns-in_err-me g c =
    let t : told c.from_residual.result ≡ Err (number_of c.in_err-me.field-0.0) = search rules in
    nobody c.args.self.now (outage c.args.server (kept_by c.from_residual.result)) _ (sym c.in_err-me.was ∙ c.try_from.ensures) _ (ap (said keeps) t)

pub returns : goal.returns
returns g c =
    let n = kept_by c.outage.result in
    on_one c.args.self.now c.in_ok-me.me _ c.index_mut.result.now c.place_of.ensures.is c.index_mut.ensures.value c.args.server (sym c.in_ok-me.was ∙ c.try_from.ensures)
    (outage c.args.server n) _ (λ s. said keeps (outage_answer s n)) (λ r. fails n) _ (ap (said keeps) c.outage.ensures.says) c.outage.ensures.turns refl refl
    (may_keep_by c.args.self.now c.in_ok-me.me _ c.index_mut.result.now c.place_of.ensures.is c.index_mut.ensures.value c.args.server (sym c.in_ok-me.was ∙ c.try_from.ensures) n c.outage.ensures.may)

use Rattle.std.proofs.Common.{◌≡◌, Err, sym, refl, ap, ◌∙◌, rules}
use Rattle.refusal.specs.Numbers.{told, number_of}
use Rattle.protocol.specs.Calls.{standing, said, word, standing_answer}
use Rattle.cluster.proofs.Links.{nobody, asked}
use Rattle.cluster.proofs.state.Cluster.standing.Goals as goal

pub returns-in_err-me : goal.returns-in_err-me
returns-in_err-me g c =
    let t : told c.from_residual.result ≡ Err (number_of c.in_err-me.field-0.0) = search rules in
    nobody c.args.self.now (standing c.args.server c.args.number c.args.term) _ (sym c.in_err-me.was ∙ c.try_from.ensures) _ (ap (said word) t)

pub returns : goal.returns
returns g c =
    asked c.args.self.now c.in_ok-me.me _ c.index.result.now c.place_of.ensures.is c.index.ensures c.args.server (sym c.in_ok-me.was ∙ c.try_from.ensures)
    (standing c.args.server c.args.number c.args.term) _ (λ s ms. said word (standing_answer s c.args.number c.args.term)) (ap (said word) c.standing.ensures) refl refl refl

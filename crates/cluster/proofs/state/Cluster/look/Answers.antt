use Rattle.std.proofs.Common.{◌≡◌, Err, sym, refl, ap, ◌∙◌, rules}
use Rattle.refusal.specs.Numbers.{told, number_of}
use Rattle.protocol.specs.Calls.{look, said, cell, look_answer}
use Rattle.server.specs.Turns.{kind_of, state_of, states_of}
use Rattle.cluster.proofs.Links.{nobody, asked}
use Rattle.cluster.proofs.state.Cluster.look.Goals as goal

pub returns-in_err-me : goal.returns-in_err-me
returns-in_err-me g c =
    let t : told c.from_residual.result ≡ Err (number_of c.in_err-me.field-0.0) = search rules in
    nobody c.args.self.now (look c.args.server c.args.row c.args.size) _ (sym c.in_err-me.was ∙ c.try_from.ensures) _ (ap (said cell) t)

pub returns : goal.returns
returns g c =
    let K = kind_of g.M.StateMachine in
    let x = c.index.result.now in
    let e : told c.look.result ≡ look_answer K (state_of g.S.Store x) (states_of g.M.StateMachine x) c.args.row c.args.size = search rules in
    asked c.args.self.now c.in_ok-me.me _ x c.place_of.ensures.is c.index.ensures c.args.server (sym c.in_ok-me.was ∙ c.try_from.ensures)
    (look c.args.server c.args.row c.args.size) _ (λ s ms. said cell (look_answer K s ms c.args.row c.args.size)) (ap (said cell) e) refl refl refl

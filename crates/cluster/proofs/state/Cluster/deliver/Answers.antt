use Rattle.std.proofs.Common.{◌≡◌, false, cond, vec_items, Some, None, Err, refl, ap, rules}
use Rattle.refusal.specs.Numbers.{told}
use Rattle.protocol.specs.Calls.{said, lost, has_message, message_at}
use Rattle.cluster.proofs.Deliveries.{deliver_none, deliver_down, deliver_done}
use Rattle.cluster.proofs.state.Cluster.deliver.Goals as goal

pub returns-in_err-message : goal.returns-in_err-message
returns-in_err-message g c =
    let t : told c.from_residual.result ≡ Err 5 = search rules in
    let absent : has_message c.args.position (vec_items c.args.self.now.network.messages.items) ≡ false = search rules in
    deliver_none c.args.self.now c.args.position c.args.keep absent _ (ap (said lost) t)

pub returns-then-not-receiver : goal.returns-then-not-receiver
returns-then-not-receiver g c =
    let p = vec_items c.args.self.now.network.messages.items in
    let found : Some c.in_ok-message.message ≡ cond (has_message c.args.position p) (Some (message_at c.args.position p)) None = search rules in
    deliver_down c.args.self.now c.args.position c.args.keep c.in_ok-message.message found _ c.index_mut-receiver.result.now c.place_of.ensures.is c.index_mut-receiver.ensures.value _ refl c.if-not-receiver.true

pub returns : goal.returns
returns g c =
    let p = vec_items c.args.self.now.network.messages.items in
    let found : Some c.in_ok-message.message ≡ cond (has_message c.args.position p) (Some (message_at c.args.position p)) None = search rules in
    deliver_done c.args.self.now c.args.position c.args.keep c.in_ok-message.message found _ c.index_mut-receiver.result.now c.place_of.ensures.is c.index_mut-receiver.ensures.value
    _ c.hear-reply.result _ _ _ c.if-not-receiver.false c.hear-reply.ensures.turns c.hear-reply.ensures.says c.take_out.ensures c.post_some.ensures.messages c.post_some.ensures.lost

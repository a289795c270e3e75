use Rattle.std.proofs.Common.{ap, rules}
use Rattle.text.specs.Words.{Number, EditIn}
use Rattle.text.specs.Numerals.{number_visible}
use Rattle.text.proofs.Splits.{after}
use Rattle.command.specs.declared.types.Command.TheVariants.{Deliver, Propose, Send, Outage, Standing, Look}
use Rattle.command.specs.Grammar.{Says}
use Rattle.command.proofs.Sole.{deliver, propose, send, outage, standing, look, named, found, mapped, mapped_two, mapped_three}
use Rattle.command.proofs.read.named.Goals as goal

pub returns-in_err-server-in-propose : goal.returns-in_err-server-in-propose
returns-in_err-server-in-propose c = rw c.from_residual.ensures (λ x w.
    let f = found propose c.args.name.now c.args.rest.now (ap named c.in-propose.is) x w in
    c.in_err-server-in-propose.ensures f.0 f.3.1 (f.3.0, f.3.2, f.3.3))

pub returns-in_ok-server-in-propose : goal.returns-in_ok-server-in-propose
returns-in_ok-server-in-propose c =
    let name = c.args.name.now in
    let rest = c.args.rest.now in
    let s = c.in_ok-server-in-propose in
    mapped (λ e. EditIn e s.rest.now) (Says name rest) (λ e. Propose s.server e) _ c.plain_edit_in.result c.map-in-propose.result c.plain_edit_in.ensures c.map-in-propose.ensures.cases
    (λ e k h. search rules) (λ e t. (c.in-propose.is, (s.ensures.0, s.rest.now, s.ensures.1, s.ensures.2, t)))
    (λ x w. let f = found propose name rest (ap named c.in-propose.is) x w in (f.1, after Number number_visible s.server f.0 (EditIn f.1) rest s.rest.now s.ensures f.3))

pub returns-in-deliver : goal.returns-in-deliver
returns-in-deliver c =
    let name = c.args.name.now in
    let rest = c.args.rest.now in
    mapped_two name rest (λ a b. Deliver a b) _ c.two.result c.map-in-deliver.result c.two.ensures c.map-in-deliver.ensures.cases
    (λ x k h. search rules) (λ a b t. (c.in-deliver.is, t)) (found deliver name rest (ap named c.in-deliver.is))

pub returns-in-send : goal.returns-in-send
returns-in-send c =
    let name = c.args.name.now in
    let rest = c.args.rest.now in
    mapped_two name rest (λ a b. Send a b) _ c.two-in-send.result c.map-in-send.result c.two-in-send.ensures c.map-in-send.ensures.cases
    (λ x k h. search rules) (λ a b t. (c.in-send.is, t)) (found send name rest (ap named c.in-send.is))

pub returns-in-outage : goal.returns-in-outage
returns-in-outage c =
    let name = c.args.name.now in
    let rest = c.args.rest.now in
    mapped_two name rest (λ a b. Outage a b) _ c.two-in-outage.result c.map-in-outage.result c.two-in-outage.ensures c.map-in-outage.ensures.cases
    (λ x k h. search rules) (λ a b t. (c.in-outage.is, t)) (found outage name rest (ap named c.in-outage.is))

pub returns-in-standing : goal.returns-in-standing
returns-in-standing c =
    let name = c.args.name.now in
    let rest = c.args.rest.now in
    mapped_three name rest (λ a b d. Standing a b d) _ c.three.result c.map-in-standing.result c.three.ensures c.map-in-standing.ensures.cases
    (λ x k h. search rules) (λ a b d t. (c.in-standing.is, t)) (found standing name rest (ap named c.in-standing.is))

pub returns-in-look : goal.returns-in-look
returns-in-look c =
    let name = c.args.name.now in
    let rest = c.args.rest.now in
    mapped_three name rest (λ a b d. Look a b d) _ c.three-in-look.result c.map-in-look.result c.three-in-look.ensures c.map-in-look.ensures.cases
    (λ x k h. search rules) (λ a b d t. (c.in-look.is, t)) (found look name rest (ap named c.in-look.is))

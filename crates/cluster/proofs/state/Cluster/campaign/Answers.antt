use Rattle.std.proofs.Common.{◌≡◌, Err, sym, ap, ◌∙◌, rules}
use Rattle.refusal.specs.Numbers.{told, number_of}
use Rattle.protocol.specs.Calls.{campaign, said, lost}
use Rattle.cluster.proofs.Links.{nobody}
use Rattle.cluster.proofs.Campaigns.{campaign_refused, campaign_done}
use Rattle.cluster.proofs.state.Cluster.campaign.Goals as goal

pub returns-in_err-me : goal.returns-in_err-me
returns-in_err-me g c =
    let t : told c.from_residual.result ≡ Err (number_of c.in_err-me.field-0.0) = search rules in
    nobody c.args.self.now (campaign c.args.server) _ (sym c.in_err-me.was ∙ c.try_from.ensures) _ (ap (said lost) t)

pub returns-in_err-low : goal.returns-in_err-low
returns-in_err-low g c =
    let t : told c.from_residual-in_err-low.result ≡ Err (number_of c.in_err-low.field-0.0) = search rules in
    campaign_refused c.args.self.now c.in_ok-me.me _ c.index_mut.result.now c.place_of.ensures.is c.index_mut.ensures.value c.args.server (sym c.in_ok-me.was ∙ c.try_from.ensures) _ c.campaign.ensures.turns
    _ _ (ap (said lost) t) (ap told (sym c.in_err-low.was) ∙ c.campaign.ensures.says)

pub returns : goal.returns
returns g c =
    campaign_done c.args.self.now c.in_ok-me.me _ c.index_mut.result.now c.place_of.ensures.is c.index_mut.ensures.value c.args.server (sym c.in_ok-me.was ∙ c.try_from.ensures) _ c.campaign.ensures.turns
    c.in_ok-low.low c.in_ok-low.high (ap told (sym c.in_ok-low.was) ∙ c.campaign.ensures.says) _ _ _ _
    c.post-first.ensures.messages c.post-first.ensures.lost c.post-second.ensures.messages c.post-second.ensures.lost

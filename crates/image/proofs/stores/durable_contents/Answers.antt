use Rattle.std.proofs.Common.{◌≡◌, ℕ, [], ◌∷◌, ◌++◌, take, sym, ap, ◌∙◌, subst, arith, rules}
use Rattle.record.specs.Format.{BallotFits, EntryFits}
use Rattle.image.specs.Laws.{AllFit}
use Rattle.image.proofs.Loads.{taken_more, all_fit_more}
use Rattle.image.proofs.stores.durable_contents.Goals as goal

pub loop-n-preserved : goal.loop-n-preserved
loop-n-preserved g c =
    let s = g.met.S.Store.sound c.args.store.now in
    let inv = c.loop-n.invariant in
    let m = g.S.Store.meaning c.args.store.now in
    let e = taken_more m c.loop-n.n c.entry.result (omega (arith, s.held, c.durable-n-end.ensures)) c.entry.ensures c.unwrap.result c.unwrap.ensures in
    let f : EntryFits c.unwrap.result = (search rules, search rules, search rules, search rules, search rules, search rules) in (
      c.push.ensures.ballot ∙ inv.0,
      omega (arith, c.push.ensures.len, inv.1),
      c.push.ensures.entries ∙ ap (λ l. l ++ (c.unwrap.result ∷ [])) inv.2 ∙ sym e,
      subst BallotFits (sym c.push.ensures.ballot) inv.3,
      subst AllFit (sym c.push.ensures.entries) (all_fit_more _ _ inv.4 f),
    )

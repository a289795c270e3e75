use Rattle.std.proofs.Common.{◌≤◌, take, ap, sym, ◌∙◌, subst, ◌-◌, vec_items, arith}
use Rattle.std.proofs.lemmas.Bool.{le-leb, cond-true}
use Rattle.store.specs.Stores.{reaches, cut}
use Rattle.buffered_store.specs.Layers.{extended}
use Rattle.buffered_store.specs.Extending.{cut_added, extended_sound}
use Rattle.buffered_store.proofs.layer.calls.BufferedStoreStore.truncate.Goals as goal

pub returns-then-n-below-clause-after : goal.returns-then-n-below-clause-after
returns-then-n-below-clause-after g c =
    let n = c.args.n in
    let m = g.S.Store.meaning c.args.self.now.below in
    let own = vec_items c.args.self.now.own.items in
    let sound = g.met.S.Store.sound c.args.self.now.below in
    let within = subst (λ k. c.args.n ≤ k) c.len.ensures c.if-n-len.false in
    let above = subst (λ k. k ≤ c.args.n) c.len-below.ensures c.if-n-below.true in
    ap (λ xs. extended xs m) (c.truncate.ensures.items ∙ ap (λ k. take (n - k) own) c.len-below.ensures)
    ∙ cut_added m own n sound above (omega (arith, within, (extended_sound m own sound).few))
    ∙ sym (cond-true (reaches n (extended own m)) (cut n (extended own m)) (extended own m) (le-leb _ _ within))

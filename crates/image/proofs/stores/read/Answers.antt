use Rattle.std.proofs.Common.{◌≡◌, true, Ok, Err, sym, refl, ap, ◌∙◌}
use Rattle.std.proofs.lemmas.Result.{err_from_is_err_and}
use Rattle.std.proofs.lemmas.Bool.{both_ways}
use Rattle.image.specs.Stores.{is_empty, ReadInto}
use Rattle.image.proofs.Loads.{read_back, accepted}
use Rattle.image.proofs.stores.read.Goals as goal

pub returns-in_err-contents : goal.returns-in_err-contents
returns-in_err-contents g c =
    let p = err_from_is_err_and c.from_residual.result c.from_residual.ensures.1 in
    let h : is_empty (g.S.Store.meaning c.args.store.now) ≡ true = sym c.if-not-is_empty.ensures in
    let a : ReadInto (g.S.Store.meaning c.args.store.now) c.args.bytes.now c.from_residual.result (g.S.Store.meaning c.args.store.now)
    = record { not_empty = λ t. absurd (both_ways _ t h); empty = λ _. (_, c.in_err-contents.ensures, p.1 ∙ ap Err p.2, refl) } in
    record { answer = a; back = read_back _ _ _ _ a; accepted = accepted _ _ _ _ a }

pub returns : goal.returns
returns g c =
    let h : is_empty (g.S.Store.meaning c.args.store.now) ≡ true = sym c.if-not-is_empty.ensures in
    let a : ReadInto (g.S.Store.meaning c.args.store.now) c.args.bytes.now (Ok tt) (g.S.Store.meaning c.load.new.store)
    = record { not_empty = λ t. absurd (both_ways _ t h); empty = λ _. (_, c.in_ok-contents.ensures, refl, c.load.ensures) } in
    record { answer = a; back = read_back _ _ _ _ a; accepted = accepted _ _ _ _ a }

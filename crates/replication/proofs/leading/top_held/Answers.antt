use Rattle.std.proofs.Common.{◌≡◌, rules, length, ap, sym, ◌∙◌}
use Rattle.std.proofs.lemmas.Iterator.Search.{find_from_yields_List}
use Rattle.std.proofs.lemmas.Iterator.Adapters.{option_map_id}
use Rattle.std.specs.Option.{option_map}
use Rattle.std.specs.List.{find}
use Rattle.node.specs.Meaning.{server_of}
use Rattle.replication.proofs.Tops.{may, after, downward, yields_down, top_found}
use Rattle.replication.proofs.leading.top_held.Goals as goal

pub returns : goal.returns
returns g c =
    let s = server_of g.S.Store c.args.node.now in
    let j = c.args.me in
    let n = length s.log in
    let start : c.rev.result.iter.start ≡ 0 = cc in
    let end : c.rev.result.iter.end ≡ n = cc in
    let found : option_map (λ x. x) c.find.result ≡ find (may j s) (downward n) =
    find_from_yields_List (may j s) _ _ _ c.find.ensures.ran (yields_down n c.rev.result start end) (λ x b q k. search rules) in
    let e : c.map_or.result ≡ after c.find.result = search rules in
    e ∙ (ap after (sym (option_map_id c.find.result) ∙ found) ∙ top_found j s n)

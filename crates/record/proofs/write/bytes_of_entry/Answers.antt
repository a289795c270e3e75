use Rattle.std.proofs.Common.{[], ◌∷◌, get_or, ◌∙◌, w32, SFits, rules}
use Rattle.record.specs.Format.{two, four, word, encode}
use Rattle.record.proofs.Bytes.{stored}
use Rattle.record.proofs.write.bytes_of_entry.Goals as goal

pub returns : goal.returns
unfolding encode two four word
returns c =
    let t = c.to_le_bytes.ensures in
    let k = c.to_le_bytes-2.ensures in
    let fr : SFits w32 c.args.entry.edit.row = search rules in
    let fs : SFits w32 c.args.entry.edit.size = search rules in
    let fa : SFits w32 c.args.entry.edit.a = search rules in
    let fq : SFits w32 c.args.entry.edit.q = search rules in
    let r = c.to_le_bytes-3.ensures ∙ stored c.args.entry.edit.row fr in
    let s = c.to_le_bytes-4.ensures ∙ stored c.args.entry.edit.size fs in
    let a = c.to_le_bytes-5.ensures ∙ stored c.args.entry.edit.a fa in
    let q = c.to_le_bytes-6.ensures ∙ stored c.args.entry.edit.q fq in
    λ i. 22 ∷ 0 ∷ 2 ∷ 0 ∷ get_or (t i) 0 0 ∷ get_or (t i) 1 0 ∷ get_or (t i) 2 0 ∷ get_or (t i) 3 0 ∷ get_or (k i) 0 0 ∷ get_or (k i) 1 0 ∷
    get_or (r i) 0 0 ∷ get_or (r i) 1 0 ∷ get_or (r i) 2 0 ∷ get_or (r i) 3 0 ∷ get_or (s i) 0 0 ∷ get_or (s i) 1 0 ∷ get_or (s i) 2 0 ∷ get_or (s i) 3 0 ∷
    get_or (a i) 0 0 ∷ get_or (a i) 1 0 ∷ get_or (a i) 2 0 ∷ get_or (a i) 3 0 ∷ get_or (q i) 0 0 ∷ get_or (q i) 1 0 ∷ get_or (q i) 2 0 ∷ get_or (q i) 3 0 ∷ []

use Rattle.std.proofs.Common.{[], ◌∷◌, get_or}
use Rattle.record.specs.Format.{two, four, encode}
use Rattle.record.proofs.write.bytes_of_ballot.Goals as goal

pub returns : goal.returns
unfolding encode two four
returns c =
    let t = c.to_le_bytes.ensures in
    let v = c.to_le_bytes-2.ensures in
    λ i. 6 ∷ 0 ∷ 1 ∷ 0 ∷ get_or (t i) 0 0 ∷ get_or (t i) 1 0 ∷ get_or (t i) 2 0 ∷ get_or (t i) 3 0 ∷ get_or (v i) 0 0 ∷ get_or (v i) 1 0 ∷ []

-- What the parts of the bytes are after a record was written.
use Rattle.std.specs.Prelude.{◌≡◌, ℕ, ◌+◌, ◌*◌, ◌<◌, ◌≤◌, List, ◌++◌, length, take, drop}
use Rattle.std.proofs.Math.Path.{refl, sym, ap}
use Rattle.std.proofs.Common.{◌∙◌, arith}
use Rattle.std.proofs.lemmas.List.{take_at, drop_at, take-append-le, take-take, drop-take, length-take-le}
use Rattle.std.proofs.lemmas.Slice.{drop-append-drop}
use Rattle.record.specs.declared.entry.Entry.{Entry}
use Rattle.record.specs.declared.kinds.Ballot.{Ballot}
use Rattle.record.specs.declared.kinds.Record.TheVariants.{Opening, Logged}
use Rattle.record.specs.Format.{two, four, word, encode}
use Rattle.byte_store.specs.Bytes.{opening_part, place_part}

-- the opening record
module _ (bs out : List ℕ) (b : Ballot) (e : out ≡ encode (Opening b) ++ drop 10 bs) where
  pub opening_new : opening_part out ≡ encode (Opening b)
  unfolding opening_part encode two four
  opening_new = ap (take 10) e ∙ take_at (encode (Opening b)) (drop 10 bs) 10 refl

  pub place_stays : (k : ℕ) → place_part k out ≡ place_part k bs
  unfolding place_part encode two four
  place_stays k = ap (take 26) (ap (drop (10 + 26 * k)) e ∙ drop-append-drop 10 bs (encode (Opening b)) (10 + 26 * k) (omega arith) refl)

-- the record of an entry, in the place n
module _ (bs out rest : List ℕ) (n : ℕ) (x : Entry) (long : 10 + 26 * n ≤ length bs) (e : out ≡ take (10 + 26 * n) bs ++ (encode (Logged x) ++ rest)) where
  front : (k : ℕ) → k ≤ 10 + 26 * n → take k out ≡ take k bs
  front k h =
      ap (take k) e
      ∙ take-append-le k (take (10 + 26 * n) bs) (encode (Logged x) ++ rest) (omega (arith, length-take-le (10 + 26 * n) bs long))
      ∙ take-take k (10 + 26 * n) bs h

  pub opening_stays : opening_part out ≡ opening_part bs
  unfolding opening_part
  opening_stays = front 10 (omega arith)

  pub place_before : (k : ℕ) → k < n → place_part k out ≡ place_part k bs
  unfolding place_part
  place_before k h =
      sym (drop-take (10 + 26 * k) 26 out)
      ∙ ap (drop (10 + 26 * k)) (front (10 + 26 * k + 26) (omega arith))
      ∙ drop-take (10 + 26 * k) 26 bs

  pub place_new : place_part n out ≡ encode (Logged x)
  unfolding place_part encode two four word
  place_new =
      ap (take 26) (ap (drop (10 + 26 * n)) e ∙ drop_at (take (10 + 26 * n) bs) (encode (Logged x) ++ rest) (10 + 26 * n) (length-take-le (10 + 26 * n) bs long))
      ∙ take_at (encode (Logged x)) rest 26 refl

-- A record that is read back is the one that the bytes say.
use Rattle.std.proofs.Common.{◌≡◌, ℕ, ◌+◌, ◌*◌, true, List, [], ◌++◌, take, drop, is_ok, Ok, Err, Result, sym, refl, ap, ◌∙◌, append-nil, Bor}
use Rattle.std.proofs.lemmas.List.{take-append-drop}
use Rattle.record.specs.declared.kinds.Record.{Record}
use Rattle.record.specs.declared.kinds.Record.TheVariants.{Opening, Logged}
use Rattle.record.specs.declared.fault.RecordFault.{RecordFault}
use Rattle.record.specs.Format.{encode, answered}
use Rattle.record.proofs.Bytes.{Bytes, bytes_take, bytes_drop}
use Rattle.byte_store.specs.Bytes.{opening_part, place_part, ballot_in, entry_in, Opened, PlacedAt}

pub opened_front : (bs : List ℕ) → Opened bs → bs ≡ encode (Opening (ballot_in (opening_part bs))) ++ drop 10 bs
unfolding opening_part
opened_front bs o = sym (take-append-drop 10 bs) ∙ ap (λ l. l ++ drop 10 bs) o

pub placed_part : (bs : List ℕ) (k at n : ℕ) → at ≡ 10 + 26 * k → n ≡ 26 → PlacedAt k bs → take n (drop at bs) ≡ encode (Logged (entry_in (place_part k bs))) ++ []
unfolding place_part
placed_part bs k at n e h p = (λ i. take (h i) (drop (e i) bs)) ∙ p ∙ sym (append-nil _)

pub bytes_opening : (bs : List ℕ) → Bytes bs → Bytes (opening_part bs)
unfolding opening_part
bytes_opening bs f = bytes_take 10 bs f

pub bytes_place : (bs : List ℕ) (k : ℕ) → Bytes bs → Bytes (place_part k bs)
unfolding place_part
bytes_place bs k f = bytes_take 26 (drop (10 + 26 * k) bs) (bytes_drop (10 + 26 * k) bs f)

-- what the answer of the reader is, by the answer with the bytes of its rest
pub answered_ok : (r : Result (Record × Bor (List ℕ)) RecordFault) (p : Record × List ℕ) → answered r ≡ Ok p → is_ok r ≡ true
answered_ok (Ok q) p e = refl
answered_ok (Err f) p e = cc

pub answered_record : (r : Result (Record × Bor (List ℕ)) RecordFault) (q : Record × Bor (List ℕ)) (x : Record) (rest : List ℕ) → answered r ≡ Ok (x, rest) → r ≡ Ok q → q.0 ≡ x
answered_record r q x rest e h =
    let s : ◌≡◌ {A = Result (Record × List ℕ) RecordFault} (Ok (q.0, q.1.now)) (Ok (x, rest)) = sym (ap answered h) ∙ e in
    let t : ◌≡◌ {A = Record × List ℕ} (q.0, q.1.now) (x, rest) = cc in
    ap (λ (p : Record × List ℕ). p.0) t

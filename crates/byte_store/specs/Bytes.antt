-- The bytes of a store, and what they say: an opening record in the first 10, and behind it places of 26 bytes, each for the record of one entry.
use Rattle.std.specs.Prelude.{◌≡◌, ℕ, ◌+◌, ◌*◌, ◌<◌, List, map, take, drop, ℤ, slice_index}
use Rattle.std.specs.Int.{w32}
use Rattle.std.proofs.Common.{to_z}
use Rattle.std.specs.List.{range_with_len}
use Rattle.record.specs.declared.entry.Entry.{Entry}
use Rattle.record.specs.declared.kinds.Ballot.{Ballot}
use Rattle.record.specs.declared.kinds.Record.TheVariants.{Opening, Logged}
use Rattle.record.specs.Format.{encode}
use Rattle.store.specs.Stores.{StoreState}

-- the number in two bytes from an offset on and in four, the low one first; the signed word in four, in two's complement
abbrev pub two_at : ℕ → List ℕ → ℕ
two_at k bs = slice_index bs k + slice_index bs (k + 1) * 256

abbrev pub four_at : ℕ → List ℕ → ℕ
four_at k bs = slice_index bs k + slice_index bs (k + 1) * 256 + slice_index bs (k + 2) * 65536 + slice_index bs (k + 3) * 16777216

abbrev pub word_at : ℕ → List ℕ → ℤ
word_at k bs = to_z w32 (four_at k bs)

-- What the bytes of a record say: its fields stand behind the four bytes of its length and kind.
unfoldable pub ballot_in : List ℕ → Ballot
ballot_in bs = record { term = four_at 4 bs; vote = two_at 8 bs }

unfoldable pub entry_in : List ℕ → Entry
entry_in bs =
    record {
      term = four_at 4 bs;
      edit = record { kind = two_at 8 bs; row = word_at 10 bs; size = word_at 14 bs; a = word_at 18 bs; q = word_at 22 bs };
    }

-- Which bytes belong to the opening record, and which to the place k, from 0.
unfoldable pub opening_part : List ℕ → List ℕ
opening_part bs = take 10 bs

unfoldable pub place_part : ℕ → List ℕ → List ℕ
place_part k bs = take 26 (drop (10 + 26 * k) bs)

-- the entries in the first n places, in order
unfoldable pub entries_in : ℕ → List ℕ → List Entry
entries_in n bs = map (λ k. entry_in (place_part k bs)) (range_with_len 0 n)

-- The bytes are the records of what they say: at the front, in a place, and in each of the first n places.
abbrev pub Opened : List ℕ → Type 0
Opened bs = opening_part bs ≡ encode (Opening (ballot_in (opening_part bs)))

abbrev pub PlacedAt : ℕ → List ℕ → Type 0
PlacedAt k bs = place_part k bs ≡ encode (Logged (entry_in (place_part k bs)))

abbrev pub Placed : ℕ → List ℕ → Type 0
Placed n bs = (k : ℕ) → k < n → PlacedAt k bs

-- What a store with n entries means: term, vote and entries are what its bytes say.
abbrev pub meant : (n durable : ℕ) → List ℕ → StoreState
meant n durable bs =
    record {
      term = (ballot_in (opening_part bs)).term;
      vote = (ballot_in (opening_part bs)).vote;
      entries = entries_in n bs;
      durable = durable;
    }

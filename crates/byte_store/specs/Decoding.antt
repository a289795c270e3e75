-- What the bytes of a record say is that record; and what any bytes say has room in a record.
use Rattle.std.specs.Prelude.{◌≡◌, ℕ, ◌+◌, ◌^◌, ◌<◌, List, ℤ, FitsSigned}
use Rattle.std.proofs.Common.{ap, ◌∙◌, arith, Fits, to_z, of_z}
use Rattle.std.specs.Int.{w32}
use Rattle.std.proofs.Math.Facts.{Fits-of_z, sfits_to_z}
use Rattle.std.proofs.lemmas.Int.{to_z-of_z}
use Rattle.record.specs.declared.entry.Entry.{Entry}
use Rattle.record.specs.declared.kinds.Ballot.{Ballot}
use Rattle.record.specs.declared.kinds.Record.TheVariants.{Opening, Logged}
use Rattle.record.specs.Format.{two, four, word, encode, BallotFits, EntryFits}
use Rattle.record.proofs.Bytes.{Bytes, of_two, of_four, quad_at}
use Rattle.byte_store.specs.Bytes.{two_at, four_at, word_at, ballot_in, entry_in}

pub ballot_said : (b : Ballot) → BallotFits b → ballot_in (encode (Opening b)) ≡ b
unfolding ballot_in encode two four
ballot_said b f = λ i. record { term = of_four b.term f.0 i; vote = of_two b.vote f.1 i }

word_said : (z : ℤ) → FitsSigned w32 z → to_z w32 (quad_at (word z) 0) ≡ z
unfolding word four
word_said z f = ap (to_z w32) (of_four (of_z w32 z) (omega (arith, Fits-of_z f))) ∙ to_z-of_z w32 z f

pub entry_said : (e : Entry) → EntryFits e → entry_in (encode (Logged e)) ≡ e
unfolding entry_in encode two four word
entry_said e f =
    λ i. record {
      term = of_four e.term f.0 i;
      edit = record {
        kind = of_two e.edit.kind f.1 i;
        row = word_said e.edit.row f.2 i;
        size = word_said e.edit.size f.3 i;
        a = word_said e.edit.a f.4 i;
        q = word_said e.edit.q f.5 i;
      };
    }

module _ (bs : List ℕ) (f : Bytes bs) where
  two_fits : (k : ℕ) → two_at k bs < 2 ^ 16
  two_fits k = omega (arith, f k, f (k + 1))

  four_fits : (k : ℕ) → four_at k bs < 2 ^ 32
  four_fits k = omega (arith, f k, f (k + 1), f (k + 2), f (k + 3))

  word_fits : (k : ℕ) → FitsSigned w32 (word_at k bs)
  word_fits k = let h : Fits w32 (four_at k bs) = omega (arith, four_fits k) in sfits_to_z h

  pub ballot_fits : BallotFits (ballot_in bs)
  unfolding ballot_in
  ballot_fits = (four_fits 4, two_fits 8)

  pub entry_fits : EntryFits (entry_in bs)
  unfolding entry_in
  entry_fits = (four_fits 4, two_fits 8, word_fits 10, word_fits 14, word_fits 18, word_fits 22)

-- What each call leaves, by the bytes and the two counts.
use Rattle.std.specs.Prelude.{◌≡◌, ℕ, ◌+◌, ◌-◌, ◌*◌, ◌<◌, ◌≤◌, min, true, false, List, [], ◌∷◌, ◌++◌, length, take, drop, Ok, Err, nat_le, nat_lt}
use Rattle.std.proofs.Common.{sym, ap, subst, ◌∙◌, arith, below_more}
use Rattle.std.proofs.Math.Nat.{min_comm}
use Rattle.std.proofs.lemmas.Bool.{lt-ltb, le-ltb, le-leb, lt-leb, cond-true, cond-false}
use Rattle.record.specs.declared.entry.Entry.{Entry}
use Rattle.record.specs.declared.kinds.Ballot.{Ballot}
use Rattle.record.specs.declared.kinds.Record.TheVariants.{Opening, Logged}
use Rattle.record.specs.Format.{encode, BallotFits, EntryFits}
use Rattle.store.specs.Stores.{Sound, Crashed, cleared, voted, append_answer, appended, truncate_answer, truncated, synced, kept_by}
use Rattle.byte_store.specs.Bytes.{opening_part, place_part, ballot_in, entry_in, entries_in, Opened, PlacedAt, Placed, meant}
use Rattle.byte_store.specs.Decoding.{ballot_said, entry_said}
use Rattle.byte_store.specs.Writing.{opening_new, place_stays, opening_stays, place_before, place_new}
use Rattle.byte_store.specs.Meaning.{length_entries, take_entries, entries_more, same_entries}

-- the same bytes in a place are the record of what they say there
placed_as : (k : ℕ) (bs out : List ℕ) → place_part k out ≡ place_part k bs → PlacedAt k bs → PlacedAt k out
placed_as k bs out e p = subst (λ l. l ≡ encode (Logged (entry_in l))) (sym e) p

-- the bytes as they are
module _ (n d : ℕ) (bs : List ℕ) where
  pub sound_law : d ≤ n → n ≤ 64 → Sound (meant n d bs)
  sound_law held few = record { held = omega (arith, length_entries n bs); few = omega (arith, length_entries n bs) }

  pub sync_law : meant n n bs ≡ synced (meant n d bs)
  sync_law = ap (λ k. meant n k bs) (sym (length_entries n bs))

  pub full_law : (x : Entry) → 64 ≤ n → (Err 15 ≡ append_answer (meant n d bs)) × (meant n d bs ≡ appended x (meant n d bs))
  full_law x h =
      let t : nat_lt (length (entries_in n bs)) 64 ≡ false = le-ltb _ _ (omega (arith, length_entries n bs)) in
      (sym (cond-false _ _ _ t), sym (cond-false _ _ _ t))

  pub past_law : (k : ℕ) → n < k → (Err 15 ≡ truncate_answer k (meant n d bs)) × (meant n d bs ≡ truncated k (meant n d bs))
  past_law k h =
      let t : nat_le k (length (entries_in n bs)) ≡ false = lt-leb _ _ (omega (arith, length_entries n bs)) in
      (sym (cond-false _ _ _ t), sym (cond-false _ _ _ t))

  pub cut_law : (k : ℕ) → k ≤ n → (Ok tt ≡ truncate_answer k (meant n d bs)) × (meant k (min d k) bs ≡ truncated k (meant n d bs))
  cut_law k h =
      let t : nat_le k (length (entries_in n bs)) ≡ true = le-leb _ _ (omega (arith, length_entries n bs)) in (
        sym (cond-true _ _ _ t),
        (λ i. record { term = (ballot_in (opening_part bs)).term; vote = (ballot_in (opening_part bs)).vote; entries = sym (take_entries n bs k h) i; durable = min_comm d k i })
            ∙ sym (cond-true _ _ _ t),
      )

  pub crash_law : (c : ℕ) → d ≤ c → c ≤ n → Crashed (meant n d bs) c (meant c c bs)
  crash_law c low high =
      record {
        low = low;
        high = omega (arith, length_entries n bs);
        left = λ i. record { term = (ballot_in (opening_part bs)).term; vote = (ballot_in (opening_part bs)).vote; entries = sym (take_entries n bs c high) i; durable = c };
      }

  pub kept_law : (wish r : ℕ) → r ≡ min wish (n - d) → d + r ≡ kept_by wish (meant n d bs)
  kept_law wish r e = ap (λ k. d + k) (e ∙ ap (λ k. min wish (k - d)) (sym (length_entries n bs)))

-- the ballot of no term and no vote, by its two numbers
pub no_ballot : (b : Ballot) → b.term ≡ 0 → b.vote ≡ 0 → b ≡ record { term = 0; vote = 0 }
no_ballot b term vote = λ i. record { term = term i; vote = vote i }

-- after a write of the opening record
module _ (bs out : List ℕ) (b : Ballot) (fits : BallotFits b) (e : out ≡ encode (Opening b) ++ drop 10 bs) where
  said_ballot : ballot_in (opening_part out) ≡ b
  said_ballot = ap ballot_in (opening_new bs out b e) ∙ ballot_said b fits

  pub opened_law : Opened out
  opened_law = opening_new bs out b e ∙ ap (λ x. encode (Opening x)) (sym said_ballot)

  pub placed_stays : (n : ℕ) → Placed n bs → Placed n out
  placed_stays n p k h = placed_as k bs out (place_stays bs out b e k) (p k h)

  pub set_law : (n d : ℕ) → meant n d out ≡ voted b.term b.vote (meant n d bs)
  set_law n d =
      λ i. record { term = (said_ballot i).term; vote = (said_ballot i).vote; entries = same_entries n bs out (λ k h. place_stays bs out b e k) i; durable = d }

  pub clear_law : b ≡ record { term = 0; vote = 0 } → meant 0 0 out ≡ cleared
  unfolding entries_in
  clear_law none = let s = said_ballot ∙ none in λ i. record { term = (s i).term; vote = (s i).vote; entries = []; durable = 0 }

-- after a write of an entry's record behind the others
module _ (bs out rest : List ℕ) (n : ℕ) (x : Entry) (fits : EntryFits x) (long : 10 + 26 * n ≤ length bs) (e : out ≡ take (10 + 26 * n) bs ++ (encode (Logged x) ++ rest)) where
  said_entry : entry_in (place_part n out) ≡ x
  said_entry = ap entry_in (place_new bs out rest n x long e) ∙ entry_said x fits

  pub opened_stays : Opened bs → Opened out
  opened_stays o = subst (λ l. l ≡ encode (Opening (ballot_in l))) (sym (opening_stays bs out rest n x long e)) o

  pub placed_more : Placed n bs → Placed (n + 1) out
  placed_more p =
      below_more (λ k. PlacedAt k out) n (λ k h. placed_as k bs out (place_before bs out rest n x long e k h) (p k h))
      (place_new bs out rest n x long e ∙ ap (λ y. encode (Logged y)) (sym said_entry))

  pub append_law : (d : ℕ) → n < 64 → (Ok tt ≡ append_answer (meant n d bs)) × (meant (n + 1) d out ≡ appended x (meant n d bs))
  append_law d h =
      let t : nat_lt (length (entries_in n bs)) 64 ≡ true = lt-ltb _ _ (omega (arith, length_entries n bs)) in
      let o = opening_stays bs out rest n x long e in
      let more : entries_in (n + 1) out ≡ entries_in n bs ++ (x ∷ []) =
      entries_more n out ∙ (λ i. same_entries n bs out (place_before bs out rest n x long e) i ++ (said_entry i ∷ [])) in (
        sym (cond-true _ _ _ t),
        (λ i. record { term = (ballot_in (o i)).term; vote = (ballot_in (o i)).vote; entries = more i; durable = d }) ∙ sym (cond-true _ _ _ t),
      )

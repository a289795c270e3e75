-- What the bytes say of the record that wrote them.
use Rattle.std.proofs.Common.{◌≡◌, ℕ, ◌^◌, ◌<◌, List, ◌++◌, get_or, drop, ℤ, Some, None, Ok, Err, Option, Result, sym, ap, ◌∙◌, append_assoc, arith, w32, SFits, to_z, of_z}
use mir.Facts.{Fits-of_z}
use Rattle.std.proofs.lemmas.Int.{to_z-of_z}
use Rattle.record.specs.declared.entry.Entry.{Entry}
use Rattle.record.specs.declared.kinds.Ballot.{Ballot}
use Rattle.record.specs.declared.kinds.Record.{Record}
use Rattle.record.specs.declared.kinds.Record.TheVariants.{Opening, Logged}
use Rattle.record.specs.declared.fault.RecordFault.{RecordFault}
use Rattle.record.specs.Format.{two, four, word, ballot_fields, entry_fields, encode, fault_at, BallotFits, EntryFits, RecordRead, ReadsBack}
use Rattle.record.specs.Laws.{Unambiguous, NeverRefused, AnswerFits, Determined}
use Rattle.record.proofs.Bytes.{of_two, of_four, pair_at, quad_at}
use Rattle.record.proofs.Cuts.{enough}

two_back : (m n : ℕ) (x y : List ℕ) → m < 2 ^ 16 → n < 2 ^ 16 → two m ++ x ≡ two n ++ y → (m ≡ n) × (x ≡ y)
unfolding two
two_back m n x y hm hn e = (sym (of_two m hm) ∙ ap (λ l. pair_at l 0) e ∙ of_two n hn, ap (drop 2) e)

four_back : (m n : ℕ) (x y : List ℕ) → m < 2 ^ 32 → n < 2 ^ 32 → four m ++ x ≡ four n ++ y → (m ≡ n) × (x ≡ y)
unfolding four
four_back m n x y hm hn e = (sym (of_four m hm) ∙ ap (λ l. quad_at l 0) e ∙ of_four n hn, ap (drop 4) e)

word_back : (m n : ℤ) (x y : List ℕ) → SFits w32 m → SFits w32 n → word m ++ x ≡ word n ++ y → (m ≡ n) × (x ≡ y)
unfolding word
word_back m n x y hm hn e =
    let p = four_back (of_z w32 m) (of_z w32 n) x y (omega (arith, Fits-of_z hm)) (omega (arith, Fits-of_z hn)) e in
    (sym (to_z-of_z w32 m hm) ∙ ap (to_z w32) p.0 ∙ to_z-of_z w32 n hn, p.1)

ballot_back : (f g : Ballot) (x y : List ℕ) → BallotFits f → BallotFits g → ballot_fields f ++ x ≡ ballot_fields g ++ y → (f ≡ g) × (x ≡ y)
ballot_back f g x y hf hg e =
    let d = sym (append_assoc (four f.term) (two f.vote) x) ∙ e ∙ append_assoc (four g.term) (two g.vote) y in
    let p = four_back f.term g.term (two f.vote ++ x) (two g.vote ++ y) hf.0 hg.0 d in
    let q = two_back f.vote g.vote x y hf.1 hg.1 p.1 in
    ((λ i. record { term = p.0 i; vote = q.0 i }), q.1)

entry_back : (f g : Entry) (x y : List ℕ) → EntryFits f → EntryFits g → entry_fields f ++ x ≡ entry_fields g ++ y → (f ≡ g) × (x ≡ y)
entry_back f g x y hf hg e =
    let d = sym (flat f x) ∙ e ∙ flat g y in
    let p = four_back _ _ _ _ hf.0 hg.0 d in
    let k = two_back _ _ _ _ hf.1 hg.1 p.1 in
    let r = word_back _ _ _ _ hf.2 hg.2 k.1 in
    let s = word_back _ _ _ _ hf.3 hg.3 r.1 in
    let a = word_back _ _ _ _ hf.4 hg.4 s.1 in
    let q = word_back _ _ _ _ hf.5 hg.5 a.1 in
    ((λ i. record { term = p.0 i; edit = record { kind = k.0 i; row = r.0 i; size = s.0 i; a = a.0 i; q = q.0 i } }), q.1)
  where
    flat : (f : Entry) (x : List ℕ) → entry_fields f ++ x ≡ four f.term ++ (two f.edit.kind ++ (word f.edit.row ++ (word f.edit.size ++ (word f.edit.a ++ (word f.edit.q ++ x)))))
    flat f x = simp append_assoc

pub unambiguous : Unambiguous
unfolding encode two
unambiguous (Opening f) (Opening g) x y hf hg e =
    let p = ballot_back f g x y hf hg (ap (drop 4) e) in
    (ap Opening p.0, p.1)
unambiguous (Opening f) (Logged g) x y hf hg e = let z : ◌≡◌ {A = ℕ} 6 22 = ap (λ l. get_or l 0 0) e in absurd (omega arith)
unambiguous (Logged f) (Opening g) x y hf hg e = let z : ◌≡◌ {A = ℕ} 22 6 = ap (λ l. get_or l 0 0) e in absurd (omega arith)
unambiguous (Logged f) (Logged g) x y hf hg e =
    let p = entry_back f g x y hf hg (ap (drop 4) e) in
    (ap Logged p.0, p.1)

pub never_refused : NeverRefused
unfolding encode two four word fault_at
never_refused (Opening f) rest off = simp (enough (encode (Opening f) ++ rest) (omega arith))
never_refused (Logged f) rest off = simp (enough (encode (Logged f) ++ rest) (omega arith))

pub determined : Determined
determined bs off (Ok p) (Ok q) hp hq ep eq =
    let u = unambiguous p.0 q.0 p.1 q.1 hp hq (sym ep ∙ eq) in
    λ i. Ok (u.0 i, u.1 i)
determined bs off (Ok p) (Err e) hp hq ep eq =
    let z : None ≡ Some e = sym (never_refused p.0 p.1 off) ∙ ap (fault_at off) (sym ep) ∙ eq in
    cc
determined bs off (Err e) (Ok p) hp hq ep eq =
    let z : None ≡ Some e = sym (never_refused p.0 p.1 off) ∙ ap (fault_at off) (sym eq) ∙ ep in
    cc
determined bs off (Err d) (Err e) hp hq ep eq =
    let z : ◌≡◌ {A = Option RecordFault} (Some d) (Some e) = sym ep ∙ eq in
    let s : d ≡ e = cc in
    ap Err s

-- an answer to bytes that begin with a record is that record and the rest
pub reads_back : (bs : List ℕ) (off : ℕ) (r : Result (Record × List ℕ) RecordFault) → AnswerFits r → RecordRead bs off r → ReadsBack bs r
reads_back bs off r h a x rest hx e = determined bs off r (Ok (x, rest)) h hx a e

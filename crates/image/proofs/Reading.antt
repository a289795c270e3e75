-- One step of reading: at most one thing can come of it.
use Rattle.std.proofs.Common.{◌≡◌, ℕ, ◌+◌, ◌<◌, ◌≤◌, true, false, List, [], ◌∷◌, ◌++◌, length, Some, None, Ok, Err, Option, Result, sym, refl, ap, ◌∙◌, subst, inl, inr, append_assoc, append-nil, arith}
use Rattle.std.proofs.lemmas.Bool.{le-leb, lt-leb, cond-true, cond-false}
use Rattle.record.specs.declared.entry.Entry.{Entry}
use Rattle.record.specs.declared.kinds.Ballot.{Ballot}
use Rattle.record.specs.declared.kinds.Record.{Record}
use Rattle.record.specs.declared.kinds.Record.TheVariants.{Opening, Logged}
use Rattle.record.specs.Format.{two, four, word, encode, fault_at}
use Rattle.record.proofs.Back.{unambiguous, never_refused}
use Rattle.image.specs.declared.fault.ImageFault.{ImageFault}
use Rattle.image.specs.declared.fault.ImageFault.TheVariants.{InRecord, TooMany, OutOfRange}
use Rattle.image.specs.Rules.{term_in_range, entry_fault}
use Rattle.image.proofs.Cases.{some_back, some_none}
use Rattle.image.specs.Images.{AtFault, Right, Reads, ends, wrong, right, after}

module _ (rule : Record → Option ImageFault) (off : ℕ) (bs : List ℕ) where
  pub one_fault : (d e : ImageFault) → AtFault rule off bs d → AtFault rule off bs e → d ≡ e
  one_fault d e (inl (f, p, q)) (inl (g, s, t)) = q ∙ ap InRecord (some_back (sym p ∙ s)) ∙ sym t
  one_fault d e (inl (f, p, q)) (inr (r, rest, h, s, t)) = absurd (some_none (sym p ∙ ap (fault_at off) s ∙ never_refused r rest off))
  one_fault d e (inr (r, rest, h, s, t)) (inl (f, p, q)) = absurd (some_none (sym p ∙ ap (fault_at off) s ∙ never_refused r rest off))
  one_fault d e (inr (r, rest, h, s, t)) (inr (r', rest', h', s', t')) =
      let u = unambiguous r r' rest rest' h h' (sym s ∙ s') in
      some_back (sym t ∙ ap rule u.0 ∙ t')

  pub not_both : (e : ImageFault) (r : Record) (rest : List ℕ) → AtFault rule off bs e → Right rule bs r rest → ⊥
  not_both e r rest (inl (f, p, q)) (h, s, t) = some_none (sym p ∙ ap (fault_at off) s ∙ never_refused r rest off)
  not_both e r rest (inr (r', rest', h', s', t')) (h, s, t) =
      let u = unambiguous r r' rest rest' h h' (sym s ∙ s') in
      some_none (sym t' ∙ ap rule (sym u.0) ∙ t)

  pub one_record : (q r : Record) (x y : List ℕ) → Right rule bs q x → Right rule bs r y → (q ≡ r) × (x ≡ y)
  one_record q r x y (h, s, t) (h', s', t') = unambiguous q r x y h h' (sym s ∙ s')

-- entries that were read, in front of an answer
abbrev pub joined : List Entry → Result (List Entry) ImageFault → Result (List Entry) ImageFault
joined xs (Ok es) = Ok (xs ++ es)
joined xs (Err e) = Err e

pub joined_none : (a : Result (List Entry) ImageFault) → joined [] a ≡ a
joined_none (Ok es) = refl
joined_none (Err e) = refl

pub joined_more : (xs : List Entry) (x : Entry) (a : Result (List Entry) ImageFault) → joined xs (after x a) ≡ joined (xs ++ (x ∷ [])) a
joined_more xs x (Ok es) = ap Ok (sym (append_assoc xs (x ∷ []) es))
joined_more xs x (Err e) = refl

-- whatever is read from here on is what is read of the whole, behind the entries so far
abbrev pub Behind : (high : ℕ) (whole : List ℕ) (so_far : List Entry) (n low off : ℕ) (bs : List ℕ) → Type 0
Behind high whole xs n low off bs = (a : Result (List Entry) ImageFault) → Reads high n low off bs a → Reads high 0 0 10 whole (joined xs a)

pub behind_none : (high : ℕ) (whole : List ℕ) (xs : List Entry) → xs ≡ [] → Behind high whole xs 0 0 10 whole
behind_none high whole xs e a r = subst (λ b. Reads high 0 0 10 whole b) (sym (ap (λ l. joined l a) e ∙ joined_none a)) r

pub behind_more : (high : ℕ) (whole : List ℕ) (xs ys : List Entry) (x : Entry) (n n' low off : ℕ) (bs rest : List ℕ) → Behind high whole xs n low off bs
    → Right (entry_fault high n low off) bs (Logged x) rest → ys ≡ xs ++ (x ∷ []) → n' ≡ n + 1 → Behind high whole ys n' x.term (off + 26) rest
behind_more high whole xs ys x n n' low off bs rest b r e m a s =
    let s' : Reads high (n + 1) x.term (off + 26) rest a = subst (λ k. Reads high k x.term (off + 26) rest a) m s in
    subst (λ c. Reads high 0 0 10 whole c) (joined_more xs x a ∙ ap (λ l. joined l a) (sym e)) (b (after x a) (right x rest a r s' refl))

pub behind_all : (high : ℕ) (whole : List ℕ) (xs : List Entry) (n low off : ℕ) (bs : List ℕ) → Behind high whole xs n low off bs → bs ≡ [] → Reads high 0 0 10 whole (Ok xs)
behind_all high whole xs n low off bs b e = subst (λ l. Reads high 0 0 10 whole (Ok l)) (append-nil xs) (b (Ok []) (ends e refl))

pub behind_wrong : (high : ℕ) (whole : List ℕ) (xs : List Entry) (n low off : ℕ) (bs : List ℕ) (e : ImageFault) → Behind high whole xs n low off bs
    → 0 < length bs → AtFault (entry_fault high n low off) off bs e → Reads high 0 0 10 whole (Err e)
behind_wrong high whole xs n low off bs e b l f = b (Err e) (wrong e l f refl)

-- what an entry breaks
module _ (high n low off : ℕ) (x : Entry) where
  pub too_many : 64 ≤ n → entry_fault high n low off (Logged x) ≡ Some (TooMany off)
  too_many h = cond-true _ _ _ (le-leb 64 n h)

  pub unfit : n < 64 → term_in_range high low x.term ≡ false → entry_fault high n low off (Logged x) ≡ Some (OutOfRange off)
  unfit h t = cond-false _ _ _ (lt-leb 64 n h) ∙ cond-false _ _ _ t

  pub no_fault : n < 64 → term_in_range high low x.term ≡ true → entry_fault high n low off (Logged x) ≡ None
  no_fault h t = cond-false _ _ _ (lt-leb 64 n h) ∙ cond-true _ _ _ t

-- an entry's record has 26 bytes, an opening 10
pub length_entry : (x : Entry) (rest : List ℕ) → length (encode (Logged x) ++ rest) ≡ 26 + length rest
unfolding encode two four word
length_entry x rest = omega arith

pub length_opening : (b : Ballot) (rest : List ℕ) → length (encode (Opening b) ++ rest) ≡ 10 + length rest
unfolding encode two four
length_opening b rest = omega arith

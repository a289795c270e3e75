-- Any bytes have one answer, and an answer is what was written.
use Rattle.std.proofs.Common.{◌≡◌, ℕ, ◌+◌, ◌<◌, ◌≤◌, Bool, true, false, cond, leb, List, [], ◌∷◌, ◌++◌, length, Some, None, Ok, Err, Option, Result, sym, refl, ap, ◌∙◌, subst, arith}
use Rattle.std.proofs.lemmas.Bool.{leb-false, and_parts, and_from, cond-true}
use Rattle.record.specs.declared.entry.Entry.{Entry}
use Rattle.record.specs.declared.kinds.Ballot.{Ballot}
use Rattle.record.specs.declared.kinds.Record.TheVariants.{Opening, Logged}
use Rattle.record.specs.Format.{encode}
use Rattle.image.specs.declared.fault.ImageFault.{ImageFault}
use Rattle.image.specs.declared.fault.ImageFault.TheVariants.{TooMany, OutOfRange}
use Rattle.image.specs.Rules.{ballot_in_range, term_in_range, terms_in_range, opening_fault, entry_fault}
use Rattle.image.specs.Images.{entries_in, image, Reads, ends, wrong, right, after, with_ballot, wrong_first, right_first}
use Rattle.image.specs.Laws.{AllFit, Proper, Determined, ReadsBack, WritesBack}
use Rattle.image.proofs.Cases.{some_none, ok_back, ok_err}
use Rattle.image.proofs.Reading.{one_fault, not_both, one_record, no_fault, length_entry}

entry_back : {x y : Entry} → Logged x ≡ Logged y → x ≡ y
entry_back e = cc

ballot_back : {x y : Ballot} → Opening x ≡ Opening y → x ≡ y
ballot_back e = cc

reads_once : (high n low off : ℕ) (bs : List ℕ) (a b : Result (List Entry) ImageFault) → Reads high n low off bs a → Reads high n low off bs b → a ≡ b
reads_once high n low off bs a b (ends p q) (ends p' q') = q ∙ sym q'
reads_once high n low off bs a b (ends p q) (wrong e l f g) = absurd (omega (arith, ap length p))
reads_once high n low off bs a b (ends p q) (right x rest es (h, s, t) r g) = absurd (omega (arith, ap length p, ap length s, length_entry x rest))
reads_once high n low off bs a b (wrong e l f g) (ends p q) = absurd (omega (arith, ap length p))
reads_once high n low off bs a b (wrong e l f g) (wrong e' l' f' g') = g ∙ ap Err (one_fault (entry_fault high n low off) off bs e e' f f') ∙ sym g'
reads_once high n low off bs a b (wrong e l f g) (right x rest es w r g') = absurd (not_both (entry_fault high n low off) off bs e (Logged x) rest f w)
reads_once high n low off bs a b (right x rest es (h, s, t) r g) (ends p q) = absurd (omega (arith, ap length p, ap length s, length_entry x rest))
reads_once high n low off bs a b (right x rest es w r g) (wrong e l f g') = absurd (not_both (entry_fault high n low off) off bs e (Logged x) rest f w)
reads_once high n low off bs a b (right x rest es w r g) (right x' rest' es' w' r' g') =
    let u = one_record (entry_fault high n low off) off bs (Logged x) (Logged x') rest rest' w w' in
    let v = entry_back u.0 in
    let s : Reads high (n + 1) x.term (off + 26) rest es' = subst (λ y. Reads high (n + 1) y.term (off + 26) rest es') (sym v) (subst (λ l. Reads high (n + 1) x'.term (off + 26) l es') (sym u.1) r') in
    let t = reads_once high (n + 1) x.term (off + 26) rest es es' r s in
    g ∙ (λ i. after (v i) (t i)) ∙ sym g'

pub determined : Determined
determined bs r s (wrong_first e f g) (wrong_first e' f' g') = g ∙ ap Err (one_fault opening_fault 0 bs e e' f f') ∙ sym g'
determined bs r s (wrong_first e f g) (right_first b rest w x) = absurd (not_both opening_fault 0 bs e (Opening b) rest f w)
determined bs r s (right_first b rest w x) (wrong_first e f g) = absurd (not_both opening_fault 0 bs e (Opening b) rest f w)
determined bs r s (right_first b rest w (es, x, g)) (right_first b' rest' w' (es', x', g')) =
    let u = one_record opening_fault 0 bs (Opening b) (Opening b') rest rest' w w' in
    let v = ballot_back u.0 in
    let y : Reads b.term 0 0 10 rest es' = subst (λ c. Reads c.term 0 0 10 rest es') (sym v) (subst (λ l. Reads b'.term 0 0 10 l es') (sym u.1) x') in
    let t = reads_once b.term 0 0 10 rest es es' x y in
    g ∙ (λ i. with_ballot (v i) (t i)) ∙ sym g'

-- an image is read back
reads_all : (high n low off : ℕ) (es : List Entry) → AllFit es → terms_in_range high low es ≡ true → n + length es ≤ 64 → Reads high n low off (entries_in es) (Ok es)
reads_all high n low off [] f t h = ends refl refl
reads_all high n low off (x ∷ es) f t h =
    let p = and_parts (term_in_range high low x.term) (terms_in_range high x.term es) t in
    right x (entries_in es) (Ok es) (f.0, refl, no_fault high n low off x (omega arith) p.0) (reads_all high (n + 1) x.term (off + 26) es f.1 p.1 (omega arith)) refl

pub reads_back : ReadsBack
reads_back b es p =
    let q = and_parts (ballot_in_range b) (terms_in_range b.term 0 es) p.ranged in
    right_first b (entries_in es) (p.ballot_fits, refl, cond-true _ _ _ q.0) (Ok es, reads_all b.term 0 0 10 es p.entries_fit q.1 (omega (arith, p.few)), refl)

-- what an accepted record keeps to
kept_cond : {X : Type 0} (b : Bool) (x : X) → cond b None (Some x) ≡ None → b ≡ true
kept_cond true x e = refl
kept_cond false x e = absurd (some_none e)

kept_some : {X : Type 0} (b : Bool) (x : X) (y : Option X) → cond b (Some x) y ≡ None → (b ≡ false) × (y ≡ None)
kept_some true x y e = absurd (some_none e)
kept_some false x y e = (refl, e)

record Kept (high n low : ℕ) (bs : List ℕ) (es : List Entry) : Type 0 where
  bytes : bs ≡ entries_in es
  fit : AllFit es
  terms : terms_in_range high low es ≡ true
  few : n ≤ 64 → n + length es ≤ 64

kept : (high n low off : ℕ) (bs : List ℕ) (a : Result (List Entry) ImageFault) (es : List Entry) → Reads high n low off bs a → a ≡ Ok es → Kept high n low bs es
kept high n low off bs a es (ends p q) e =
    let z : [] ≡ es = ok_back (sym q ∙ e) in
    subst (Kept high n low bs) z (record { bytes = p; fit = tt; terms = refl; few = λ h. omega arith })
kept high n low off bs a es (wrong f l w g) e = absurd (ok_err (sym e ∙ g))
kept high n low off bs a es (right x rest (Err f) w r g) e = absurd (ok_err (sym e ∙ g))
kept high n low off bs a es (right x rest (Ok ys) (h, s, t) r g) e =
    let z : x ∷ ys ≡ es = ok_back (sym g ∙ e) in
    let k = kept high (n + 1) x.term (off + 26) rest (Ok ys) ys r refl in
    let c = kept_some (leb 64 n) (TooMany off) (cond (term_in_range high low x.term) None (Some (OutOfRange off))) t in
    let m : n < 64 = leb-false 64 n c.0 in
    let j : n + 1 ≤ 64 = omega arith in
    subst (Kept high n low bs) z (record {
      bytes = s ∙ ap (λ l. encode (Logged x) ++ l) k.bytes;
      fit = (h, k.fit);
      terms = and_from _ _ (kept_cond _ (OutOfRange off) c.1) k.terms;
      few = λ _. omega (arith, k.few j);
    })

pair_back : {b c : Ballot} {es xs : List Entry} → ◌≡◌ {A = Result (Ballot × List Entry) ImageFault} (Ok (b, es)) (Ok (c, xs)) → (b ≡ c) × (es ≡ xs)
pair_back e = (ap (λ p. p.0) (ok_back e), ap (λ p. p.1) (ok_back e))

pub writes_back : WritesBack
writes_back bs b es (wrong_first e f g) = absurd (ok_err g)
writes_back bs b es (right_first c rest w (Err e, r, g)) = absurd (ok_err g)
writes_back bs b es (right_first c rest (h, s, t) (Ok xs, r, g)) =
    let u = pair_back g in
    let k = kept c.term 0 0 10 rest (Ok xs) xs r refl in
    let done : (bs ≡ image c xs) × Proper c xs = (
      s ∙ ap (λ l. encode (Opening c) ++ l) k.bytes,
      record { ballot_fits = h; entries_fit = k.fit; ranged = and_from _ _ (kept_cond _ (OutOfRange 0) t) k.terms; few = omega (arith, k.few (omega arith)) },
    ) in
    subst (λ (p : Ballot × List Entry). (bs ≡ image p.0 p.1) × Proper p.0 p.1) (sym (λ i. (u.0 i, u.1 i))) done

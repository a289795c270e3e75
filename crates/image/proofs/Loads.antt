-- Stores that are filled one entry after another, and read so.
use Rattle.std.proofs.Common.{◌≡◌, ℕ, ◌+◌, ◌-◌, ◌<◌, ◌≤◌, true, List, [], ◌∷◌, ◌++◌, length, get_or, take, pos, is_ok, Ok, Err, Result, sym, ap, ◌∙◌, subst, inl, inr, arith, length-take-le}
use Rattle.std.specs.Option.{ok_or}
use Rattle.std.proofs.lemmas.List.{take_more, take_all, nil_from_length}
use Rattle.std.proofs.lemmas.Bool.{lt-ltb, cond-true, and_parts, eqb-true, cases_Bool}
use Rattle.std.specs.List.{slice_get}
use Rattle.std.proofs.lemmas.Option.{slice_get-get_or}
use Rattle.refusal.specs.declared.Refusal.{Refusal}
use Rattle.refusal.specs.Numbers.{told}
use Rattle.record.specs.declared.entry.Entry.{Entry}
use Rattle.record.specs.declared.kinds.Ballot.{Ballot}
use Rattle.record.specs.Format.{EntryFits}
use Rattle.store.specs.Stores.{StoreState, append_answer, appended, has_room, entry_answer, added, synced}
use Rattle.image.specs.declared.fault.ImageFault.{ImageFault}
use Rattle.image.specs.Images.{image, ImageRead}
use Rattle.image.specs.Stores.{EmptyIsCleared, Writable, is_empty, loaded, ballot_of, durable_of, image_of, ended_by, left_by, ReadInto, ReadsBackInto, Accepted}
use Rattle.image.specs.Laws.{AllFit, Proper}
use Rattle.image.proofs.Cases.{ok_back, ok_err}
use Rattle.image.proofs.Back.{determined, reads_back, writes_back}

-- a store with these entries, none of them durable yet
abbrev pub filled : Ballot → List Entry → StoreState
filled b es = record { term = b.term; vote = b.vote; entries = es; durable = 0 }

pub told_ok : {X : Type 0} (r : Result X Refusal) (x : X) → told r ≡ Ok x → r ≡ Ok x
told_ok (Ok y) x e = ap Ok (ok_back e)
told_ok (Err f) x e = absurd (ok_err (sym e))

-- the entry at a number
module _ (m : StoreState) (n : ℕ) (r : Result Entry Refusal) (h : n < length m.entries) (e : told r ≡ entry_answer (n + 1) m) where
  told_entry : (d : Entry) → r ≡ Ok (get_or m.entries n d)
  told_entry d =
      let back : n + 1 - 1 ≡ n = omega arith in
      told_ok r _ (e ∙ ap (λ o. ok_or o 15) (cond-true _ _ _ (lt-ltb 0 (n + 1) (omega arith)) ∙ ap (slice_get m.entries) back ∙ slice_get-get_or m.entries n d h))

  pub taken_more : (x : Entry) → r ≡ Ok x → take (n + 1) m.entries ≡ take n m.entries ++ (x ∷ [])
  taken_more x p =
      let z : x ≡ get_or m.entries n x = ok_back (sym p ∙ told_entry x) in
      take_more m.entries n x h ∙ ap (λ y. take n m.entries ++ (y ∷ [])) (sym z)

pub all_fit_more : (es : List Entry) (e : Entry) → AllFit es → EntryFits e → AllFit (es ++ (e ∷ []))
all_fit_more [] e f h = (h, tt)
all_fit_more (x ∷ es) e f h = (f.0, all_fit_more es e f.1 h)

-- an empty store means what clearing leaves
pub empty_is : EmptyIsCleared
empty_is m s e =
    let p = and_parts _ _ e in
    let q = and_parts _ _ p.1 in
    let t : m.term ≡ 0 = eqb-true _ 0 p.0 in
    let v : m.vote ≡ 0 = eqb-true _ 0 q.0 in
    let l : length m.entries ≡ 0 = eqb-true _ 0 q.1 in
    let n : m.entries ≡ [] = nil_from_length m.entries l in
    let d : m.durable ≡ 0 = omega (arith, s.held) in
    λ i. record { term = t i; vote = v i; entries = n i; durable = d i }

-- what reading into a store says of an image, and of accepted bytes
pub read_back : (before : StoreState) (bs : List ℕ) (r : Result (Unit {0}) ImageFault) (after : StoreState) → ReadInto before bs r after
    → ReadsBackInto before bs r after
read_back before bs r after x m p e h =
    let y = x.empty h in
    let whole : Result (Ballot × List Entry) ImageFault = Ok (ballot_of m, durable_of m) in
    let d : y.0 ≡ whole = determined bs y.0 whole y.1 (subst (λ l. ImageRead l whole) (sym e) (reads_back (ballot_of m) (durable_of m) p)) in
    (y.2 ∙ ap ended_by d, y.3 ∙ ap (left_by before) d)

abbrev Same : List ℕ → StoreState → Type 0
Same bs m = (bs ≡ image_of m) × Writable m

same : (bs : List ℕ) (b : Ballot) (es : List Entry) → ImageRead bs (Ok (b, es)) → Same bs (loaded b es)
same bs b es x = subst (λ l. (bs ≡ image b l) × Proper b l) (sym (take_all (length es) es (omega arith))) (writes_back bs b es x)

accepted_from : (before after : StoreState) (bs : List ℕ) (r : Result (Unit {0}) ImageFault) (a : Result (Ballot × List Entry) ImageFault)
    → ImageRead bs a → r ≡ ended_by a → after ≡ left_by before a → r ≡ Ok tt → Same bs after
accepted_from before after bs r (Ok p) x e l o = subst (Same bs) (sym l) (same bs p.0 p.1 x)
accepted_from before after bs r (Err f) x e l o = absurd (ok_err (sym o ∙ e))

pub accepted : (before : StoreState) (bs : List ℕ) (r : Result (Unit {0}) ImageFault) (after : StoreState) → ReadInto before bs r after
    → Accepted bs r after
accepted before bs r after x o =
    elim (cases_Bool (is_empty before)) [
      | inl h ↦ let y = x.empty h in accepted_from before after bs r y.0 y.1 y.2 y.3 o
      | inr h ↦ absurd (ok_err (sym o ∙ (x.not_empty h).0))
    ]

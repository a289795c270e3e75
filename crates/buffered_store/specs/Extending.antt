-- A store with more entries: one by one and all at once, cut, and read.
use Rattle.std.specs.Prelude.{◌≡◌, ℕ, zero, suc, ◌+◌, ◌-◌, ◌<◌, ◌≤◌, min, true, false, ltb, List, [], ◌∷◌, ◌++◌, length, get_or, take, Ok, nat_lt, slice_index_or, refl}
use Rattle.std.proofs.Common.{sym, ap, ◌∙◌, inl, inr, append_assoc, append-nil, arith, length-append, length-take, take_all, take-take, get_or-take}
use Rattle.std.proofs.Math.Seq.{take-nil, take-append-add}
use Rattle.std.specs.Option.{ok_or}
use Rattle.std.specs.List.{slice_get}
use Rattle.std.proofs.lemmas.List.{get_or-append_right, take-append-le}
use Rattle.std.proofs.lemmas.Bool.{lt-ltb, le-ltb, cases_lt, cond-true, cond-false}
use Rattle.record.specs.declared.entry.Entry.{Entry}
use Rattle.store.specs.Stores.{StoreState, Sound, added, appended, cut, surviving, entry_answer}
use Rattle.store.proofs.Entries.{entry_read}
use Rattle.buffered_store.specs.Layers.{extended}

abbrev with_entries : StoreState → List Entry → StoreState
with_entries m es = record { term = m.term; vote = m.vote; entries = es; durable = m.durable }

pub extended_none : (m : StoreState) → extended [] m ≡ m
extended_none m = ap (with_entries m) (ap (λ (t : List Entry). m.entries ++ t) (take-nil (64 - length m.entries)) ∙ append-nil m.entries)

pub extended_push : (m : StoreState) (xs : List Entry) (e : Entry) → length m.entries ≤ 64 → extended (xs ++ e ∷ []) m ≡ appended e (extended xs m)
extended_push m xs e few =
    let n : ℕ = 64 - length m.entries in
    elim (cases_lt (length xs) n) [
      | inl h ↦
          let a : take n xs ≡ xs = take_all n xs (omega arith) in
          let b : take n (xs ++ e ∷ []) ≡ xs ++ e ∷ [] = take_all n (xs ++ e ∷ []) (simp length-append (omega arith)) in
          let t : ltb (length (m.entries ++ take n xs)) 64 ≡ true = lt-ltb _ _ (rw a (simp length-append (omega arith))) in
          ap (with_entries m) (rw (b, a) (sym (append_assoc m.entries xs (e ∷ []))))
          ∙ sym (cond-true (nat_lt (length (m.entries ++ take n xs)) 64) (added e (extended xs m)) (extended xs m) t)
      | inr h ↦
          let a : take n (xs ++ e ∷ []) ≡ take n xs = take-append-le n xs (e ∷ []) h in
          let t : ltb (length (m.entries ++ take n xs)) 64 ≡ false = le-ltb _ _ (simp (length-append, length-take) (omega arith)) in
          ap (with_entries m) (ap (λ (r : List Entry). m.entries ++ r) a)
          ∙ sym (cond-false (nat_lt (length (m.entries ++ take n xs)) 64) (added e (extended xs m)) (extended xs m) t)
    ]

pub length_extended : (m : StoreState) (xs : List Entry) → length m.entries ≤ 64 → length (extended xs m).entries ≡ min (length m.entries + length xs) 64
length_extended m xs few = simp (length-append, length-take) (omega arith)

pub extended_sound : (m : StoreState) (xs : List Entry) → Sound m → Sound (extended xs m)
extended_sound m xs s =
    let a : m.durable ≤ length m.entries = s.held in
    let b : length m.entries ≤ 64 = s.few in
    record { held = simp (length-append, length-take) (omega arith); few = simp (length-append, length-take) (omega arith) }

-- a cut among the entries that were added
pub cut_added : (m : StoreState) (xs : List Entry) (n : ℕ) → Sound m → length m.entries ≤ n → n ≤ 64 → extended (take (n - length m.entries) xs) m ≡ cut n (extended xs m)
cut_added m xs n s low high =
    let l : ℕ = length m.entries in
    let f : m.durable ≤ length m.entries = s.held in
    let k : l + (n - l) ≡ n = omega arith in
    let a : take (64 - l) (take (n - l) xs) ≡ take (n - l) xs = take_all (64 - l) (take (n - l) xs) (simp length-take (omega arith)) in
    let b : take (n - l) (take (64 - l) xs) ≡ take (n - l) xs = take-take (n - l) (64 - l) xs (omega arith) in
    let c : take n (m.entries ++ take (64 - l) xs) ≡ m.entries ++ take (n - l) (take (64 - l) xs) =
    ap (λ j. take j (m.entries ++ take (64 - l) xs)) (sym k) ∙ take-append-add m.entries (take (64 - l) xs) (n - l) in
    let g : min n m.durable ≡ m.durable = omega arith in
    let es : m.entries ++ take (64 - l) (take (n - l) xs) ≡ take n (m.entries ++ take (64 - l) xs) = ap (λ (t : List Entry). m.entries ++ t) (a ∙ sym b) ∙ sym c in
    rw g (ap (with_entries m) es)

-- for a cut or a crash among the first entries the added ones do not count
pub cut_first : (m : StoreState) (xs : List Entry) (n : ℕ) → n ≤ length m.entries → cut n m ≡ cut n (extended xs m)
cut_first m xs n h = rw (take-append-le n m.entries (take (64 - length m.entries) xs) h) refl

pub surviving_first : (m : StoreState) (xs : List Entry) (n : ℕ) → n ≤ length m.entries → surviving n m ≡ surviving n (extended xs m)
surviving_first m xs n h = rw (take-append-le n m.entries (take (64 - length m.entries) xs) h) refl

nth_left : (xs ys : List Entry) (i : ℕ) → i < length xs → slice_get (xs ++ ys) i ≡ slice_get xs i
nth_left [] ys i h = let z : ⊥ = omega arith in absurd z
nth_left (x ∷ xs) ys zero h = refl
nth_left (x ∷ xs) ys (suc i) h = nth_left xs ys i (omega arith)

pub entry_first : (m : StoreState) (xs : List Entry) (n : ℕ) → n ≤ length m.entries → entry_answer n m ≡ entry_answer n (extended xs m)
entry_first m xs n h =
    elim (cases_lt 0 n) [
      | inl p ↦
          let w : n - 1 < length m.entries = omega arith in
          rw (lt-ltb 0 n p) (ap (λ o. ok_or o 15) (sym (nth_left m.entries (take (64 - length m.entries) xs) (n - 1) w)))
      | inr p ↦ rw (le-ltb 0 n p) refl
    ]

pub entry_added : (m : StoreState) (xs : List Entry) (n : ℕ) (x : Entry) → length m.entries ≤ 64 → length m.entries < n → n ≤ length (extended xs m).entries → x ≡ slice_index_or xs (n - length m.entries - 1) x → Ok x ≡ entry_answer n (extended xs m)
entry_added m xs n x few low within read =
    let l : ℕ = length m.entries in
    let count = length_extended m xs few in
    let e : n - 1 - l ≡ n - l - 1 = omega arith in
    let a : get_or (m.entries ++ take (64 - l) xs) (n - 1) x ≡ get_or (take (64 - l) xs) (n - 1 - l) x = get_or-append_right m.entries (take (64 - l) xs) l (n - 1) x refl (omega arith) in
    let b : get_or (take (64 - l) xs) (n - 1 - l) x ≡ get_or xs (n - 1 - l) x = get_or-take (64 - l) xs (n - 1 - l) x (omega (arith, count, within)) in
    let c : get_or xs (n - 1 - l) x ≡ get_or xs (n - l - 1) x = ap (λ i. get_or xs i x) e in
    entry_read (extended xs m) n x (omega arith) within (read ∙ sym c ∙ sym b ∙ sym a)

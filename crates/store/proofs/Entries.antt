-- The entry at a number, read from the list or found to be none.
use Rattle.std.proofs.Common.{◌≡◌, ℕ, ◌-◌, ◌<◌, ◌≤◌, length, get_or, Ok, Err, sym, refl, ap, inl, inr, arith}
use Rattle.std.proofs.lemmas.Option.{slice_get_read, slice_get_past}
use Rattle.std.proofs.lemmas.Bool.{cases_lt, lt-ltb, le-ltb}
use Rattle.std.specs.Option.{ok_or}
use Rattle.record.specs.declared.entry.Entry.{Entry}
use Rattle.store.specs.Stores.{StoreState, entry_answer}

pub entry_read : (m : StoreState) (n : ℕ) (x : Entry) → 0 < n → n ≤ length m.entries → x ≡ get_or m.entries (n - 1) x → Ok x ≡ entry_answer n m
entry_read m n x some within read =
    rw (lt-ltb 0 n some)
    (sym (ap (λ o. ok_or o 15) (slice_get_read m.entries (length m.entries) (n - 1) x refl (omega arith) read)))

pub entry_none : (m : StoreState) (n : ℕ) → (0 < n → length m.entries < n) → Err 15 ≡ entry_answer n m
entry_none m n past =
    elim (cases_lt 0 n) [
      | inl h ↦
          let p : length m.entries < n = past h in
          rw (lt-ltb 0 n h) (sym (ap (λ o. ok_or o 15) (slice_get_past m.entries (n - 1) (omega arith))))
      | inr h ↦ rw (le-ltb 0 n h) refl
    ]

-- One state more than there are open edits: which moves are refused, and what the others leave.
use Rattle.std.specs.Prelude.{◌≡◌, ℕ, ◌+◌, ◌-◌, ◌<◌, ◌≤◌, true, false, List, ◌∷◌, length, take, drop, Some, None, Ok, Err, Option, nat_lt, refl}
use Rattle.std.proofs.Common.{sym, ap, ◌∙◌, arith}
use Rattle.std.specs.Option.{ok_or}
use Rattle.std.proofs.lemmas.Bool.{lt-ltb, le-ltb, cond-true, cond-false}
use Rattle.refusal.specs.declared.Refusal.TheVariants.{OutOfBounds}
use Rattle.refusal.specs.Numbers.{told}
use Rattle.sheet.specs.declared.types.Edit.{Edit}
use Rattle.machine.specs.States.{Counted, newest, apply_answer, applied, drop_answer, undone, settled, read_answer}

module _ {X : Type 0} (xs : List X) (n : ℕ) (l : length xs ≡ n + 1) where
  pub counted : n ≤ 16 → Counted xs
  counted h = record { some = omega arith; few = omega arith }

  room : n < 16 → nat_lt (length xs) 17 ≡ true
  room h = lt-ltb (length xs) 17 (omega arith)

  full : 16 ≤ n → nat_lt (length xs) 17 ≡ false
  full h = le-ltb (length xs) 17 (omega arith)

  several : 0 < n → nat_lt 1 (length xs) ≡ true
  several h = lt-ltb 1 (length xs) (omega arith)

  alone : n ≡ 0 → nat_lt 1 (length xs) ≡ false
  alone h = le-ltb 1 (length xs) (omega arith)

  pub apply_told : n < 16 → Ok tt ≡ apply_answer xs
  apply_told h = sym (cond-true _ _ _ (room h))

  pub apply_refused : 16 ≤ n → Err 15 ≡ apply_answer xs
  apply_refused h = sym (cond-false _ _ _ (full h))

  pub applied_is : (opening : X) (next : X → Edit → X) (e : Edit) → n < 16 → next (newest opening xs) e ∷ xs ≡ applied opening next e xs
  applied_is opening next e h = sym (cond-true _ _ _ (room h))

  pub applied_same : (opening : X) (next : X → Edit → X) (e : Edit) → 16 ≤ n → xs ≡ applied opening next e xs
  applied_same opening next e h = sym (cond-false _ _ _ (full h))

  pub drop_told : 0 < n → Ok tt ≡ drop_answer xs
  drop_told h = sym (cond-true _ _ _ (several h))

  pub drop_refused : n ≡ 0 → Err 15 ≡ drop_answer xs
  drop_refused h = sym (cond-false _ _ _ (alone h))

  pub undone_is : 0 < n → drop 1 xs ≡ undone xs
  undone_is h = sym (cond-true _ _ _ (several h))

  pub undone_same : n ≡ 0 → xs ≡ undone xs
  undone_same h = sym (cond-false _ _ _ (alone h))

  pub settled_is : 0 < n → take n xs ≡ settled xs
  settled_is h =
      let e : n ≡ length xs - 1 = omega arith in
      ap (λ (k : ℕ). take k xs) e ∙ sym (cond-true _ _ _ (several h))

  pub settled_same : n ≡ 0 → xs ≡ settled xs
  settled_same h = sym (cond-false _ _ _ (alone h))

pub read_told : (o : Option ℕ) → told (ok_or o OutOfBounds) ≡ read_answer o
read_told None = refl
read_told (Some x) = refl

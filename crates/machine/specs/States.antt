-- The states of a machine, newest first, and what each move makes of them. A refusal has the number 15 and changes nothing.
use Rattle.std.specs.Prelude.{ℕ, zero, suc, ◌-◌, ◌≤◌, cond, List, [], ◌∷◌, length, take, drop, Ok, Err, Option, Result, nat_lt}
use Rattle.std.specs.Option.{ok_or}
use Rattle.sheet.specs.declared.types.Edit.{Edit}

-- 1 to 17 states
pub record Counted {X : Type 0} (xs : List X) : Type 0 where
  pub some : 1 ≤ length xs
  pub few : length xs ≤ 17

-- the newest of some states, and the opening where there is none
abbrev pub newest : {X : Type 0} → X → List X → X
newest opening [] = opening
newest opening (x ∷ xs) = x

module _ {X : Type 0} where
  -- Applying adds the next state, and is refused only at 17.
  abbrev pub apply_answer : List X → Result (Unit {0}) ℕ
  apply_answer xs = cond (nat_lt (length xs) 17) (Ok tt) (Err 15)

  abbrev pub applied : X → (X → Edit → X) → Edit → List X → List X
  applied opening next e xs = cond (nat_lt (length xs) 17) (next (newest opening xs) e ∷ xs) xs

  -- Undoing drops the newest state and settling drops the oldest; both are refused only where one is left.
  abbrev pub drop_answer : List X → Result (Unit {0}) ℕ
  drop_answer xs = cond (nat_lt 1 (length xs)) (Ok tt) (Err 15)

  abbrev pub undone : List X → List X
  undone xs = cond (nat_lt 1 (length xs)) (drop 1 xs) xs

  abbrev pub settled : List X → List X
  settled xs = cond (nat_lt 1 (length xs)) (take (length xs - 1) xs) xs

  -- Several moves, one after the other; those that are refused change nothing.
  abbrev pub applied_all : X → (X → Edit → X) → List Edit → List X → List X
  applied_all opening next [] xs = xs
  applied_all opening next (e ∷ es) xs = applied_all opening next es (applied opening next e xs)

  abbrev pub undone_times : ℕ → List X → List X
  undone_times zero xs = xs
  undone_times (suc k) xs = undone (undone_times k xs)

-- Reading tells a cell, and is refused only where there is no such cell.
abbrev pub read_answer : Option ℕ → Result ℕ ℕ
read_answer c = ok_or c 15

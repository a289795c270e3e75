-- What a store means, and what each call on it answers and leaves. Whatever is refused has the number 15, and changes nothing.
use Rattle.std.specs.Prelude.{◌≡◌, ℕ, ◌+◌, ◌-◌, ◌≤◌, min, Bool, cond, List, [], ◌∷◌, ◌++◌, length, take, None, Ok, Err, Option, Result, nat_le, nat_lt}
use Rattle.std.specs.Option.{ok_or}
use Rattle.std.specs.List.{slice_get}
use Rattle.record.specs.declared.entry.Entry.{Entry}

-- A term, a vote (0 for none), the entries in order, and how many of them, from the first, are durable; the others are volatile.
pub record StoreState : Type 0 where
  pub term : ℕ
  pub vote : ℕ
  pub entries : List Entry
  pub durable : ℕ

-- what holds of every store at any time
pub record Sound (m : StoreState) : Type 0 where
  pub held : m.durable ≤ length m.entries
  pub few : length m.entries ≤ 64

-- Clearing leaves nothing.
abbrev pub cleared : StoreState
cleared = record { term = 0; vote = 0; entries = []; durable = 0 }

-- Setting term and vote leaves the entries as they were.
abbrev pub voted : (term vote : ℕ) → StoreState → StoreState
voted term vote m = record { term = term; vote = vote; entries = m.entries; durable = m.durable }

-- Appending adds one volatile entry, and is refused only at 64.
abbrev pub has_room : StoreState → Bool
has_room m = nat_lt (length m.entries) 64

abbrev pub added : Entry → StoreState → StoreState
added e m = record { term = m.term; vote = m.vote; entries = m.entries ++ e ∷ []; durable = m.durable }

abbrev pub append_answer : StoreState → Result (Unit {0}) ℕ
append_answer m = cond (has_room m) (Ok tt) (Err 15)

abbrev pub appended : Entry → StoreState → StoreState
appended e m = cond (has_room m) (added e m) m

-- Truncating to n keeps the first n entries, lowers the durable count to n if it was above, and is refused only where n exceeds the length.
abbrev pub reaches : ℕ → StoreState → Bool
reaches n m = nat_le n (length m.entries)

abbrev pub cut : ℕ → StoreState → StoreState
cut n m = record { term = m.term; vote = m.vote; entries = take n m.entries; durable = min n m.durable }

abbrev pub truncate_answer : ℕ → StoreState → Result (Unit {0}) ℕ
truncate_answer n m = cond (reaches n m) (Ok tt) (Err 15)

abbrev pub truncated : ℕ → StoreState → StoreState
truncated n m = cond (reaches n m) (cut n m) m

-- Syncing raises the durable count to the length.
abbrev pub synced : StoreState → StoreState
synced m = record { term = m.term; vote = m.vote; entries = m.entries; durable = length m.entries }

-- A crash keeps term, vote and the first c entries, all of them durable; c lies from the durable count to the length.
abbrev pub surviving : ℕ → StoreState → StoreState
surviving c m = record { term = m.term; vote = m.vote; entries = take c m.entries; durable = c }

pub record Crashed (m : StoreState) (c : ℕ) (after : StoreState) : Type 0 where
  pub low : m.durable ≤ c
  pub high : c ≤ length m.entries
  pub left : after ≡ surviving c m

-- how many entries a crash keeps in a store that grants its wish as far as there are volatile entries
abbrev pub kept_by : (wish : ℕ) → StoreState → ℕ
kept_by wish m = m.durable + min wish (length m.entries - m.durable)

-- The entry at a number, from 1; refused only where none is held.
abbrev pub entry_at : ℕ → StoreState → Option Entry
entry_at n m = cond (nat_lt 0 n) (slice_get m.entries (n - 1)) None

abbrev pub entry_answer : ℕ → StoreState → Result Entry ℕ
entry_answer n m = ok_or (entry_at n m) 15

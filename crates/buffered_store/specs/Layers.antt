-- A layer over a store: it holds back up to 8 entries, and what each call does to it and to the store below.
use Rattle.std.specs.Prelude.{◌≡◌, ℕ, ◌+◌, ◌-◌, ◌≤◌, cond, List, [], ◌∷◌, ◌++◌, length, take, nat_le, nat_lt}
use Rattle.record.specs.declared.entry.Entry.{Entry}
use Rattle.store.specs.Stores.{StoreState, Crashed, voted, has_room, reaches, cut, synced}

-- what the store below means, and the entries that are held back, in order
pub record Layer : Type 0 where
  pub below : StoreState
  pub own : List Entry

-- a store after these entries were appended in order, as many as it has room for
abbrev pub extended : List Entry → StoreState → StoreState
extended es m = record { term = m.term; vote = m.vote; entries = m.entries ++ take (64 - length m.entries) es; durable = m.durable }

-- What the layer means as a store: the store below, and its own entries, all of them volatile. The cut at 64 makes this a store at every value.
abbrev pub whole : Layer → StoreState
whole l = extended l.own l.below

-- There is room for both. Then the cut at 64 takes nothing away: the entries are those below followed by the layer's own.
abbrev pub Fits : Layer → Type 0
Fits l = length l.below.entries + length l.own ≤ 64

pub record Joined (l : Layer) : Type 0 where
  pub fits : Fits l
  pub entries : (whole l).entries ≡ l.below.entries ++ l.own

-- a layer that holds back nothing, as at opening
abbrev pub over : StoreState → Layer
over m = record { below = m; own = [] }

-- Setting term and vote reaches the store below.
abbrev pub voted_below : (term vote : ℕ) → Layer → Layer
voted_below term vote l = record { below = voted term vote l.below; own = l.own }

-- Appending holds one more entry back; all 8 are handed down before a ninth.
abbrev pub with_room : Layer → Layer
with_room l = cond (nat_lt (length l.own) 8) l (over (whole l))

abbrev pub holding : Entry → Layer → Layer
holding e l = record { below = (with_room l).below; own = (with_room l).own ++ e ∷ [] }

abbrev pub appended_to : Entry → Layer → Layer
appended_to e l = cond (has_room (whole l)) (holding e l) l

-- Truncating cuts the layer's own entries, or drops them and cuts the store below.
abbrev pub cut_to : ℕ → Layer → Layer
cut_to n l =
    cond (nat_le (length l.below.entries) n)
    (record { below = l.below; own = take (n - length l.below.entries) l.own })
    (over (cut n l.below))

abbrev pub truncated_to : ℕ → Layer → Layer
truncated_to n l = cond (reaches n (whole l)) (cut_to n l) l

-- Syncing hands all down, and syncs the store below.
abbrev pub synced_below : Layer → Layer
synced_below l = over (synced (whole l))

-- A crash loses the layer's own entries, and is a crash of the store below.
pub record CrashedBelow (l : Layer) (c : ℕ) (after : Layer) : Type 0 where
  pub lost : after.own ≡ []
  pub below : Crashed l.below c after.below

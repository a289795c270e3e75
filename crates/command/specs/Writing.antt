-- What is put behind the bytes of a vector.
use Rattle.std.specs.Prelude.{◌≡◌, ℕ, ◌+◌, ◌≤◌, List, ◌++◌, length, vec_items, vec_len, vec_capacity, Vec}

-- The memory has room for k bytes more.
abbrev pub Room : {Z : Type 0} → ℕ → Vec ℕ Z → Type 0
Room k v = vec_len v + k ≤ vec_capacity v

-- The bytes, at most k of them, stand behind what v held, in the same memory.
pub record Put {Z : Type 0} (k : ℕ) (v : Vec ℕ Z) (bytes : List ℕ) (w : Vec ℕ Z) : Type 0 where
  pub items : vec_items w ≡ vec_items v ++ bytes
  pub len : vec_len w ≡ vec_len v + length bytes
  pub few : length bytes ≤ k
  pub capacity : vec_capacity w ≡ vec_capacity v

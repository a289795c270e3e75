-- The words of a text. 32 is the space.
use Rattle.std.specs.Prelude.{◌≡◌, ℕ, ◌^◌, ◌<◌, List, ◌∷◌, ◌++◌, length, ℤ, pos, Option, MatchOption, ◌≢◌, slice_index}
use Rattle.std.specs.Int.{IsInRange}
use Rattle.sheet.specs.declared.types.Edit.{Edit}
use Rattle.text.specs.Written.{Written, WrittenPlain}

-- A value of which P holds, or nothing, where P holds of none.
abbrev pub Finds : {X : Type 0} → Option X → (X → Type 0) → Type 0
Finds {X} r P = MatchOption r ((x : X) → P x → ⊥) P

-- Each byte is a visible character.
abbrev pub Visible : List ℕ → Type 0
Visible bs = (i : ℕ) → i < length bs → IsInRange 33 126 (slice_index bs i)

-- No byte of the text is a space.
abbrev pub NoSpace : List ℕ → Type 0
NoSpace bs = (i : ℕ) → i < length bs → slice_index bs i ≢ 32

-- A text of which P holds, one space, and the rest.
abbrev pub Before : (List ℕ → Type 0) → List ℕ → List ℕ → Type 0
Before P rest bs = (m : List ℕ) × (bs ≡ m ++ (32 ∷ rest)) × P m

-- A text of which P holds, one space, and a text of which Q holds.
abbrev pub Both : (List ℕ → Type 0) → (List ℕ → Type 0) → List ℕ → Type 0
Both P Q bs = (m : List ℕ) × (n : List ℕ) × (bs ≡ m ++ (32 ∷ n)) × P m × Q n

-- The text writes an unsigned number of 32 bits, one of 16 bits, or a signed number of 32 bits.
abbrev pub Number : ℕ → List ℕ → Type 0
Number n bs = WrittenPlain bs n

abbrev pub Kind : ℕ → List ℕ → Type 0
Kind n bs = WrittenPlain bs n × (n < 2 ^ 16)

abbrev pub Word : ℤ → List ℕ → Type 0
Word z bs = Written bs z

-- The same of a number of 16 bits that may have a minus sign before it, which is then nothing.
abbrev pub SignedKind : ℕ → List ℕ → Type 0
SignedKind n bs = Word (pos n) bs × (n < 2 ^ 16)

-- The words of an edit after its kind.
abbrev pub FromRow : Edit → List ℕ → Type 0
FromRow e = Both (Word e.row) (Both (Word e.size) (Both (Word e.a) (Word e.q)))

-- An edit: its kind, and its words.
abbrev pub EditIn : Edit → List ℕ → Type 0
EditIn e = Both (Kind e.kind) (FromRow e)

abbrev pub SignedEditIn : Edit → List ℕ → Type 0
SignedEditIn e = Both (SignedKind e.kind) (FromRow e)

-- The image of a store, and reading one into a store.
use Rattle.std.specs.Prelude.{◌≡◌, ℕ, Bool, true, false, ◌&&◌, List, length, take, Ok, Err, Result, ◌==◌}
use Rattle.record.specs.declared.entry.Entry.{Entry}
use Rattle.record.specs.declared.kinds.Ballot.{Ballot}
use Rattle.store.specs.Stores.{StoreState, Sound, cleared}
use Rattle.image.specs.declared.fault.ImageFault.{ImageFault}
use Rattle.image.specs.declared.fault.ImageFault.TheVariants.{NotEmpty}
use Rattle.image.specs.declared.fault.WriteFault.{WriteFault}
use Rattle.image.specs.Images.{image, ImageRead}
use Rattle.image.specs.Writing.{write_answer, write_after}
use Rattle.image.specs.Laws.{Proper}

-- The image of a store is that of its term and vote and of its durable entries.
abbrev pub ballot_of : StoreState → Ballot
ballot_of m = record { term = m.term; vote = m.vote }

abbrev pub durable_of : StoreState → List Entry
durable_of m = take m.durable m.entries

abbrev pub image_of : StoreState → List ℕ
image_of m = image (ballot_of m) (durable_of m)

-- It can be written where the store's numbers are in range, and is read back then.
abbrev pub Writable : StoreState → Type 0
Writable m = Proper (ballot_of m) (durable_of m)

-- Writing it answers and leaves what writing such contents does.
abbrev pub image_answer : StoreState → (room : ℕ) → Result ℕ WriteFault
image_answer m room = write_answer (ballot_of m) (durable_of m) room

abbrev pub image_after : StoreState → List ℕ → List ℕ
image_after m buffer = write_after (ballot_of m) (durable_of m) buffer

-- A store is empty where its term, its vote and its length are 0: it means what clearing leaves.
abbrev pub is_empty : StoreState → Bool
is_empty m = m.term == 0 && (m.vote == 0 && length m.entries == 0)

abbrev pub EmptyIsCleared : Type 0
EmptyIsCleared = (m : StoreState) → Sound m → is_empty m ≡ true → m ≡ cleared

-- Reading into an empty store leaves it with what was read, every entry durable; or, with a fault, as it was.
abbrev pub loaded : Ballot → List Entry → StoreState
loaded b es = record { term = b.term; vote = b.vote; entries = es; durable = length es }

abbrev pub left_by : StoreState → Result (Ballot × List Entry) ImageFault → StoreState
left_by before (Ok p) = loaded p.0 p.1
left_by before (Err e) = before

abbrev pub ended_by : Result (Ballot × List Entry) ImageFault → Result (Unit {0}) ImageFault
ended_by (Ok p) = Ok tt
ended_by (Err e) = Err e

-- what a store keeps of another whose image it was read from: term, vote and durable entries, every entry durable
abbrev pub durable_part : StoreState → StoreState
durable_part m = loaded (ballot_of m) (durable_of m)

-- Reading into a store: the answer, and what the store means after it.
pub record ReadInto (before : StoreState) (bytes : List ℕ) (r : Result (Unit {0}) ImageFault) (after : StoreState) : Type 0 where
  pub not_empty : is_empty before ≡ false → (r ≡ Err NotEmpty) × (after ≡ before)
  pub empty : is_empty before ≡ true
      → (a : Result (Ballot × List Entry) ImageFault) × ImageRead bytes a × (r ≡ ended_by a) × (after ≡ left_by before a)

-- Into an empty store, the image of a store reads back to its term, its vote and its durable entries, and is never refused.
abbrev pub ReadsBackInto : (before : StoreState) (bytes : List ℕ) (r : Result (Unit {0}) ImageFault) (after : StoreState) → Type 0
ReadsBackInto before bytes r after =
    (m : StoreState) → Writable m → bytes ≡ image_of m → is_empty before ≡ true → (r ≡ Ok tt) × (after ≡ durable_part m)

-- Bytes that are accepted are the image of the store that they were read into, which can be written.
abbrev pub Accepted : (bytes : List ℕ) (r : Result (Unit {0}) ImageFault) (after : StoreState) → Type 0
Accepted bytes r after = r ≡ Ok tt → (bytes ≡ image_of after) × Writable after

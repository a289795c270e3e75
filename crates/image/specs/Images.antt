-- Images, and how one is read.
use Rattle.std.specs.Prelude.{◌≡◌, ℕ, ◌+◌, ◌<◌, ◌⊎◌, List, [], ◌∷◌, ◌++◌, length, take, Some, None, Ok, Err, Option, Result}
use Rattle.std.specs.Borrow.{Bor}
use Rattle.record.specs.declared.entry.Entry.{Entry}
use Rattle.record.specs.declared.kinds.Ballot.{Ballot}
use Rattle.record.specs.declared.kinds.Record.{Record}
use Rattle.record.specs.declared.kinds.Record.TheVariants.{Opening, Logged}
use Rattle.record.specs.declared.fault.RecordFault.{RecordFault}
use Rattle.record.specs.Format.{encode, Fitting, fault_at}
use Rattle.image.specs.declared.contents.Contents.{Contents}
use Rattle.image.specs.declared.fault.ImageFault.{ImageFault}
use Rattle.image.specs.declared.fault.ImageFault.TheVariants.{InRecord}
use Rattle.image.specs.Rules.{opening_fault, entry_fault}

-- An image: one opening record, then one record for each entry.
abbrev pub entries_in : List Entry → List ℕ
entries_in [] = []
entries_in (e ∷ es) = encode (Logged e) ++ entries_in es

abbrev pub image : Ballot → List Entry → List ℕ
image b es = encode (Opening b) ++ entries_in es

-- The record that the bytes begin with is at fault: it cannot be read, or it breaks a rule.
abbrev pub AtFault : (Record → Option ImageFault) → (offset : ℕ) → List ℕ → ImageFault → Type 0
AtFault rule off bs e =
    ((f : RecordFault) × (fault_at off bs ≡ Some f) × (e ≡ InRecord f))
    ⊎ ((r : Record) × (rest : List ℕ) × Fitting r × (bs ≡ encode r ++ rest) × (rule r ≡ Some e))

-- The bytes begin with a record that breaks no rule, and the rest follows.
abbrev pub Right : (Record → Option ImageFault) → List ℕ → Record → List ℕ → Type 0
Right rule bs r rest = Fitting r × (bs ≡ encode r ++ rest) × (rule r ≡ None)

-- an entry in front of an answer
abbrev pub after : Entry → Result (List Entry) ImageFault → Result (List Entry) ImageFault
after x (Ok es) = Ok (x ∷ es)
after x (Err e) = Err e

-- Reading on, after so many entries, of which the last had the term low, in a log whose terms go up to high:
-- the entries that the bytes hold, up to the end, or the first fault.
pub data Reads (high : ℕ) : (count low offset : ℕ) → List ℕ → Result (List Entry) ImageFault → Type 0 where
  -- no bytes are left
  ends : {n low off : ℕ} {bs : List ℕ} {a : Result (List Entry) ImageFault} → bs ≡ [] → a ≡ Ok [] → Reads high n low off bs a
  -- the next record is at fault
  wrong : {n low off : ℕ} {bs : List ℕ} {a : Result (List Entry) ImageFault} (e : ImageFault)
      → 0 < length bs → AtFault (entry_fault high n low off) off bs e → a ≡ Err e → Reads high n low off bs a
  -- the next record is an entry, of 26 bytes
  right : {n low off : ℕ} {bs : List ℕ} {a : Result (List Entry) ImageFault} (x : Entry) (rest : List ℕ) (es : Result (List Entry) ImageFault)
      → Right (entry_fault high n low off) bs (Logged x) rest → Reads high (n + 1) x.term (off + 26) rest es → a ≡ after x es
      → Reads high n low off bs a

-- the ballot with an answer
abbrev pub with_ballot : Ballot → Result (List Entry) ImageFault → Result (Ballot × List Entry) ImageFault
with_ballot b (Ok es) = Ok (b, es)
with_ballot b (Err e) = Err e

-- Behind the opening record, at offset 10, come the entries: none was read yet.
abbrev pub EntriesRead : Ballot → List ℕ → Result (Ballot × List Entry) ImageFault → Type 0
EntriesRead b bs a = (es : Result (List Entry) ImageFault) × Reads b.term 0 0 10 bs es × (a ≡ with_ballot b es)

-- the opening record and the rest, or its fault
abbrev pub OpeningRead : List ℕ → Result (Ballot × List ℕ) ImageFault → Type 0
OpeningRead bs (Ok p) = Right opening_fault bs (Opening p.0) p.1
OpeningRead bs (Err e) = AtFault opening_fault 0 bs e

-- The answer to any bytes: the ballot and the entries of the image that they are, or the first fault.
pub data ImageRead (bs : List ℕ) (a : Result (Ballot × List Entry) ImageFault) : Type 0 where
  -- the first record is at fault
  wrong_first : (e : ImageFault) → AtFault opening_fault 0 bs e → a ≡ Err e → ImageRead bs a
  -- the first record is an opening, and entries follow
  right_first : (b : Ballot) (rest : List ℕ) → Right opening_fault bs (Opening b) rest → EntriesRead b rest a → ImageRead bs a

-- what the code holds and answers
abbrev pub held : Contents → List Entry
held c = take c.len c.entries

abbrev pub contained : Result Contents ImageFault → Result (Ballot × List Entry) ImageFault
contained (Ok c) = Ok (c.ballot, held c)
contained (Err e) = Err e

abbrev pub opened : Result (Ballot × Bor (List ℕ)) ImageFault → Result (Ballot × List ℕ) ImageFault
opened (Ok p) = Ok (p.0, p.1.now)
opened (Err e) = Err e

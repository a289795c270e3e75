-- Records as lists of bytes.
use Rattle.std.specs.Prelude.{◌≡◌, ℕ, ◌+◌, ◌*◌, ◌/◌, ◌%◌, ◌^◌, ◌<◌, cond, ◌||◌, List, [], ◌∷◌, ◌++◌, length, ℤ, Some, None, Ok, Err, Option, Result, FitsSigned, ◌==◌, nat_lt, slice_index}
use Rattle.std.specs.Int.{w32}
use Rattle.std.proofs.Common.{of_z}
use Rattle.std.specs.Borrow.{Bor}
use Rattle.sheet.specs.declared.types.Edit.{Edit}
use Rattle.record.specs.declared.entry.Entry.{Entry}
use Rattle.record.specs.declared.kinds.Ballot.{Ballot}
use Rattle.record.specs.declared.kinds.Record.{Record}
use Rattle.record.specs.declared.kinds.Record.TheVariants.{Opening, Logged}
use Rattle.record.specs.declared.fault.RecordFault.{RecordFault}
use Rattle.record.specs.declared.fault.RecordFault.TheVariants.{Field, WrongLength, UnknownKind}

-- a number in two bytes and in four, the low one first; a signed word in four, in two's complement
unfoldable pub two : ℕ → List ℕ
two n = n % 256 ∷ n / 256 % 256 ∷ []

unfoldable pub four : ℕ → List ℕ
four n = n % 256 ∷ n / 256 % 256 ∷ n / 65536 % 256 ∷ n / 16777216 % 256 ∷ []

unfoldable pub word : ℤ → List ℕ
word z = four (of_z w32 z)

abbrev pub ballot_fields : Ballot → List ℕ
ballot_fields b = four b.term ++ two b.vote

abbrev pub edit_fields : Edit → List ℕ
edit_fields e = two e.kind ++ (word e.row ++ (word e.size ++ (word e.a ++ word e.q)))

abbrev pub entry_fields : Entry → List ℕ
entry_fields e = four e.term ++ edit_fields e.edit

-- A record: the length of what follows the kind, the kind, the fields.
unfoldable pub encode : Record → List ℕ
encode (Opening b) = two 6 ++ (two 1 ++ ballot_fields b)
encode (Logged e) = two 22 ++ (two 2 ++ entry_fields e)

-- the numbers that have room in their fields
abbrev pub BallotFits : Ballot → Type 0
BallotFits b = (b.term < 2 ^ 32) × (b.vote < 2 ^ 16)

abbrev pub EntryFits : Entry → Type 0
EntryFits e =
    (e.term < 2 ^ 32) × (e.edit.kind < 2 ^ 16) × FitsSigned w32 e.edit.row × FitsSigned w32 e.edit.size
    × FitsSigned w32 e.edit.a × FitsSigned w32 e.edit.q

abbrev pub Fitting : Record → Type 0
Fitting (Opening b) = BallotFits b
Fitting (Logged e) = EntryFits e

-- what the four head bytes say
abbrev pub length_in : List ℕ → ℕ
length_in bs = slice_index bs 0 + slice_index bs 1 * 256

abbrev pub kind_in : List ℕ → ℕ
kind_in bs = slice_index bs 2 + slice_index bs 3 * 256

-- The first check that the record at the front of the bytes fails, in the order of checking:
-- fewer bytes than the head needs, or than its length needs; an unknown kind; another length than the kind's.
unfoldable pub fault_at : (offset : ℕ) → List ℕ → Option RecordFault
fault_at off bs =
    cond (nat_lt (length bs) 4 || nat_lt (length bs) (4 + length_in bs)) (Some (Field (record { offset = off })))
    (cond (kind_in bs == 1) (cond (length_in bs == 6) None (Some (WrongLength off)))
    (cond (kind_in bs == 2) (cond (length_in bs == 22) None (Some (WrongLength off)))
    (Some (UnknownKind off))))

-- The answer to bytes that begin at the offset: the record that they begin with and the rest, or the first fault.
abbrev pub RecordRead : List ℕ → ℕ → Result (Record × List ℕ) RecordFault → Type 0
RecordRead bs off (Ok p) = bs ≡ encode p.0 ++ p.1
RecordRead bs off (Err e) = fault_at off bs ≡ Some e

-- Bytes that begin with a record are answered with that record and the rest.
abbrev pub ReadsBack : List ℕ → Result (Record × List ℕ) RecordFault → Type 0
ReadsBack bs r = (x : Record) (rest : List ℕ) → Fitting x → bs ≡ encode x ++ rest → r ≡ Ok (x, rest)

-- the code's answer, with the bytes that its rest points to
abbrev pub answered : Result (Record × Bor (List ℕ)) RecordFault → Result (Record × List ℕ) RecordFault
answered (Ok p) = Ok (p.0, p.1.now)
answered (Err e) = Err e

-- What the format promises.
use Rattle.std.specs.Prelude.{◌≡◌, ℕ, List, ◌++◌, None, Ok, Err, Result}
use Rattle.record.specs.declared.kinds.Record.{Record}
use Rattle.record.specs.declared.fault.RecordFault.{RecordFault}
use Rattle.record.specs.Format.{encode, fault_at, Fitting, RecordRead}

-- bytes that begin with a record begin with no other
abbrev pub Unambiguous : Type 0
Unambiguous = (a b : Record) (x y : List ℕ) → Fitting a → Fitting b → encode a ++ x ≡ encode b ++ y → (a ≡ b) × (x ≡ y)

-- bytes that begin with a record fail no check
abbrev pub NeverRefused : Type 0
NeverRefused = (r : Record) (rest : List ℕ) (off : ℕ) → fault_at off (encode r ++ rest) ≡ None

-- any bytes have one answer
abbrev pub AnswerFits : Result (Record × List ℕ) RecordFault → Type 0
AnswerFits (Ok p) = Fitting p.0
AnswerFits (Err e) = Unit {0}

abbrev pub Determined : Type 0
Determined =
    (bs : List ℕ) (off : ℕ) (r s : Result (Record × List ℕ) RecordFault) → AnswerFits r → AnswerFits s → RecordRead bs off r → RecordRead bs off s
    → r ≡ s

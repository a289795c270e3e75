-- The number of each refusal, and what an answer tells.
use Rattle.std.specs.Prelude.{ℕ, Ok, Err, Result}
use Rattle.refusal.specs.declared.Refusal.{Refusal}
use Rattle.refusal.specs.declared.Refusal.TheVariants.{NoSuchServer, ServerDown, IsLeader, TermLimit, NoSuchMessage, NotLeader, LogFull, SameServer, NothingToApply, TooManyOpen, AlreadyUp, Undecided, NoSuchCell, OutOfBounds}

abbrev pub number_of : Refusal → ℕ
number_of NoSuchServer = 1
number_of ServerDown = 2
number_of IsLeader = 3
number_of TermLimit = 4
number_of NoSuchMessage = 5
number_of NotLeader = 6
number_of LogFull = 7
number_of SameServer = 8
number_of NothingToApply = 9
number_of TooManyOpen = 10
number_of AlreadyUp = 11
number_of Undecided = 12
number_of NoSuchCell = 13
number_of OutOfBounds = 15

-- an answer tells its value, or the number of its refusal
abbrev pub told : {X : Type 0} → Result X Refusal → Result X ℕ
told (Ok x) = Ok x
told (Err e) = Err (number_of e)

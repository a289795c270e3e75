-- What a line tells of an answer.
use Rattle.std.specs.Prelude.{ℕ, List, Some, None, Option, Ok, Err, Result}
use Rattle.refusal.specs.Numbers.{number_of}
use Rattle.protocol.specs.declared.Status.{Status}
use Rattle.command.specs.declared.types.Told.{Told}
use Rattle.command.specs.declared.types.Told.TheVariants.{Done, Lost, Ticket, Kept, Standing, Cell as CellTold}
use Rattle.command.specs.declared.types.Problem.{Problem}
use Rattle.command.specs.declared.types.Problem.TheVariants.{NoCommand, Refused}
use Rattle.command.specs.declared.types.Found.{Found}
use Rattle.command.specs.declared.types.Found.TheVariants.{Count, Word, Cell}
use Rattle.command.specs.declared.reply.Reply.{Reply}

-- The number of the refusal; 14 where the line is no command.
abbrev pub problem_number : Problem → ℕ
problem_number NoCommand = 14
problem_number (Refused refusal) = number_of refusal

-- 0, or the number of the problem.
abbrev pub number_shown : Result Told Problem → ℕ
number_shown (Ok told) = 0
number_shown (Err problem) = problem_number problem

-- What an outage, a standing or a look found; every other call finds nothing.
abbrev pub found_in : Told → Option Found
found_in Done = None
found_in (Lost count) = None
found_in (Ticket number term) = None
found_in (Kept count) = Some (Count count)
found_in (Standing standing) = Some (Word standing)
found_in (CellTold tenths) = Some (Cell tenths)

-- What the line of an answer ends with.
abbrev pub ending_of : Result Told Problem → Option Found
ending_of (Ok told) = found_in told
ending_of (Err problem) = None

-- What is told of an answer, and of the servers after it.
abbrev pub reply_to : Result Told Problem → List Status → Reply
reply_to answer servers = record { number = number_shown answer; servers = servers; found = ending_of answer }

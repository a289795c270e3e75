-- What making a command promises.
use Rattle.std.specs.Prelude.{ℕ, min, not, ℤ, pos, ◌==◌, Ok, Err, Result}
use Rattle.refusal.specs.declared.Refusal.{Refusal}
use Rattle.refusal.specs.Numbers.{told}
use Rattle.store.specs.declared.Store.{Ghosts as StoreGhosts}
use Rattle.machine.specs.declared.state_machine.StateMachine.{Ghosts as MachineGhosts}
use Rattle.protocol.specs.Calls.{Call, campaign, deliver, lose, propose, firm, send, apply, outage, restart, standing, look}
use Rattle.protocol.specs.Calls.{Answer as Said, said, done, lost, ticket, keeps, word, cell}
use Rattle.cluster.specs.declared.state.Cluster.{Cluster}
use Rattle.cluster.specs.Called.{Calls}
use Rattle.command.specs.declared.types.Command.{Command}
use Rattle.command.specs.declared.types.Command.TheVariants.{Campaign, Deliver, Lose, Propose, Firm, Send, Apply, Outage, Restart, Standing as StandingAt, Look}
use Rattle.command.specs.declared.types.Told.{Told}
use Rattle.command.specs.declared.types.Told.TheVariants.{Done, Lost, Ticket, Kept, Standing, Cell}

-- what was told, as the rules have it
abbrev pub said_of : Told → Said
said_of Done = done
said_of (Lost count) = lost count
said_of (Ticket number term) = ticket number term
said_of (Kept count) = keeps count
said_of (Standing found) = word found
said_of (Cell tenths) = cell tenths

-- an answer as the rules have it: what was told, or the number of the refusal
abbrev pub answer_of : Result Told ℕ → Said
answer_of = said said_of

-- how many entries an outage kept, by its answer
abbrev pub kept_of : Told → ℕ
kept_of Done = 0
kept_of (Lost count) = 0
kept_of (Ticket number term) = 0
kept_of (Kept count) = count
kept_of (Standing found) = 0
kept_of (Cell tenths) = 0

abbrev pub kept_in : {E : Type 0} → Result Told E → ℕ
kept_in (Ok told) = kept_of told
kept_in (Err problem) = 0

-- a row or a size as a word of 32 bits; a number that is none is taken as the largest, which names no row and no size
abbrev pub as_word : ℕ → ℤ
as_word n = pos (min n 2147483647)

-- The call of a command; of an outage, with the count that was kept.
abbrev pub call_of : Command → ℕ → Call
call_of (Campaign server) kept = campaign server
call_of (Deliver position keep) kept = deliver position (not (keep == 0))
call_of (Lose position) kept = lose position
call_of (Propose server edit) kept = propose server edit
call_of (Firm server) kept = firm server
call_of (Send server receiver) kept = send server receiver
call_of (Apply server) kept = apply server
call_of (Outage server wish) kept = outage server kept
call_of (Restart server) kept = restart server
call_of (StandingAt server number term) kept = standing server number term
call_of (Look server row size) kept = look server (as_word row) (as_word size)

-- The command's call was made: answer and cluster after it are the rules', and every run that led here goes on with it and keeps its promises.
abbrev pub Makes : {S M : Type 0} {s : StoreGhosts S} {m : MachineGhosts M} → Command → Result Told Refusal → Cluster S M s m → Cluster S M s m → Type 0
Makes k a before later = Calls (call_of k (kept_in a)) (answer_of (told a)) before later

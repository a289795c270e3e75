-- What answering a line promises.
use Rattle.std.specs.Prelude.{◌≡◌, ℕ, List, [], ◌∷◌, Ok, Err, Result}
use Rattle.protocol.specs.declared.ServerId.TheVariants.{One, Two, Three}
use Rattle.protocol.specs.State.{Machine, Cluster as Model}
use Rattle.cluster.specs.Statuses.{status_of}
use Rattle.cluster.specs.Called.{Called}
use Rattle.command.specs.declared.types.Command.{Command}
use Rattle.command.specs.declared.types.Told.{Told}
use Rattle.command.specs.declared.types.Problem.{Problem}
use Rattle.command.specs.declared.types.Problem.TheVariants.{NoCommand}
use Rattle.command.specs.Grammar.{Reads}
use Rattle.command.specs.Shown.{shown}
use Rattle.command.specs.Told.{problem_number, reply_to}
use Rattle.session.specs.Made.{call_of, kept_in, answer_of}

-- what was told, or the number of the problem
abbrev pub told_problem : {X : Type 0} → Result X Problem → Result X ℕ
told_problem (Ok x) = Ok x
told_problem (Err problem) = Err (problem_number problem)

-- A line that reads as a command has the command's call made; any other changes nothing and is answered by 14.
pub record Heeds {X : Type 0} (K : Machine X) (line : List ℕ) (answer : Result Told Problem) (before later : Model X) : Type 0 where
  pub made : (k : Command) → Reads line k → Called K (call_of k (kept_in answer)) (answer_of (told_problem answer)) before later
  pub unread : ((k : Command) → Reads line k → ⊥) → (answer ≡ Err NoCommand) × (later ≡ before)

-- The line is heeded. The text tells the answer, and each server after it.
pub record Answered {X : Type 0} (K : Machine X) (line text : List ℕ) (before later : Model X) : Type 0 where
  pub answer : Result Told Problem
  pub heeds : Heeds K line answer before later
  pub shows : text ≡ shown (reply_to answer (status_of (later.core.server One) ∷ status_of (later.core.server Two) ∷ status_of (later.core.server Three) ∷ []))

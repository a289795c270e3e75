-- What running a list of commands promises.
use Rattle.std.specs.Prelude.{◌≡◌, List, [], ◌∷◌, length, Result}
use Rattle.protocol.specs.State.{Machine, Cluster as Model, opening}
use Rattle.protocol.specs.Runs.{History, Run, following}
use Rattle.protocol.specs.Promises.{Promises}
use Rattle.command.specs.declared.types.Command.{Command}
use Rattle.refusal.specs.declared.Refusal.{Refusal}
use Rattle.refusal.specs.Numbers.{told}
use Rattle.command.specs.declared.types.Told.{Told}
use Rattle.session.specs.Made.{call_of, kept_in, answer_of}

-- the call of each command, with its answer
abbrev pub history_of : List Command → List (Result Told Refusal) → History
history_of [] answers = []
history_of (k ∷ ks) [] = []
history_of (k ∷ ks) (a ∷ answers) = (call_of k (kept_in a), answer_of (told a)) ∷ history_of ks answers

-- Every command was answered; calls and answers are a run of the rules from the opening; it led to this cluster;
-- and it keeps all promises at each of its moments.
pub record Ran {X : Type 0} (K : Machine X) (ks : List Command) (answers : List (Result Told Refusal)) (later : Model X) : Type 0 where
  pub all : length answers ≡ length ks
  pub runs : Run K (history_of ks answers)
  pub leads : later ≡ following K (opening K) (history_of ks answers)
  pub promises : Promises K (history_of ks answers)

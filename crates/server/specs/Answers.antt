-- What the calls at one server answer.
use Rattle.std.specs.Prelude.{ℕ, Bool, cond, not, ◌||◌, Ok, Err, Result}
use Rattle.std.specs.Result.{result_map_both}
use Rattle.refusal.specs.declared.Refusal.{Refusal}
use Rattle.refusal.specs.Numbers.{number_of}
use Rattle.protocol.specs.declared.ServerId.{ServerId}
use Rattle.protocol.specs.declared.Message.{Message}
use Rattle.protocol.specs.ServerIds.{same}
use Rattle.protocol.specs.State.{Server as State, is_leader}
use Rattle.protocol.specs.AppendEntries.{append_request}
use Rattle.protocol.specs.Rules.{may_keep}
use Rattle.server.specs.declared.Proposed.{Proposed}

-- what a proposal is known by
abbrev pub pair_of : Proposed → ℕ × ℕ
pair_of p = (p.number, p.term)

-- a proposal's number and term, or the number of its refusal
abbrev pub told_proposed : Result Proposed Refusal → Result (ℕ × ℕ) ℕ
told_proposed = result_map_both pair_of number_of

-- The append request of a leader to another.
abbrev pub request_answer : ServerId → ServerId → State → Result Message ℕ
request_answer j r s = cond s.up (cond (is_leader s.role) (cond (same j r) (Err 8) (Ok (append_request j s r))) (Err 6)) (Err 2)

-- How many entries an outage told that it kept, 0 where it was refused.
abbrev pub kept_by : Result ℕ Refusal → ℕ
kept_by (Ok c) = c
kept_by (Err e) = 0

-- An up server may keep that many.
abbrev pub may_keep_at : ℕ → State → Bool
may_keep_at c s = not s.up || may_keep c s

-- What is told of tickets.
use Rattle.std.specs.Prelude.{◌≡◌, ℕ, Ok, Err, Result}
use Rattle.std.specs.Result.{result_map_both}
use Rattle.refusal.specs.declared.Refusal.{Refusal}
use Rattle.refusal.specs.Numbers.{number_of}
use Rattle.protocol.specs.declared.Standing.{Standing}
use Rattle.protocol.specs.declared.Standing.TheVariants.{Kept as KeptWord, Gone as GoneWord}
use Rattle.server.specs.Answers.{pair_of}
use Rattle.server.specs.declared.tickets.Ticket.{Ticket}
use Rattle.server.specs.declared.tickets.Outcome.{Outcome}
use Rattle.server.specs.declared.tickets.Outcome.TheVariants.{Kept, Gone}
use Rattle.server.specs.declared.tickets.Unclosed.{Unclosed}

-- a ticket's number and term, or the number of the refusal
abbrev pub told_ticket : Result Ticket Refusal → Result (ℕ × ℕ) ℕ
told_ticket = result_map_both (λ t. pair_of t.proposed) number_of

-- an outcome, as the word of a standing
abbrev pub outcome_word : Outcome → Standing
outcome_word Kept = KeptWord
outcome_word Gone = GoneWord

abbrev pub told_outcome : Result Outcome Refusal → Result Standing ℕ
told_outcome = result_map_both outcome_word number_of

-- the outcome of a closed ticket, or the number of the refusal
abbrev pub told_closed : Result Outcome Unclosed → Result Standing ℕ
told_closed = result_map_both outcome_word (λ u. number_of u.refusal)

-- a refused close hands the same ticket back
abbrev pub HandsBack : Result Outcome Unclosed → Ticket → Type 0
HandsBack (Ok o) t = Unit {0}
HandsBack (Err u) t = u.ticket ≡ t

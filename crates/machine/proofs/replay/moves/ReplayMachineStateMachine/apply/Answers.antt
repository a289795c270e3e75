use Rattle.std.proofs.Common.{◌≡◌, ℕ, ◌<◌, ◌≤◌, List, [], ◌∷◌, ◌++◌, length, Ok, Err, Result, MatchResult, ap, ◌∙◌}
use Rattle.refusal.specs.declared.Refusal.{Refusal}
use Rattle.refusal.specs.declared.Refusal.TheVariants.{OutOfBounds}
use Rattle.sheet.specs.declared.types.Edit.{Edit}
use Rattle.sheet.specs.Cells.{cells_of}
use Rattle.sheet.specs.Rules.{opening, next}
use Rattle.machine.specs.States.{applied}
use Rattle.machine.specs.Sheets.{replay_states, steps_on}
use Rattle.machine.specs.Counts.{applied_is, applied_same}
use Rattle.machine.specs.StepsOn.{on_count, on_more}
use Rattle.machine.proofs.replay.moves.ReplayMachineStateMachine.apply.Goals as goal

pushed : (r : Result (Unit {0}) Refusal) (s : List (List ℕ)) (es more : List Edit) (e : Edit)
    → MatchResult r (λ _. (length es < 16) × (more ≡ es ++ e ∷ [])) (λ x. (x ≡ OutOfBounds) × (16 ≤ length es) × (more ≡ es))
    → steps_on (s ∷ []) more ≡ applied opening next e (steps_on (s ∷ []) es)
pushed (Ok u) s es more e h = ap (steps_on (s ∷ [])) h.1 ∙ on_more opening s es e ∙ applied_is _ (length es) (on_count s es) opening next e h.0
pushed (Err x) s es more e h = ap (steps_on (s ∷ [])) h.2 ∙ applied_same _ (length es) (on_count s es) opening next e h.1

pub returns-clause-after : goal.returns-clause-after
unfolding replay_states
returns-clause-after c =
    pushed c.push.result (cells_of c.args.self.now.oldest) c.args.self.now.edits.items.items c.push.new.self.items.items c.args.edit c.push.ensures.items

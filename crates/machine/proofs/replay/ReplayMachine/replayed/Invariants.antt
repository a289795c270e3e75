use Rattle.std.proofs.Common.{◌≡◌, [], ◌∷◌, take, vec_items}
use Rattle.sheet.specs.Cells.{cells_of}
use Rattle.sheet.specs.Rules.{opening}
use Rattle.machine.specs.States.{newest}
use Rattle.machine.specs.Sheets.{steps_on}
use Rattle.machine.proofs.replay.ReplayMachine.replayed.Given as goal

abbrev pub invariant-loop-edit : goal.invariant-loop-edit
invariant-loop-edit l = cells_of l.sheet ≡ newest opening (steps_on (cells_of l.self.oldest ∷ []) (take l.edit-index (vec_items l.self.edits.items)))

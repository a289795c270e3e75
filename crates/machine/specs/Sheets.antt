-- What the two machines over sheets keep, and the states that it means.
use Rattle.std.specs.Prelude.{ℕ, List, [], ◌∷◌, reverse, vec_items}
use Rattle.sheet.specs.declared.types.Edit.{Edit}
use Rattle.sheet.specs.Cells.{cells_of, row_in}
use Rattle.sheet.specs.Rules.{next, replaced_by}
use Rattle.machine.specs.declared.undo.Replaced.{Replaced}
use Rattle.machine.specs.declared.undo.UndoMachine.{UndoMachine}
use Rattle.machine.specs.declared.replay.ReplayMachine.{ReplayMachine}

-- A replaced row put back.
abbrev pub put_back : List (List ℕ) → Replaced → List (List ℕ)
put_back s u = replaced_by s u.number (row_in u.row)

-- a sheet, and what is left of it as replaced rows are put back, one after the other
abbrev pub steps_back : List (List ℕ) → List Replaced → List (List (List ℕ))
steps_back s [] = s ∷ []
steps_back s (u ∷ us) = s ∷ steps_back (put_back s u) us

-- The undo machine has the newest sheet and the replaced rows, oldest first.
unfoldable pub undo_states : UndoMachine → List (List (List ℕ))
undo_states m = steps_back (cells_of m.newest) (reverse (vec_items m.replaced.items))

-- the states after some edits more
abbrev pub steps_on : List (List (List ℕ)) → List Edit → List (List (List ℕ))
steps_on [] es = []
steps_on (s ∷ ss) [] = s ∷ ss
steps_on (s ∷ ss) (e ∷ es) = steps_on (next s e ∷ s ∷ ss) es

-- The replay machine has the oldest sheet and the open edits, oldest first.
unfoldable pub replay_states : ReplayMachine → List (List (List ℕ))
replay_states m = steps_on (cells_of m.oldest ∷ []) (vec_items m.edits.items)

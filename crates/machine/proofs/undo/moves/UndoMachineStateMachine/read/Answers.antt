use Rattle.std.proofs.Common.{◌≡◌, ℕ, List, reverse, vec_items, sym, ap, ◌∙◌, w32, SFits}
use Rattle.std.proofs.lemmas.Int.{to_z-of_z}
use Rattle.refusal.specs.Numbers.{told}
use Rattle.sheet.specs.Cells.{cells_of}
use Rattle.sheet.specs.Rules.{opening, cell_at}
use Rattle.machine.specs.States.{read_answer}
use Rattle.machine.specs.Sheets.{undo_states}
use Rattle.machine.specs.Counts.{read_told}
use Rattle.machine.specs.StepsBack.{back_newest}
use Rattle.machine.proofs.undo.moves.UndoMachineStateMachine.read.Goals as goal

pub returns : goal.returns
unfolding undo_states
returns c =
    let f : SFits w32 c.args.row = c.ranges.row in
    let g : SFits w32 c.args.size = c.ranges.size in
    let e : c.cell.result ≡ cell_at (cells_of c.args.self.now.newest) c.args.row c.args.size = simp to_z-of_z at c.cell.ensures in
    ap told c.ok_or.ensures.value ∙ read_told c.cell.result
    ∙ ap read_answer (e ∙ ap (λ (s : List (List ℕ)). cell_at s c.args.row c.args.size)
    (sym (back_newest opening (cells_of c.args.self.now.newest) (reverse (vec_items c.args.self.now.replaced.items)))))

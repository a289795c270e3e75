use Rattle.std.proofs.Common.{◌≡◌, ℤ, ap, ◌∙◌, w32, SFits, rules}
use Rattle.std.proofs.lemmas.Int.{to_z-of_z}
use Rattle.sheet.specs.Cells.{cells_of, row_in}
use Rattle.sheet.specs.Rules.{row_at, replaced_by, next}
use Rattle.machine.specs.StepsBack.{back_from_next}
use Rattle.machine.proofs.undo.moves.replaced_by.Goals as goal

pub returns : goal.returns
returns c =
    let f : SFits w32 c.args.edit.row = search rules in
    let s = cells_of c.args.sheet.now in
    let e : row_in c.row.result ≡ row_at s c.args.edit.row = simp to_z-of_z at c.row.ensures in
    ap (λ (n : ℤ). replaced_by (next s c.args.edit) n (row_in c.row.result)) (to_z-of_z w32 c.args.edit.row f)
    ∙ back_from_next s c.args.edit (row_in c.row.result) e

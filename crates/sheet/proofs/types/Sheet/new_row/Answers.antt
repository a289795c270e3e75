use Rattle.std.proofs.Common.{◌≡◌, ℕ, Ok, Some, sym, ap, ◌∙◌, arith, rules, w32, SFits}
use Rattle.std.proofs.lemmas.Int.{to_z-of_z}
use Rattle.std.proofs.lemmas.Bool.Decides.{nat_tests}
use Rattle.sheet.specs.declared.kind.Kind.{Kind}
use Rattle.sheet.specs.declared.kind.Kind.TheVariants.{Set, Grade, Copy}
use Rattle.sheet.specs.Cells.{cells_of, row_in}
use Rattle.sheet.specs.Kinds.{number_of, kind_of}
use Rattle.sheet.specs.Rules.{row_at, set_row, grade_row}
use Rattle.sheet.proofs.types.Sheet.new_row.Goals as goal

kind_numbers : (n : ℕ) (k : Kind) → kind_of n ≡ Ok k → n ≡ number_of k
kind_numbers n k h = grind (arith, nat_tests)

pub returns-in-Ok-Set : goal.returns-in-Ok-Set
returns-in-Ok-Set c =
    let f : SFits w32 c.args.edit.row = search rules in
    let g : SFits w32 c.args.edit.size = search rules in
    let h : SFits w32 c.args.edit.a = search rules in
    let n : c.args.edit.kind ≡ 1 = kind_numbers c.args.edit.kind Set (sym c.try_from.ensures ∙ c.in-Ok-Set.is ∙ ap Ok c.in-Ok-Set.field-0-is) in
    let o : row_at (cells_of c.args.self.now) c.args.edit.row ≡ Some c.in_ok-old.old.cells = sym (simp to_z-of_z at c.in_ok-old.ensures) in
    let e : row_in c.set.result ≡ set_row c.in_ok-old.old.cells c.args.edit.size c.args.edit.a = simp to_z-of_z at c.set.ensures in
    rw (o, n) e

pub returns-in-Ok-Grade : goal.returns-in-Ok-Grade
returns-in-Ok-Grade c =
    let f : SFits w32 c.args.edit.row = search rules in
    let g : SFits w32 c.args.edit.size = search rules in
    let h : SFits w32 c.args.edit.a = search rules in
    let k : SFits w32 c.args.edit.q = search rules in
    let n : c.args.edit.kind ≡ 2 = kind_numbers c.args.edit.kind Grade (sym c.try_from.ensures ∙ c.in-Ok-Grade.is ∙ ap Ok c.in-Ok-Grade.field-0-is) in
    let o : row_at (cells_of c.args.self.now) c.args.edit.row ≡ Some c.in_ok-old.old.cells = sym (simp to_z-of_z at c.in_ok-old.ensures) in
    let e : row_in c.grade.result ≡ grade_row c.in_ok-old.old.cells c.args.edit.size c.args.edit.a c.args.edit.q = simp to_z-of_z at c.grade.ensures.cells in
    rw (o, n) e

pub returns-in-Ok-Copy : goal.returns-in-Ok-Copy
returns-in-Ok-Copy c =
    let f : SFits w32 c.args.edit.row = search rules in
    let h : SFits w32 c.args.edit.a = search rules in
    let n : c.args.edit.kind ≡ 3 = kind_numbers c.args.edit.kind Copy (sym c.try_from.ensures ∙ c.in-Ok-Copy.is ∙ ap Ok c.in-Ok-Copy.field-0-is) in
    let o : row_at (cells_of c.args.self.now) c.args.edit.row ≡ Some c.in_ok-old.old.cells = sym (simp to_z-of_z at c.in_ok-old.ensures) in
    let e : row_in c.row-in-Ok-Copy.result ≡ row_at (cells_of c.args.self.now) c.args.edit.a = simp to_z-of_z at c.row-in-Ok-Copy.ensures in
    rw (o, n) e

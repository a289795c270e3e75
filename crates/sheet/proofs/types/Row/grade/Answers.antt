use Rattle.std.proofs.Common.{◌≡◌, ℕ, length, pos, ap, ◌∙◌, arith, rules, w32, SFits}
use Rattle.std.proofs.lemmas.Int.{to_z-of_z}
use Rattle.sheet.specs.Cells.{row_in}
use Rattle.sheet.specs.Rules.{graded, graded_cells}
use Rattle.sheet.proofs.Nearest.{grade_is}
use Rattle.sheet.proofs.Ranges.{ranged_set, graded_more, graded_out, row_is, fitted_none, fitted_cells}
use Rattle.sheet.proofs.types.Row.grade.Goals as goal

pub returns-in_err-cell : goal.returns-in_err-cell
unfolding graded_cells
returns-in_err-cell c =
    let f : SFits w32 c.args.size = c.ranges.size in
    let h : SFits w32 c.args.a = c.ranges.a in
    let k : SFits w32 c.args.q = c.ranges.q in
    let g = c.in_ok-grading.grading in
    let e = simp to_z-of_z at c.in_ok-grading.ensures in
    let o = graded_out (λ (s : ℕ). graded g.base g.size g.a g.q (pos s)) c.loop-i.i c.loop-i-test.true c.in_err-cell.ensures in
    let r = grade_is c.args.self.cells g.base c.args.size c.args.a c.args.q g.size g.a g.q e.0 e.1 e.2 e.3 e.4 g.ranged_q.0 _
    (ap row_in c.from_residual-in_err-cell.ensures ∙ fitted_none (graded_cells g.base g.size g.a g.q) o) in
    record { cells = r.0; nearest = r.1 }

pub loop-i-preserved : goal.loop-i-preserved
loop-i-preserved c =
    let e = c.in_ok-cell.ensures in
    let l : length c.loop-i.cell-items ≡ 12 = search rules in (
      ranged_set c.loop-i.cell-items c.loop-i.i c.in_ok-cell.field-0 e.1 c.loop-i.invariant.0,
      graded_more c.loop-i.cell-items c.loop-i.i c.in_ok-cell.field-0 _ (omega arith) c.loop-i.invariant.1 e.0,
    )

pub returns : goal.returns
unfolding graded_cells
returns c =
    let f : SFits w32 c.args.size = c.ranges.size in
    let h : SFits w32 c.args.a = c.ranges.a in
    let k : SFits w32 c.args.q = c.ranges.q in
    let g = c.in_ok-grading.grading in
    let e = simp to_z-of_z at c.in_ok-grading.ensures in
    let w = row_is c.loop-i.cell-items (λ (s : ℕ). graded g.base g.size g.a g.q (pos s)) c.loop-i-test.array_long (λ k b. c.loop-i.invariant.1 k (omega arith)) in
    let r = grade_is c.args.self.cells g.base c.args.size c.args.a c.args.q g.size g.a g.q e.0 e.1 e.2 e.3 e.4 g.ranged_q.0 _
    (fitted_cells c.loop-i.cell-items _ c.loop-i.invariant.0 w) in
    record { cells = r.0; nearest = r.1 }

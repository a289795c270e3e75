use Rattle.std.proofs.Common.{◌≡◌, ℕ, ◌+◌, ◌<◌, ◌≤◌, get_or, pos}
use Rattle.sheet.specs.Rules.{graded}
use Rattle.sheet.proofs.types.Row.grade.Given as goal

abbrev pub invariant-loop-i : goal.invariant-loop-i
invariant-loop-i l =
    let g = l.grading in
    ((k : ℕ) → get_or l.cell-items k 0 ≤ 30000) × ((k : ℕ) → k < l.i → pos (get_or l.cell-items k 0) ≡ graded g.base g.size g.a g.q (pos (k + 1)))

use Rattle.std.proofs.Common.{arith, rules, w32, SFits}
use Rattle.std.proofs.lemmas.Int.{ints, to_z-of_z}
use Rattle.sheet.proofs.Ints.{steps}
use Rattle.sheet.proofs.grading.Grading.away.Goals as goal

pub overflow_mul-result-2 : goal.overflow_mul-result-2
overflow_mul-result-2 c =
    let g = c.args.self.now in
    let t = steps g.size g.a g.q c.args.s g.ranged_size g.ranged_a g.ranged_q c.requires in
    let f : SFits w32 c.args.s = c.ranges.s in
    let h : SFits w32 g.size = search rules in
    let k : SFits w32 g.a = search rules in
    let far = t.far in
    let twice = t.twice in
    simp to_z-of_z t.spread

pub overflow_add-result : goal.overflow_add-result
overflow_add-result c =
    let g = c.args.self.now in
    let t = steps g.size g.a g.q c.args.s g.ranged_size g.ranged_a g.ranged_q c.requires in
    let f : SFits w32 c.args.s = c.ranges.s in
    let h : SFits w32 g.size = search rules in
    let k : SFits w32 g.a = search rules in
    let l : SFits w32 g.q = search rules in
    let far = t.far in
    let twice = t.twice in
    let spread = t.spread in
    simp to_z-of_z (omega (arith, ints, t.low_spread, t.high_spread, g.ranged_q))

pub returns : goal.returns
returns c =
    let g = c.args.self.now in
    let t = steps g.size g.a g.q c.args.s g.ranged_size g.ranged_a g.ranged_q c.requires in
    let f : SFits w32 c.args.s = c.ranges.s in
    let h : SFits w32 g.size = search rules in
    let k : SFits w32 g.a = search rules in
    let l : SFits w32 g.q = search rules in
    let far = t.far in
    let twice = t.twice in
    let spread = t.spread in
    simp to_z-of_z (omega (arith, ints, t.low_spread, t.high_spread, g.ranged_q))

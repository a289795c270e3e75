use Rattle.std.proofs.Common.{◌≡◌, pos, ◌+ℤ◌, ◌-ℤ◌, ◌*ℤ◌, arith, rules, w32, SFits}
use Rattle.std.proofs.lemmas.Int.{ints, to_z-of_z}
use Rattle.sheet.specs.Rules.{floor_div}
use Rattle.sheet.proofs.Ints.{steps}
use Rattle.sheet.proofs.grading.Grading.number.Goals as goal

pub overflow_add-result : goal.overflow_add-result
overflow_add-result c =
    let g = c.args.self.now in
    let t = steps g.size g.a g.q c.args.s g.ranged_size g.ranged_a g.ranged_q c.requires in
    let f : SFits w32 c.args.s = c.ranges.s in
    let h : SFits w32 g.q = search rules in
    let k : SFits w32 c.away.result = record { sfits = c.away.type_inv } in
    let e : c.away.result ≡ pos 2 *ℤ (c.args.s -ℤ g.size) *ℤ g.a +ℤ g.q = simp to_z-of_z at c.away.ensures in
    let d : c.floor_div.result ≡ floor_div (pos 2 *ℤ (c.args.s -ℤ g.size) *ℤ g.a +ℤ g.q) (pos 2 *ℤ g.q) = rw e at (simp to_z-of_z at c.floor_div.ensures) in
    omega (arith, ints, c.from.ensures, t.low, t.high, g.ranged_base)

pub returns : goal.returns
returns c =
    let g = c.args.self.now in
    let t = steps g.size g.a g.q c.args.s g.ranged_size g.ranged_a g.ranged_q c.requires in
    let f : SFits w32 c.args.s = c.ranges.s in
    let h : SFits w32 g.q = search rules in
    let k : SFits w32 c.away.result = record { sfits = c.away.type_inv } in
    let e : c.away.result ≡ pos 2 *ℤ (c.args.s -ℤ g.size) *ℤ g.a +ℤ g.q = simp to_z-of_z at c.away.ensures in
    let d : c.floor_div.result ≡ floor_div (pos 2 *ℤ (c.args.s -ℤ g.size) *ℤ g.a +ℤ g.q) (pos 2 *ℤ g.q) = rw e at (simp to_z-of_z at c.floor_div.ensures) in
    omega (arith, ints, c.from.ensures, t.low, t.high, g.ranged_base)

use Rattle.std.proofs.Common.{◌≡◌, ℕ, ◌<◌, false, length, set, pos, Some, None, sym, ap, ◌∙◌, arith, rules, w32, SFits}
use Rattle.std.proofs.lemmas.Bool.{cond-true}
use Rattle.std.proofs.lemmas.Int.{to_z-of_z}
use Rattle.sheet.specs.Cells.{row_in}
use Rattle.sheet.specs.Rules.{in_range, place}
use Rattle.sheet.proofs.Ranges.{set_fits, set_out}
use Rattle.sheet.proofs.types.Row.set.Goals as goal

pub returns-in_err-cells : goal.returns-in_err-cells
returns-in_err-cells c =
    let f : SFits w32 c.args.size = c.ranges.size in
    let g : SFits w32 c.args.a = c.ranges.a in
    let i = simp to_z-of_z at c.in_ok-place.ensures in
    let e : in_range c.args.a ≡ false = simp to_z-of_z at c.in_err-cells.ensures in
    let l : length c.args.self.cells ≡ 12 = search rules in
    let p : place c.args.size < length c.args.self.cells = omega arith in
    ap row_in c.from_residual-in_err-cells.ensures ∙ set_out c.args.self.cells (place c.args.size) c.args.a p e ∙ sym (cond-true _ _ None i.0)

pub returns : goal.returns
returns c =
    let f : SFits w32 c.args.size = c.ranges.size in
    let g : SFits w32 c.args.a = c.ranges.a in
    let i = simp to_z-of_z at c.in_ok-place.ensures in
    let e : pos c.in_ok-cells.field-0 ≡ c.args.a = simp to_z-of_z at c.in_ok-cells.ensures.0 in
    ap (λ (k : ℕ). Some (set c.args.self.cells k c.in_ok-cells.field-0)) i.1
    ∙ set_fits c.args.self.cells (place c.args.size) c.in_ok-cells.field-0 c.args.a c.args.self.ranged e c.in_ok-cells.ensures.1
    ∙ sym (cond-true _ _ None i.0)

-- What grading gives is the nearest whole number, and the only one.
use Rattle.std.proofs.Common.{◌≡◌, ℕ, zero, suc, ◌+◌, ◌*◌, ◌<◌, true, List, [], ◌∷◌, map, length, get_or, ℤ, pos, negsuc, ◌+ℤ◌, ◌-ℤ◌, ◌*ℤ◌, nat_abs, ◌≤ℤ◌, ◌<ℤ◌, IfSome, None, Option, sym, refl, ap, ◌∙◌, subst, add-mul, arith}
use lib.IntN.{*ℤ_comm}
use Rattle.std.specs.List.{range_with_len}
use Rattle.std.proofs.lemmas.Int.{ints, by_lt_z}
use Rattle.std.proofs.lemmas.Nat.{mul-le}
use Rattle.std.proofs.lemmas.List.FromFn.{get_or-map-range_with_len}
use Rattle.std.proofs.lemmas.Bool.{false≢true, and_parts, cond_both, cond-true}
use Rattle.sheet.specs.Rules.{may_grade, in_range, all_in_range, fitted, place, floor_div, graded, graded_cells, grade_row}
use Rattle.sheet.specs.Grading.{Nearest, Grades, Graded}
use Rattle.sheet.proofs.Ints.{floors}

-- one more of the factor is one more of the product's step
steps : (f g : ℤ) (d : ℕ) → f <ℤ g → (f *ℤ pos d +ℤ pos d) ≤ℤ (g *ℤ pos d)
steps (pos a) (pos b) d h = let m = mul-le (suc a) d b d (omega (arith, ints)) (omega arith) in let p = add-mul a 1 d in omega (arith, ints)
steps (pos a) (negsuc b) d h = absurd (omega (arith, ints))
steps (negsuc a) (pos b) d h = let p = add-mul a 1 d in omega (arith, ints)
steps (negsuc a) (negsuc b) d h = let m = mul-le (suc b) d a d (omega (arith, ints)) (omega arith) in let p = add-mul a 1 d in omega (arith, ints)

one_floor : (f g z : ℤ) (d : ℕ) → (f *ℤ pos d) ≤ℤ z → z <ℤ (f *ℤ pos d +ℤ pos d) → (g *ℤ pos d) ≤ℤ z → z <ℤ (g *ℤ pos d +ℤ pos d) → f ≡ g
one_floor f g z d f-low f-high g-low g-high =
    by_lt_z f g (λ h. let m = steps f g d h in absurd (omega (arith, ints)))
    (λ h. by_lt_z g f (λ k. let m = steps g f d k in absurd (omega (arith, ints))) (λ k. omega (arith, ints)))

-- the cell less the base, times twice q, is what the floor speaks of
apart : (base : ℕ) (f : ℤ) (q : ℕ) → pos 2 *ℤ pos q *ℤ (pos base +ℤ f -ℤ pos base) ≡ f *ℤ pos (2 * q)
apart base f q =
    let e : pos base +ℤ f -ℤ pos base ≡ f = omega (arith, ints) in
    ap (λ (x : ℤ). pos 2 *ℤ pos q *ℤ x) e ∙ *ℤ_comm (pos (2 * q)) f

nearest : (base : ℕ) (size a s : ℤ) (q : ℕ) → 0 < q → Nearest base size a (pos q) s (graded base size a (pos q) s)
nearest base size a s q h =
    let z : ℤ = pos 2 *ℤ (s -ℤ size) *ℤ a +ℤ pos q in
    let d : 0 < 2 * q = omega arith in
    let f = floors z (2 * q) d in
    let e = apart base (floor_div z (pos (2 * q))) q in
    record { not_above = omega (arith, ints); not_below = omega (arith, ints) }

only : (base : ℕ) (size a s : ℤ) (q : ℕ) → 0 < q → (cell : ℤ) → Nearest base size a (pos q) s cell → cell ≡ graded base size a (pos q) s
only base size a s q h cell n =
    let z : ℤ = pos 2 *ℤ (s -ℤ size) *ℤ a +ℤ pos q in
    let d : 0 < 2 * q = omega arith in
    let f = floors z (2 * q) d in
    let e : pos 2 *ℤ pos q *ℤ (cell -ℤ pos base) ≡ (cell -ℤ pos base) *ℤ pos (2 * q) = *ℤ_comm (pos (2 * q)) (cell -ℤ pos base) in
    let o = one_floor (cell -ℤ pos base) (floor_div z (pos (2 * q))) z (2 * q) (omega (arith, ints)) (omega (arith, ints)) f.0 f.1 in
    omega (arith, ints)

pub grades : Grades
grades = record { nearest = nearest; only = only }

-- numbers that all are in range are the cells that they make
in_range_positive : (z : ℤ) → in_range z ≡ true → pos (nat_abs z) ≡ z
in_range_positive (pos n) e = refl
in_range_positive (negsuc n) e = absurd (false≢true e)

cells_are : (zs : List ℤ) (k : ℕ) → all_in_range zs ≡ true → k < length zs → pos (get_or (map nat_abs zs) k 0) ≡ get_or zs k (pos 0)
cells_are [] k e h = absurd (omega arith)
cells_are (z ∷ zs) zero e h = in_range_positive z (and_parts _ _ e).0
cells_are (z ∷ zs) (suc k) e h = cells_are zs k (and_parts _ _ e).1 (omega arith)

-- each cell of a graded row is the nearest
pub graded_nearest : (old : List ℕ) (size a q : ℤ) → pos 1 ≤ℤ q → (o : Option (List ℕ)) → o ≡ fitted (graded_cells (get_or old (place size) 0) size a q)
    → IfSome o (Graded old size a q)
unfolding graded_cells
graded_nearest old size a (negsuc n) h o e = absurd (omega (arith, ints))
graded_nearest old size a (pos q) h o e =
    let f : ℕ → ℤ = λ s. graded (get_or old (place size) 0) size a (pos q) (pos s) in
    let P : Option (List ℕ) → Type 0 = λ x. IfSome x (Graded old size a (pos q)) in
    let here : (k : ℕ) → k < 12 → Nearest (get_or old (place size) 0) size a (pos q) (pos (k + 1)) (f (k + 1)) =
    λ k b. nearest (get_or old (place size) 0) size a (pos (k + 1)) q (omega (arith, ints)) in
    subst P (sym e) (cond_both (all_in_range (map f (range_with_len 1 12))) _ None P
    (λ t k b. let z : pos (get_or (map nat_abs (map f (range_with_len 1 12))) k 0) ≡ f (k + 1) =
    cells_are (map f (range_with_len 1 12)) k t b ∙ get_or-map-range_with_len f 1 12 k (k + 1) (pos 0) b (omega arith) in
    subst (Nearest (get_or old (place size) 0) size a (pos q) (pos (k + 1))) (sym z) (here k b))
    (λ t. tt))

-- what grading by numbers in their ranges makes of a row
pub grade_is : (old : List ℕ) (base : ℕ) (size a q s b r : ℤ) → may_grade size a q ≡ true
    → base ≡ get_or old (place size) 0 → s ≡ size → b ≡ a → r ≡ q → pos 1 ≤ℤ r → (o : Option (List ℕ)) → o ≡ fitted (graded_cells base s b r)
    → (o ≡ grade_row old size a q) × IfSome o (Graded old size a q)
grade_is old base size a q s b r t at_base at_size at_a at_q h o e =
    let f = rw (at_base, at_size, at_a, at_q) at e in
    (f ∙ sym (cond-true _ _ None t), graded_nearest old size a q (subst (λ (x : ℤ). pos 1 ≤ℤ x) at_q h) o f)

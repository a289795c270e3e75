-- What grading means, said without a quotient.
use Rattle.std.specs.Prelude.{◌≡◌, ℕ, ◌+◌, ◌<◌, List, ℤ, pos, ◌+ℤ◌, ◌-ℤ◌, ◌*ℤ◌, ◌≤ℤ◌, ◌<ℤ◌, slice_index}
use Rattle.sheet.specs.Rules.{place, floor_div, graded}

-- At size s the measure should have moved (s − size) × a / q away from the base. The cell is the whole number nearest to that:
-- q × (cell − base) lies within q / 2 of (s − size) × a, and of two that are as near the cell is the greater. All is doubled here.
pub record Nearest (base : ℕ) (size a q s cell : ℤ) : Type 0 where
  pub not_above : (pos 2 *ℤ q *ℤ (cell -ℤ pos base)) ≤ℤ (pos 2 *ℤ (s -ℤ size) *ℤ a +ℤ q)
  pub not_below : (pos 2 *ℤ (s -ℤ size) *ℤ a) <ℤ (pos 2 *ℤ q *ℤ (cell -ℤ pos base) +ℤ q)

-- what grading gives is nearest, and nothing else is
pub record Grades : Type 0 where
  pub nearest : (base : ℕ) (size a s : ℤ) (q : ℕ) → 0 < q → Nearest base size a (pos q) s (graded base size a (pos q) s)
  pub only : (base : ℕ) (size a s : ℤ) (q : ℕ) → 0 < q → (cell : ℤ) → Nearest base size a (pos q) s cell → cell ≡ graded base size a (pos q) s

-- each cell of the new row is the nearest, from the base cell of the old row
abbrev pub Graded : (old : List ℕ) (size a q : ℤ) (new : List ℕ) → Type 0
Graded old size a q new = (k : ℕ) → k < 12 → Nearest (slice_index old (place size)) size a q (pos (k + 1)) (pos (slice_index new k))

-- the quotient of the rule is the floor: the greatest whole number that, times d, is at most z
abbrev pub Floors : Type 0
Floors = (z : ℤ) (d : ℕ) → 0 < d → ((floor_div z (pos d) *ℤ pos d) ≤ℤ z) × (z <ℤ (floor_div z (pos d) *ℤ pos d +ℤ pos d))

-- The rules of edits, over the cells of a sheet: a list of eight rows, each a list of twelve cells in tenths of a millimetre.
use Rattle.std.specs.Prelude.{ℕ, ◌-◌, Bool, true, cond, ◌&&◌, List, [], ◌∷◌, map, replicate, ℤ, pos, negsuc, ◌+ℤ◌, ◌-ℤ◌, ◌*ℤ◌, Some, None, Option, ◌==◌, int_le, slice_index, slice_index_or, slice_set, unsigned_abs}
use Rattle.std.specs.List.{range_with_len}
use Rattle.std.specs.Int.{int_div_euclid}
use Rattle.sheet.specs.declared.types.Edit.{Edit}

-- low ≤ z ≤ high
abbrev pub between : ℤ → ℤ → ℤ → Bool
between low high z = int_le low z && int_le z high

-- Rows are numbered 1 to 8 and sizes 1 to 12. Every cell lies from 0 to 30,000, and is 0 at opening.
abbrev pub is_row : ℤ → Bool
is_row n = between (pos 1) (pos 8) n

abbrev pub is_size : ℤ → Bool
is_size n = between (pos 1) (pos 12) n

abbrev pub in_range : ℤ → Bool
in_range z = between (pos 0) (pos 30000) z

unfoldable pub opening : List (List ℕ)
opening = replicate 8 (replicate 12 0)

-- the place in a list of what is numbered from 1
abbrev pub place : ℤ → ℕ
place n = unsigned_abs n - 1

-- the row of that number, if there is one
abbrev pub row_at : List (List ℕ) → ℤ → Option (List ℕ)
row_at s n = cond (is_row n) (Some (slice_index_or s (place n) [])) None

-- the sheet with the row of that number replaced; the same sheet where there is no such row
abbrev pub with_row : List (List ℕ) → ℤ → List ℕ → List (List ℕ)
with_row s n r = cond (is_row n) (slice_set s (place n) r) s

-- the cell at that row and size, if there is one
abbrev pub cell_at : List (List ℕ) → ℤ → ℤ → Option ℕ
cell_at s row size = cond (is_row row && is_size size) (Some (slice_index (slice_index_or s (place row) []) (place size))) None

-- these numbers as the cells of a row, unless one of them is out of range
abbrev pub all_in_range : List ℤ → Bool
all_in_range [] = true
all_in_range (z ∷ zs) = in_range z && all_in_range zs

abbrev pub fitted : List ℤ → Option (List ℕ)
fitted zs = cond (all_in_range zs) (Some (map unsigned_abs zs)) None

-- Kind 1: the cell at size becomes a.
abbrev pub set_row : List ℕ → (size a : ℤ) → Option (List ℕ)
set_row old size a = cond (is_size size) (fitted (slice_set (map pos old) (place size) a)) None

-- Kind 2: each size s gets the base cell, the one at size, plus ⌊(2 × (s − size) × a + q) / (2 × q)⌋.
abbrev pub floor_div : ℤ → ℤ → ℤ
floor_div z d = int_div_euclid z d

abbrev pub graded : (base : ℕ) (size a q s : ℤ) → ℤ
graded base size a q s = pos base +ℤ floor_div (pos 2 *ℤ (s -ℤ size) *ℤ a +ℤ q) (pos 2 *ℤ q)

unfoldable pub graded_cells : (base : ℕ) (size a q : ℤ) → List ℤ
graded_cells base size a q = map (λ (s : ℕ). graded base size a q (pos s)) (range_with_len 1 12)

abbrev pub may_grade : (size a q : ℤ) → Bool
may_grade size a q = is_size size && (between (negsuc 99999) (pos 100000) a && between (pos 1) (pos 1000) q)

abbrev pub grade_row : List ℕ → (size a q : ℤ) → Option (List ℕ)
grade_row old size a q =
    cond (may_grade size a q)
    (fitted (graded_cells (slice_index old (place size)) size a q)) None

-- What an edit makes of the row that it names; none where it changes nothing or is set aside. Kind 3 copies row number a.
abbrev pub of_kind : List (List ℕ) → Edit → Option (List ℕ) → Option (List ℕ)
of_kind s e None = None
of_kind s e (Some old) =
    cond (e.kind == 1) (set_row old e.size e.a)
    (cond (e.kind == 2) (grade_row old e.size e.a e.q)
    (cond (e.kind == 3) (row_at s e.a) None))

abbrev pub new_row : List (List ℕ) → Edit → Option (List ℕ)
new_row s e = of_kind s e (row_at s e.row)

-- The sheet after an edit.
abbrev pub replaced_by : List (List ℕ) → ℤ → Option (List ℕ) → List (List ℕ)
replaced_by s n None = s
replaced_by s n (Some r) = with_row s n r

unfoldable pub next : List (List ℕ) → Edit → List (List ℕ)
next s e = replaced_by s e.row (new_row s e)

-- The cells of the code's sheets and rows, as the lists that the rules speak of.
use Rattle.std.specs.Prelude.{ℕ, List, map, Some, None, Option}
use Rattle.sheet.specs.declared.types.Row.{Row}
use Rattle.sheet.specs.declared.types.Sheet.{Sheet}

abbrev pub cells_of : Sheet → List (List ℕ)
cells_of s = map (λ (r : Row). r.cells) s.rows

abbrev pub row_in : Option Row → Option (List ℕ)
row_in None = None
row_in (Some r) = Some r.cells

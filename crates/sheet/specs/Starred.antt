-- The starred examples, of the rules themselves: base size 3 of row 1 holds 7,000, a = 25.
use Rattle.std.specs.Prelude.{◌≡◌, ℕ, List, ◌∷◌, replicate, ℤ, pos, Some}
use Rattle.sheet.specs.declared.types.Edit.{Edit}
use Rattle.sheet.specs.Rules.{cell_at, next}

abbrev pub measured : List (List ℕ)
measured = (0 ∷ 0 ∷ 7000 ∷ replicate 9 0) ∷ replicate 7 (replicate 12 0)

abbrev pub grades : ℤ → Edit
grades q = record { kind = 2; row = pos 1; size = pos 3; a = pos 25; q = q }

pub record Starred : Type 0 where
  pub size_4 : cell_at (next measured (grades (pos 2))) (pos 1) (pos 4) ≡ Some 7013
  pub size_5 : cell_at (next measured (grades (pos 2))) (pos 1) (pos 5) ≡ Some 7025
  pub size_2 : cell_at (next measured (grades (pos 2))) (pos 1) (pos 2) ≡ Some 6988
  pub size_11 : cell_at (next measured (grades (pos 2))) (pos 1) (pos 11) ≡ Some 7100
  -- q = 0 is set aside, whatever the sheet holds
  pub zero_q : (s : List (List ℕ)) → next s (grades (pos 0)) ≡ s

-- The number of each kind of edit, and the kind of a number.
use Rattle.std.specs.Prelude.{ℕ, cond, Ok, Err, Result, ◌==◌}
use Rattle.sheet.specs.declared.kind.Kind.{Kind}
use Rattle.sheet.specs.declared.kind.Kind.TheVariants.{Set, Grade, Copy}
use Rattle.sheet.specs.declared.kind.UnknownKind.{UnknownKind}

abbrev pub number_of : Kind → ℕ
number_of Set = 1
number_of Grade = 2
number_of Copy = 3

abbrev pub kind_of : ℕ → Result Kind UnknownKind
kind_of n = cond (n == 1) (Ok Set) (cond (n == 2) (Ok Grade) (cond (n == 3) (Ok Copy) (Err (record { 0 = n }))))

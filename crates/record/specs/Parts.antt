-- What the head of a record is.
use Rattle.std.specs.Prelude.{◌≡◌, ℕ, List, ◌++◌}
use Rattle.record.specs.declared.read.Head.{Head}
use Rattle.record.specs.Format.{two}

-- The bytes are the head's length and kind, and what stands behind it.
abbrev pub HeadOf : List ℕ → Head → Type 0
HeadOf bs h = bs ≡ two h.length ++ (two h.kind ++ h.rest.now)

use Rattle.std.proofs.Common.{◌≡◌, drop}
use Rattle.image.specs.Rules.{terms_in_range}
use Rattle.image.proofs.checks.terms_in_range.Given as goal

abbrev pub invariant-loop-entry : goal.invariant-loop-entry
invariant-loop-entry l = terms_in_range l.high 0 l.entries ≡ terms_in_range l.high l.low (drop l.entry-index l.entries)

use Rattle.record.proofs.Back.{unambiguous, never_refused, determined}
use Rattle.record.proofs.laws.format_stands.Goals as goal

pub returns : goal.returns
returns c = record { unambiguous = unambiguous; accepted = never_refused; determined = determined }

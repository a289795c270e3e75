use mathlib.Core.Path.{refl}
use Rattle.protocol.specs.AppendEntries.{top}
use Rattle.sheet.specs.Rules.{opening, next}
use Rattle.safety.specs.SixCalls.{SixCalls}
use Rattle.safety.proofs.six_calls_stand.Goals as goal

six-calls : SixCalls
unfolding top opening next
six-calls = record { runs = (refl, refl, (refl, refl, (refl, refl, (refl, refl, (refl, refl, (refl, refl, tt)))))); first = refl; second = refl; third = refl; fourth = refl; fifth = refl; sixth = refl }

pub returns : goal.returns
returns c = six-calls

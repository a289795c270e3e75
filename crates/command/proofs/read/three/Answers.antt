use Rattle.text.specs.Words.{Number}
use Rattle.text.specs.Numerals.{number_visible}
use Rattle.text.proofs.Splits.{after}
use Rattle.command.specs.Grammar.{Two}
use Rattle.command.proofs.read.three.Goals as goal

pub returns-in_err-a : goal.returns-in_err-a
returns-in_err-a c = rw c.from_residual.ensures (λ x w. c.in_err-a.ensures x.0 w.1 (w.0, w.2, w.3))

pub returns-in_err-b : goal.returns-in_err-b
returns-in_err-b c = rw c.from_residual-in_err-b.ensures (λ x w. c.in_err-b.ensures (x.1, x.2) (after Number number_visible c.in_ok-a.a x.0 (Two x.1 x.2) c.args.text.now c.in_ok-a.rest.now c.in_ok-a.ensures w))

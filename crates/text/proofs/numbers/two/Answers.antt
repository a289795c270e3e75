use Rattle.text.proofs.Splits.{after}
use Rattle.text.proofs.numbers.two.Goals as goal

pub returns-in_err-a : goal.returns-in_err-a
returns-in_err-a g c = rw c.from_residual.ensures (λ x w. c.in_err-a.ensures x.0 w.1 (w.0, w.2, w.3))

pub returns-in_err-number : goal.returns-in_err-number
returns-in_err-number g c = rw c.from_residual-in_err-number.ensures (λ x w. c.in_err-number.ensures x.1 (after g.A.Numeral.writes g.A.Numeral.visible c.in_ok-a.a x.0 (g.B.Numeral.writes x.1) c.args.text.now c.in_ok-a.rest.now c.in_ok-a.ensures w))

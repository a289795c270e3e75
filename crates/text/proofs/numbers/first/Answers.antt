use Rattle.text.proofs.Splits.{none_cut, first_part}
use Rattle.text.proofs.numbers.first.Goals as goal

pub returns-in_err-front : goal.returns-in_err-front
returns-in_err-front g c = rw c.from_residual.ensures (λ n rest w. none_cut c.args.text.now w.0 rest c.in_err-front.ensures w.1)

pub returns-in_err-number : goal.returns-in_err-number
returns-in_err-number g c =
    let s = c.in_ok-front.ensures in
    rw c.from_residual-in_err-number.ensures (λ n rest w. c.in_err-number.ensures n (first_part g.T.Numeral.writes g.T.Numeral.visible n c.args.text.now c.in_ok-front.front.now c.in_ok-front.rest.now rest s.0 s.1 w))

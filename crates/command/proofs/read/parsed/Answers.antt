use Rattle.text.proofs.Splits.{none_cut}
use Rattle.command.proofs.Lines.{cut_reads}
use Rattle.command.proofs.read.parsed.Goals as goal

pub returns-in_err-name : goal.returns-in_err-name
returns-in_err-name c = rw c.from_residual.ensures (λ x w. none_cut c.args.text.now w.0 w.1 c.in_err-name.ensures w.2)

pub returns : goal.returns
returns c =
    let s = c.in_ok-name.ensures in
    cut_reads c.args.text.now c.in_ok-name.name.now c.in_ok-name.rest.now s.0 s.1 c.named.result c.named.ensures

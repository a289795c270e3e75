use Rattle.std.proofs.Common.{ℕ, List, subst}
use Rattle.text.specs.Words.{Finds}
use Rattle.command.specs.Grammar.{Reads}
use Rattle.command.proofs.Lines.{reads_utf8}
use Rattle.command.proofs.Sole.{only}
use Rattle.command.proofs.read.command_in.Goals as goal

pub returns-in-Ok : goal.returns-in-Ok
returns-in-Ok c = only c.args.line.now c.parsed.result (subst (λ (bs : List ℕ). Finds c.parsed.result (Reads bs)) c.in-Ok.ensures.cases.0 c.parsed.ensures)

pub returns-in-Err : goal.returns-in-Err
returns-in-Err c = λ x w. c.in-Err.ensures.cases.0 (reads_utf8 c.args.line.now x w)

use Rattle.std.proofs.Common.{◌≡◌, Err, rules}
use Rattle.command.specs.declared.types.Problem.TheVariants.{NoCommand, Refused}
use Rattle.session.proofs.Lines.{unread_line, answered_line, refused_line}
use Rattle.session.proofs.answering.heed.Goals as goal

pub returns-in_err-command : goal.returns-in_err-command
returns-in_err-command g c =
    let e : c.from_residual.result ≡ Err NoCommand = search rules in
    unread_line _ c.args.line.now _ c.command_in.result c.command_in.ensures c.in_err-command.ensures.ok_part c.from_residual.result e

pub returns-in_err-make : goal.returns-in_err-make
returns-in_err-make g c =
    let e : c.from_residual-in_err-make.result ≡ Err (Refused c.in_err-make.field-0.0) = search rules in
    refused_line _ c.args.line.now _ _ c.command_in.result c.command_in.ensures c.in_ok-command.command c.in_ok-command.ensures.ok_part
    c.make.result c.make.ensures c.in_err-make.field-0.0 c.in_err-make.was c.from_residual-in_err-make.result e

pub returns : goal.returns
returns g c = answered_line _ c.args.line.now _ _ c.command_in.result c.command_in.ensures c.in_ok-command.command c.in_ok-command.ensures.ok_part
    c.make.result c.make.ensures c.in_ok-make.field-0 c.in_ok-make.was

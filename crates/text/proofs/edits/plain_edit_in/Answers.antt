use Rattle.text.specs.Words.{Kind}
use Rattle.text.specs.Numerals.{kind_visible, kind_sole}
use Rattle.text.proofs.EditWords.{with_kind}
use Rattle.text.proofs.edits.plain_edit_in.Goals as goal

pub returns-in_err-kind : goal.returns-in_err-kind
returns-in_err-kind c = rw c.from_residual.ensures (λ e w. c.in_err-kind.ensures e.kind w.1 (w.0, w.2, w.3))

pub returns : goal.returns
returns c = with_kind Kind kind_visible kind_sole c.in_ok-kind.kind c.args.text.now c.in_ok-kind.rest.now c.in_ok-kind.ensures c.of_kind.result c.of_kind.ensures

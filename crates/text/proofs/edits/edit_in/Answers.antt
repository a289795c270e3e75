use Rattle.std.proofs.Common.{pos}
use Rattle.text.specs.Words.{SignedKind}
use Rattle.text.proofs.EditWords.{with_kind, kind_first, no_kind_first, signed_kind_visible, signed_kind_sole}
use Rattle.text.proofs.edits.edit_in.Goals as goal

pub returns-in_err-kind : goal.returns-in_err-kind
returns-in_err-kind c = rw c.from_residual.ensures (λ e w. c.in_err-kind.ensures (pos e.kind) w.1 (w.0, w.2, w.3.0))

pub returns-in_err-ok : goal.returns-in_err-ok
returns-in_err-ok c = rw c.from_residual-in_err-ok.ensures (no_kind_first c.try_from.result c.in_ok-kind.kind c.in_ok-kind.rest.now c.args.text.now c.in_ok-kind.ensures c.try_from.ensures c.in_err-ok.ensures.value)

pub returns : goal.returns
returns c =
    let b = kind_first c.try_from.result c.in_ok-kind.kind c.in_ok-ok.field-0 c.in_ok-kind.rest.now c.args.text.now c.in_ok-kind.ensures c.try_from.ensures c.in_ok-ok.ensures.value in
    with_kind SignedKind signed_kind_visible signed_kind_sole c.in_ok-ok.field-0 c.args.text.now c.in_ok-kind.rest.now b c.of_kind.result c.of_kind.ensures

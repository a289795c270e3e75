use Rattle.std.proofs.Common.{refl}
use Rattle.text.proofs.EditWords.{after_row_of, after_size_of, after_a_of, kept}
use Rattle.text.proofs.edits.of_kind.Goals as goal

pub returns-in_err-row : goal.returns-in_err-row
returns-in_err-row c = rw c.from_residual.ensures (λ e w. c.in_err-row.ensures e.row w.1.1 (w.1.0, w.1.2, w.1.3))

pub returns-in_err-size : goal.returns-in_err-size
returns-in_err-size c = rw c.from_residual-in_err-size.ensures (λ e w.
    let v = after_row_of e c.in_ok-row.row c.args.text.now c.in_ok-row.rest.now c.in_ok-row.ensures w.1 in
    c.in_err-size.ensures e.size v.1 (v.0, v.2, v.3))

pub returns-in_err-a : goal.returns-in_err-a
returns-in_err-a c = rw c.from_residual-in_err-a.ensures (λ e w.
    let u = after_row_of e c.in_ok-row.row c.args.text.now c.in_ok-row.rest.now c.in_ok-row.ensures w.1 in
    let v = after_size_of e c.in_ok-size.size c.in_ok-row.rest.now c.in_ok-size.rest.now c.in_ok-size.ensures u in
    c.in_err-a.ensures e.a v.1 (v.0, v.2, v.3))

pub returns-in_err-q : goal.returns-in_err-q
returns-in_err-q c = rw c.from_residual-in_err-q.ensures (λ e w.
    let t = after_row_of e c.in_ok-row.row c.args.text.now c.in_ok-row.rest.now c.in_ok-row.ensures w.1 in
    let u = after_size_of e c.in_ok-size.size c.in_ok-row.rest.now c.in_ok-size.rest.now c.in_ok-size.ensures t in
    let v = after_a_of e c.in_ok-a.a c.in_ok-size.rest.now c.in_ok-a.rest.now c.in_ok-a.ensures u in
    c.in_err-q.ensures e.q v)

pub returns : goal.returns
returns c =
    let r = c.in_ok-row.ensures in
    let s = c.in_ok-size.ensures in
    let a = c.in_ok-a.ensures in
    (refl, (r.0, _, r.1, kept r.0 _ r.2, (s.0, _, s.1, kept s.0 _ s.2, (a.0, _, a.1, kept a.0 _ a.2, kept c.in_ok-a.rest.now _ c.in_ok-q.ensures))))

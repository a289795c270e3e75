use Rattle.std.proofs.Common.{◌≡◌, ℕ, ◌+◌, cond, List, length, get_or, pos, is_ok, sym, ap, ◌∙◌, arith}
use Rattle.std.proofs.lemmas.List.{take_all}
use Rattle.std.proofs.lemmas.Bool.{cond-true, cond-false}
use Rattle.sheet.specs.declared.types.Edit.{Edit}
use Rattle.machine.specs.States.{applied, applied_all}
use Rattle.machine.proofs.Several.{all_more, length_all, one_more}
use Rattle.machine.proofs.rehearsal.apply_all.Goals as goal
use Rattle.machine.proofs.rehearsal.apply_all.Goals.{then-is_ok, else-is_ok}

any : Edit
any = record { kind = 0; row = pos 0; size = pos 0; a = pos 0; q = pos 0 }

pub loop-edit-preserved : goal.loop-edit-preserved
unfolding any
loop-edit-preserved g c =
    let m = g.M.StateMachine in
    let e = get_or c.args.edits.now c.loop-edit.edit-index any in
    let l = one_more m.opening m.next e (m.states c.loop-edit.machine) (m.states c.apply.new.self) c.apply.result c.apply.ensures.answer c.apply.ensures.after in
    let n : length (m.states c.apply.new.self) ≡ length (m.states c.args.machine.now) + c.if-is_ok.applied =
    elim c.if-is_ok.branch [
      | then-is_ok w ↦ let k : ◌≡◌ {A = ℕ} (cond (is_ok c.apply.result) 1 0) 1 = cond-true _ 1 0 (sym c.is_ok.ensures.value ∙ w.if-is_ok.true) in omega (arith, w.applied-is, c.loop-edit.invariant.1)
      | else-is_ok w ↦ let k : ◌≡◌ {A = ℕ} (cond (is_ok c.apply.result) 1 0) 0 = cond-false _ 1 0 (sym c.is_ok.ensures.value ∙ w.if-is_ok.false) in omega (arith, w.applied-is, c.loop-edit.invariant.1)
    ] in (
      c.apply.ensures.after ∙ ap (applied m.opening m.next e) c.loop-edit.invariant.0
          ∙ all_more m.opening m.next c.args.edits.now c.loop-edit.edit-index any (m.states c.args.machine.now) c.loop-edit-test.true,
      n,
    )

pub returns : goal.returns
returns g c =
    let m = g.M.StateMachine in
    let xs = m.states c.args.machine.now in
    let k = g.met.M.StateMachine.counted c.args.machine.now in
    let t = take_all c.loop-edit.edit-index c.args.edits.now c.loop-edit-test.false in
    let a = c.loop-edit.invariant.0 ∙ ap (λ (es : List Edit). applied_all m.opening m.next es xs) t in
    record { count = omega (arith, ap length a, length_all m.opening m.next c.args.edits.now xs k.few, c.loop-edit.invariant.1); after = a }

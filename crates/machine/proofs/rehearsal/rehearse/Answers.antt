use Rattle.std.proofs.Common.{ℕ, ap, ◌∙◌}
use Rattle.machine.specs.States.{applied_all, undone_times}
use Rattle.machine.proofs.Several.{no_trace}
use Rattle.machine.proofs.rehearsal.rehearse.Goals as goal

pub returns : goal.returns
returns g c =
    let m = g.M.StateMachine in
    let k = g.met.M.StateMachine.counted c.args.machine.now in
    c.undo_times.ensures
    ∙ ap (undone_times c.apply_all-applied.result) c.apply_all-applied.ensures.after
    ∙ ap (λ (n : ℕ). undone_times n (applied_all m.opening m.next c.args.edits.now (m.states c.args.machine.now))) c.apply_all-applied.ensures.count
    ∙ no_trace m.opening m.next c.args.edits.now (m.states c.args.machine.now) k.some k.few

use Rattle.std.proofs.Common.{pos, ◌∙◌}
use Rattle.std.proofs.lemmas.List.{take_all}
use Rattle.sheet.specs.declared.types.Edit.{Edit}
use Rattle.sheet.specs.Cells.{cells_of}
use Rattle.sheet.specs.Rules.{opening}
use Rattle.machine.specs.Sheets.{replay_states}
use Rattle.machine.specs.StepsOn.{newest_more}
use Rattle.machine.proofs.replay.ReplayMachine.replayed.Goals as goal

pub loop-edit-preserved : goal.loop-edit-preserved
loop-edit-preserved c =
    let any : Edit = record { kind = 0; row = pos 0; size = pos 0; a = pos 0; q = pos 0 } in
    rw c.items-edit-items.ensures.value at c.change.ensures
    ∙ newest_more opening (cells_of c.args.self.now.oldest) (cells_of c.loop-edit.sheet) c.args.self.now.edits.items.items c.loop-edit.edit-index any
    (rw c.items-edit-items.ensures.value at c.loop-edit-test.true) c.loop-edit.invariant

pub returns : goal.returns
unfolding replay_states
returns c =
    let h = rw c.items-edit-items.ensures.value at c.loop-edit-test.false in
    rw take_all at c.loop-edit.invariant

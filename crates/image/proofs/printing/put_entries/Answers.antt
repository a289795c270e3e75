use Rattle.image.proofs.Writes.{put_again}
use Rattle.image.proofs.printing.put_entries.Goals as goal

pub loop-place-preserved : goal.loop-place-preserved
loop-place-preserved c = put_again _ _ _ _ _ _ c.requires c.loop-place-test.true c.loop-place.invariant c.put_entry.ensures

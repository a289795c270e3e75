use Rattle.image.proofs.Back.{determined, reads_back, writes_back}
use Rattle.image.proofs.Loads.{empty_is}
use Rattle.image.proofs.Stars.{starred}
use Rattle.image.proofs.laws.images_stand.Goals as goal

pub returns : goal.returns
returns c = record { determined = determined; reads_back = reads_back; writes_back = writes_back; empty = empty_is; starred = starred }

use Rattle.std.proofs.Common.{refl}
use Rattle.std.proofs.lemmas.Result.{err_from_is_err_and}
use Rattle.image.specs.Images.{wrong_first, right_first}
use Rattle.image.proofs.parsing.parse.Goals as goal

pub returns-in_err-ballot : goal.returns-in_err-ballot
returns-in_err-ballot c =
    let p = err_from_is_err_and c.from_residual.result c.from_residual.ensures.1 in
    rw (p.1, p.2) (wrong_first _ c.in_err-ballot.ensures refl)

pub returns : goal.returns
returns c = right_first _ _ c.in_ok-ballot.ensures c.read_entries.ensures

use Rattle.std.proofs.Common.{lit<}
use Rattle.std.proofs.lemmas.Str.Pattern.{split_parts}
use Rattle.text.proofs.numbers.cut.Goals as goal

pub returns : goal.returns
returns c = split_parts 32 c.args.text.now _ c.split_once.ensures.cases (lit< tt)

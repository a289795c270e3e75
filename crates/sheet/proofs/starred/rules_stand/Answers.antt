use Rattle.std.proofs.Common.{refl}
use Rattle.sheet.specs.Rules.{next, graded_cells}
use Rattle.sheet.specs.Starred.{Starred}
use Rattle.sheet.proofs.Ints.{floors}
use Rattle.sheet.proofs.Nearest.{grades}
use Rattle.sheet.proofs.starred.rules_stand.Goals as goal

starred : Starred
unfolding next graded_cells
starred = record { size_4 = refl; size_5 = refl; size_2 = refl; size_11 = refl; zero_q = λ s. refl }

pub returns : goal.returns
returns c = record { starred = starred; floors = floors; grades = grades }

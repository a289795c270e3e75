use mathlib.Core.Path.{refl}
use lib.IntN.{pos}
use lib.ListN.{take, drop}
use Rattle.protocol.specs.AppendEntries.{top}
use Rattle.protocol.specs.Runs.{Run}
use Rattle.sheet.specs.Rules.{opening, next}
use Rattle.safety.specs.Story.{sheets, sets, story, Story}
use Rattle.safety.proofs.story_stands.Goals as goal

story-runs : Run sheets story
unfolding top opening next
story-runs = (refl, refl, (refl, refl, (refl, refl, (refl, refl, (refl, refl, (refl, refl, (refl, refl, (refl, refl, (refl, refl, (refl, refl, (refl, refl, (refl, refl, (refl, refl, (refl, refl, (refl, refl, (refl, refl, (refl, refl, (refl, refl, (refl, refl, (refl, refl, (refl, refl, (refl, refl, (refl, refl, (refl, refl, (refl, refl, (refl, refl, (refl, refl, (refl, refl, (refl, refl, (refl, refl, (refl, refl, (refl, refl, (refl, refl, (refl, refl, tt))))))))))))))))))))))))))))))))))

the-story : Story
unfolding top opening next
the-story = record {
  runs = story-runs;
  kept_ticket = record { before = take 4 story; later = drop 5 story; j = 1; edit = sets (pos 100); call = refl; entry = refl };
  kept = refl;
  still_kept = refl;
  gone_ticket = record { before = take 11 story; later = drop 12 story; j = 1; edit = sets (pos 200); call = refl; entry = refl };
  gone = refl;
  open_edit = (refl, refl, refl);
  undone = (refl, refl, refl);
}

pub returns : goal.returns
returns c = the-story

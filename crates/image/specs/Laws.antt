-- What is promised of images.
use Rattle.std.specs.Prelude.{◌≡◌, ℕ, ◌≤◌, true, List, [], ◌∷◌, length, Ok, Result}
use Rattle.record.specs.declared.entry.Entry.{Entry}
use Rattle.record.specs.declared.kinds.Ballot.{Ballot}
use Rattle.record.specs.Format.{BallotFits, EntryFits}
use Rattle.image.specs.declared.fault.ImageFault.{ImageFault}
use Rattle.image.specs.Rules.{in_range}
use Rattle.image.specs.Images.{image, ImageRead}

abbrev pub AllFit : List Entry → Type 0
AllFit [] = Unit {0}
AllFit (e ∷ es) = EntryFits e × AllFit es

-- what an image can hold: numbers that have room in their fields and are in range, and at most 64 entries
pub record Proper (b : Ballot) (es : List Entry) : Type 0 where
  pub ballot_fits : BallotFits b
  pub entries_fit : AllFit es
  pub ranged : in_range b es ≡ true
  pub few : length es ≤ 64

-- any bytes have one answer
abbrev pub Determined : Type 0
Determined = (bs : List ℕ) (r s : Result (Ballot × List Entry) ImageFault) → ImageRead bs r → ImageRead bs s → r ≡ s

-- an image reads back to what it was written from
abbrev pub ReadsBack : Type 0
ReadsBack = (b : Ballot) (es : List Entry) → Proper b es → ImageRead (image b es) (Ok (b, es))

-- bytes that are accepted are the image of what was read
abbrev pub WritesBack : Type 0
WritesBack = (bs : List ℕ) (b : Ballot) (es : List Entry) → ImageRead bs (Ok (b, es)) → (bs ≡ image b es) × Proper b es

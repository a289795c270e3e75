-- The starred examples, of the rules themselves.
use Rattle.std.specs.Prelude.{◌≡◌, ℕ, ◌≤◌, List, [], Ok, Err}
use Rattle.record.specs.declared.kinds.Ballot.{Ballot}
use Rattle.record.specs.declared.kinds.Record.TheVariants.{Opening}
use Rattle.record.specs.Format.{encode}
use Rattle.image.specs.declared.fault.ImageFault.{ImageFault}
use Rattle.image.specs.Faults.{number_of, offset_of}
use Rattle.image.specs.Images.{ImageRead}

-- the answer is a fault of this number at this offset
abbrev pub Refuses : List ℕ → (number offset : ℕ) → Type 0
Refuses bs n off = (e : ImageFault) × ImageRead bs (Err e) × (number_of e ≡ n) × (offset_of e ≡ off)

pub record Starred : Type 0 where
  -- an empty image gets 21 at 0
  pub empty : Refuses [] 21 0
  -- kind 1 alone is accepted
  pub alone : (b : Ballot) → b.term ≤ 1000000 → b.vote ≤ 3 → ImageRead (encode (Opening b)) (Ok (b, []))

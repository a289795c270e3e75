-- What the numbers of an image have to be, and what a record may break.
use Rattle.std.specs.Prelude.{ℕ, Bool, true, cond, ◌&&◌, List, [], ◌∷◌, Some, None, Option, nat_le, nat_lt}
use Rattle.record.specs.declared.entry.Entry.{Entry}
use Rattle.record.specs.declared.kinds.Ballot.{Ballot}
use Rattle.record.specs.declared.kinds.Record.{Record}
use Rattle.record.specs.declared.kinds.Record.TheVariants.{Opening, Logged}
use Rattle.image.specs.declared.fault.ImageFault.{ImageFault}
use Rattle.image.specs.declared.fault.ImageFault.TheVariants.{Misplaced, TooMany, OutOfRange}

-- a vote for none or for one of three servers, and a term of at most 1,000,000
abbrev pub ballot_in_range : Ballot → Bool
ballot_in_range b = nat_le b.vote 3 && nat_le b.term 1000000

-- the term of an entry is not 0, not below the one before it, which was low, and not above high
abbrev pub term_in_range : (high low term : ℕ) → Bool
term_in_range high low term = nat_lt 0 term && (nat_le low term && nat_le term high)

abbrev pub terms_in_range : (high low : ℕ) → List Entry → Bool
terms_in_range high low [] = true
terms_in_range high low (e ∷ es) = term_in_range high low e.term && terms_in_range high e.term es

-- before the first entry there is no term, so 0
abbrev pub in_range : Ballot → List Entry → Bool
in_range b es = ballot_in_range b && terms_in_range b.term 0 es

-- What the first record breaks: it has to be an opening, and in range.
abbrev pub opening_fault : Record → Option ImageFault
opening_fault (Opening b) = cond (ballot_in_range b) None (Some (OutOfRange 0))
opening_fault (Logged e) = Some (Misplaced 0)

-- What a later record breaks, in the order of checking: it may be no opening; there may be no 65th entry; its term has to be in range.
abbrev pub entry_fault : (high count low offset : ℕ) → Record → Option ImageFault
entry_fault high count low off (Opening b) = Some (Misplaced off)
entry_fault high count low off (Logged e) =
    cond (nat_le 64 count) (Some (TooMany off)) (cond (term_in_range high low e.term) None (Some (OutOfRange off)))

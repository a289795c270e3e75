-- A story of three servers with measure sheets: each call with its answer.
use Rattle.std.specs.Prelude.{◌≡◌, false, List, [], ◌∷◌, ℕ, ℤ, pos, length}
use Rattle.sheet.specs.declared.types.Edit.{Edit}
use Rattle.sheet.specs.Rules.{opening, next, cell_at}
use Rattle.protocol.specs.declared.ServerId.TheVariants.{One}
use Rattle.protocol.specs.declared.Standing.TheVariants.{Kept, Gone, Open}
use Rattle.protocol.specs.State.{Server, Machine}
use Rattle.protocol.specs.Calls.{campaign, deliver, lose, propose, firm, send, apply, outage, restart, standing, close, look}
use Rattle.protocol.specs.Calls.{refused, done, lost, ticket, keeps, word, cell}
use Rattle.protocol.specs.Runs.{History, Run, moment}
use Rattle.protocol.specs.Promises.{Tells, Handed}

-- The machines have sheets as their states.
abbrev pub sheets : Machine (List (List ℕ))
sheets = record { opening = opening; next = next; cell = cell_at }

-- an edit that sets the cell at row 1 and size 1
abbrev pub sets : ℤ → Edit
sets a = record { kind = 1; row = pos 1; size = pos 1; a = a; q = pos 0 }

abbrev pub story : History
story =
    -- server 1 becomes the leader of term 1
    (campaign 1, lost 0) ∷ (deliver 1 false, lost 0) ∷ (deliver 2 false, lost 0) ∷ (lose 1, done)
    -- an edit that it commits and applies, told as kept
    ∷ (propose 1 (sets (pos 100)), ticket 1 1) ∷ (firm 1, done) ∷ (send 1 2, lost 0) ∷ (deliver 1 false, lost 0) ∷ (deliver 1 false, lost 0)
    ∷ (standing 1 1 1, word Kept) ∷ (apply 1, done)
    -- one that it applies openly
    ∷ (propose 1 (sets (pos 200)), ticket 2 1) ∷ (apply 1, done) ∷ (look 1 (pos 1) (pos 1), cell 200) ∷ (close 1 2 1, refused 12)
    -- server 2 becomes the leader of term 2; server 1 hears of the term, and undoes
    ∷ (campaign 2, lost 0) ∷ (deliver 2 false, lost 0) ∷ (deliver 2 false, lost 0) ∷ (deliver 1 false, lost 0) ∷ (look 1 (pos 1) (pos 1), cell 100)
    ∷ (lose 1, done)
    -- and commits another edit in its place, so that the open one is gone
    ∷ (propose 2 (sets (pos 300)), ticket 2 2) ∷ (firm 2, done) ∷ (send 2 1, lost 0) ∷ (deliver 1 false, lost 0) ∷ (deliver 1 false, lost 0)
    ∷ (standing 2 2 1, word Gone) ∷ (close 2 2 1, word Gone) ∷ (close 2 2 2, word Kept)
    -- an outage of server 1 takes nothing that is durable
    ∷ (outage 1 2, keeps 2) ∷ (standing 1 1 1, refused 2) ∷ (restart 1, done) ∷ (standing 1 1 1, word Open) ∷ (restart 4, refused 1) ∷ []

-- the server with the number 1 after m calls
abbrev pub first : ℕ → Server
first m = (moment sheets story m).core.server One

pub record Story : Type 0 where
  -- each answer is what the rules say
  pub runs : Run sheets story
  -- the first ticket is kept, after nine calls and at the end
  pub kept_ticket : Handed story 1 1 (record { term = 1; edit = sets (pos 100) })
  pub kept : Tells sheets (moment sheets story 9) 1 1 1 Kept
  pub still_kept : Tells sheets (moment sheets story 34) 2 1 1 Kept
  -- the second is gone, after 26
  pub gone_ticket : Handed story 2 1 (record { term = 1; edit = sets (pos 200) })
  pub gone : Tells sheets (moment sheets story 26) 2 2 1 Gone
  -- its edit was open after thirteen, in a state of its own, and undone after nineteen
  pub open_edit : ((first 13).commit ≡ 1) × ((first 13).applied ≡ 2) × (length ((moment sheets story 13).states One) ≡ 2)
  pub undone : ((first 19).term ≡ 2) × ((first 19).applied ≡ 1) × (length ((moment sheets story 19).states One) ≡ 1)

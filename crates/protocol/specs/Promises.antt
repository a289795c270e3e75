-- What every run promises.
use Rattle.std.specs.Prelude.{◌≡◌, ℕ, suc, ◌+◌, ◌-◌, ◌≤◌, ◌⊎◌, List, ◌∷◌, ◌++◌, map, length, take, fold}
use Rattle.sheet.specs.declared.types.Edit.{Edit}
use Rattle.record.specs.declared.entry.Entry.{Entry}
use Rattle.machine.specs.States.{newest}
use Rattle.protocol.specs.declared.Standing.{Standing}
use Rattle.protocol.specs.declared.Standing.TheVariants.{Kept, Gone}
use Rattle.protocol.specs.ServerIds.{ServerId}
use Rattle.protocol.specs.State.{entry_of, tip, Server, Core, Machine, Cluster}
use Rattle.protocol.specs.Calls.{propose, standing, ticket, word, answer}
use Rattle.protocol.specs.Runs.{History, Run, moment}

-- Logs. Where two servers both hold entry n, their first n entries are equal exactly when the terms at n are equal.
abbrev pub LogsAgree : Core → Type 0
LogsAgree w = (x y : ServerId) (n : ℕ)
    → let a = (w.server x).log in
    let b = (w.server y).log in
    1 ≤ n → n ≤ length a → n ≤ length b → (tip a n ≡ tip b n → take n a ≡ take n b) × (take n a ≡ take n b → tip a n ≡ tip b n)

-- a server's applied edits: the log's first, as many as its applied count
abbrev pub applied_edits : Server → List Edit
applied_edits s = map (λ (e : Entry). e.edit) (take s.applied s.log)

-- a state taken through edits in order
abbrev pub through : {X : Type 0} → (X → Edit → X) → X → List Edit → X
through next x es = fold next x es

abbrev pub Begins : List Edit → List Edit → Type 0
Begins a b = take (length a) b ≡ a

-- States. Each server's newest state is the opening state taken through its applied edits,
abbrev pub NewestState : {X : Type 0} → Machine X → Cluster X → Type 0
NewestState M k = (j : ServerId)
    → newest M.opening (k.states j) ≡ through M.next M.opening (applied_edits (k.core.server j))

-- it has one state more than there are edits open, of which there are sixteen at most,
abbrev pub OpenStates : {X : Type 0} → Cluster X → Type 0
OpenStates k = (j : ServerId)
    → (length (k.states j) ≡ suc ((k.core.server j).applied - (k.core.server j).commit)) × ((k.core.server j).applied ≤ (k.core.server j).commit + 16)

-- and of two servers in one term, one's applied edits begin the other's.
abbrev pub AppliedAgree : Core → Type 0
AppliedAgree w = (x y : ServerId) → (w.server x).term ≡ (w.server y).term
    → Begins (applied_edits (w.server x)) (applied_edits (w.server y)) ⊎ Begins (applied_edits (w.server y)) (applied_edits (w.server x))

-- a server holds the entry e durably at n, up or down
pub record HoldsDurably (s : Server) (n : ℕ) (e : Entry) : Type 0 where
  pub some : 1 ≤ n
  pub held : n ≤ s.durable
  pub within : s.durable ≤ length s.log
  pub entry : entry_of s.log n ≡ e

-- two of the three do
pub record TwoHold (w : Core) (n : ℕ) (e : Entry) : Type 0 where
  pub x : ServerId
  pub y : ServerId
  pub apart : x ≡ y → ⊥
  pub byx : HoldsDurably (w.server x) n e
  pub byy : HoldsDurably (w.server y) n e

-- what the server numbered j tells of (n, t): what standing answers, or would if it were asked. A stopped one tells nothing
abbrev pub Tells : {X : Type 0} → Machine X → Cluster X → ℕ → ℕ → ℕ → Standing → Type 0
Tells M k j n t s = answer M k (standing j n t) ≡ word s

-- a propose of the history handed out the ticket (n, t) for the entry e
pub record Handed (h : History) (n t : ℕ) (e : Entry) : Type 0 where
  pub before : History
  pub later : History
  pub j : ℕ
  pub edit : Edit
  pub call : h ≡ before ++ (propose j edit, ticket n t) ∷ later
  pub entry : e ≡ record { term = t; edit = edit }

-- Kept. Once a server tells kept of a ticket, then and at every later moment two of the three hold its entry durably, and none tells gone.
abbrev pub KeptStays : {X : Type 0} → Machine X → History → Type 0
KeptStays M h = (n t : ℕ) (e : Entry) → Handed h n t e → (m j : ℕ) → Tells M (moment M h m) j n t Kept
    → (k : ℕ) → m ≤ k → TwoHold (moment M h k).core n e × ((r : ℕ) → Tells M (moment M h k) r n t Gone → ⊥)

-- Gone. Once a server tells gone of a ticket, at no moment, earlier or later, does one tell kept of it, or of any larger number of its term.
abbrev pub GoneStays : {X : Type 0} → Machine X → History → Type 0
GoneStays M h = (n t : ℕ) (e : Entry) → Handed h n t e → (m j : ℕ) → Tells M (moment M h m) j n t Gone
    → (k r n' : ℕ) → n ≤ n' → Tells M (moment M h k) r n' t Kept → ⊥

-- The promises of a history: of logs and states at each moment of it, of tickets from one moment to another.
pub record Promises {X : Type 0} (M : Machine X) (h : History) : Type 0 where
  pub logs : (m : ℕ) → LogsAgree (moment M h m).core
  pub states : (m : ℕ) → NewestState M (moment M h m)
  pub open_states : (m : ℕ) → OpenStates (moment M h m)
  pub applied : (m : ℕ) → AppliedAgree (moment M h m).core
  pub kept : KeptStays M h
  pub gone : GoneStays M h

-- Every run keeps them, whatever the states of its machines are, whatever its outages keep, and whichever messages are lost, repeated or late.
abbrev pub Safe : Type 0 → Type 0
Safe X = (M : Machine X) (h : History) → Run M h → Promises M h

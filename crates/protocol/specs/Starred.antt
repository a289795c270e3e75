-- The starred examples, of the rules themselves.
use Rattle.std.specs.Prelude.{◌≡◌, ℕ, ◌+◌, ◌<◌, ◌≤◌, true, false, length}
use Rattle.sheet.specs.declared.types.Edit.{Edit}
use Rattle.protocol.specs.declared.Standing.TheVariants.{Unknown}
use Rattle.protocol.specs.ServerIds.{ServerId, number_of}
use Rattle.protocol.specs.State.{tip, leader, Server, Machine, Cluster}
use Rattle.protocol.specs.Elections.{not_below}
use Rattle.protocol.specs.Calls.{propose, apply, standing, refused, done, ticket, word, answer}

-- a server that is an up leader with n entries
pub record Leads (s : Server) (n : ℕ) : Type 0 where
  pub up : s.up ≡ true
  pub role : s.role ≡ leader
  pub entries : length s.log ≡ n

-- an up server whose own term's entry stands at commit, with n open edits, and which holds a further entry
pub record Opens (s : Server) (n : ℕ) : Type 0 where
  pub up : s.up ≡ true
  pub some : 1 ≤ s.commit
  pub own : tip s.log s.commit ≡ s.term
  pub applied : s.applied ≡ s.commit + n
  pub further : s.applied < length s.log

pub record Starred (X : Type 0) : Type 0 where
  -- the pair (2, 1) beats (1, 9), and (1, 8) loses to (1, 9)
  pub later_term : (not_below (2, 1) (1, 9) ≡ true) × (not_below (1, 9) (2, 1) ≡ false)
  pub longer_log : (not_below (1, 8) (1, 9) ≡ false) × (not_below (1, 9) (1, 8) ≡ true)
  -- the 64th entry is taken, the 65th gets 7
  pub last_entry : (M : Machine X) (k : Cluster X) (j : ServerId) (e : Edit) → Leads (k.core.server j) 63
      → answer M k (propose (number_of j) e) ≡ ticket 64 (k.core.server j).term
  pub one_more : (M : Machine X) (k : Cluster X) (j : ServerId) (e : Edit) → Leads (k.core.server j) 64
      → answer M k (propose (number_of j) e) ≡ refused 7
  -- sixteen open edits stand, the next gets 10
  pub sixteenth : (M : Machine X) (k : Cluster X) (j : ServerId) → Opens (k.core.server j) 15
      → answer M k (apply (number_of j)) ≡ done
  pub seventeenth : (M : Machine X) (k : Cluster X) (j : ServerId) → Opens (k.core.server j) 16
      → answer M k (apply (number_of j)) ≡ refused 10
  -- the standing of n = 0 is unknown
  pub number_zero : (M : Machine X) (k : Cluster X) (j : ServerId) (t : ℕ) → (k.core.server j).up ≡ true
      → answer M k (standing (number_of j) 0 t) ≡ word Unknown

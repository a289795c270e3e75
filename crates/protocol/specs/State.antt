-- What the servers and the network hold.
use Rattle.std.specs.Prelude.{ℕ, zero, suc, Bool, true, false, cond, List, [], ◌∷◌, ◌++◌, length, ℤ, pos, Some, None, Option, nat_lt, slice_index_or}
use Rattle.sheet.specs.declared.types.Edit.{Edit}
use Rattle.record.specs.declared.entry.Entry.{Entry}
use Rattle.protocol.specs.ServerIds.{ServerId, put}
pub use Rattle.protocol.specs.declared.Role.{Role}
pub use Rattle.protocol.specs.declared.Role.TheVariants.{Follower as follower, Candidate as candidate, Leader as leader}
pub use Rattle.protocol.specs.declared.AppendEntries.{AppendEntries}
pub use Rattle.protocol.specs.declared.Body.{Body}
pub use Rattle.protocol.specs.declared.Body.TheVariants.{VoteRequest, VoteReply, AppendRequest, AppendReply}
pub use Rattle.protocol.specs.declared.Message.{Message}

-- A log: entries in order, numbered from 1.
abbrev pub Log : Type 0
Log = List Entry

-- what stands for an entry where none is held
abbrev pub blank : Entry
blank = record { term = 0; edit = record { kind = 0; row = pos 0; size = pos 0; a = pos 0; q = pos 0 } }

-- the entry that i others stand before
abbrev pub at : Log → ℕ → Entry
at l i = slice_index_or l i blank

abbrev pub term_at : Log → ℕ → ℕ
term_at l i = (at l i).term

-- the entry with the number n, and its term, 0 before entry 1
abbrev pub entry_of : Log → ℕ → Entry
entry_of l n = elim n [ zero ↦ blank | suc i ↦ at l i ]

abbrev pub tip : Log → ℕ → ℕ
tip l n = elim n [ zero ↦ 0 | suc i ↦ term_at l i ]

abbrev pub last_term : Log → ℕ
last_term l = tip l (length l)

-- A server, its machine apart. Term, vote (0 for none, or a server's number), log and durable count are its store's, up or down;
-- voters are a candidate's; next and match, for each other server, a leader's.
pub record Server : Type 0 where
  pub up : Bool
  pub term : ℕ
  pub vote : ℕ
  pub log : Log
  pub durable : ℕ
  pub role : Role
  pub voters : ServerId → Bool
  pub next : ServerId → ℕ
  pub match : ServerId → ℕ
  pub commit : ℕ
  pub applied : ℕ

-- A server with some part of it replaced.
abbrev pub set_up : Bool → Server → Server
set_up b s = record { up = b; term = s.term; vote = s.vote; log = s.log; durable = s.durable; role = s.role; voters = s.voters; next = s.next; match = s.match; commit = s.commit; applied = s.applied }

abbrev pub set_ballot : (term vote : ℕ) → Server → Server
set_ballot t v s = record { up = s.up; term = t; vote = v; log = s.log; durable = s.durable; role = s.role; voters = s.voters; next = s.next; match = s.match; commit = s.commit; applied = s.applied }

abbrev pub set_log : Log → (durable : ℕ) → Server → Server
set_log l d s = record { up = s.up; term = s.term; vote = s.vote; log = l; durable = d; role = s.role; voters = s.voters; next = s.next; match = s.match; commit = s.commit; applied = s.applied }

abbrev pub set_role : Role → Server → Server
set_role r s = record { up = s.up; term = s.term; vote = s.vote; log = s.log; durable = s.durable; role = r; voters = s.voters; next = s.next; match = s.match; commit = s.commit; applied = s.applied }

abbrev pub set_voters : (ServerId → Bool) → Server → Server
set_voters f s = record { up = s.up; term = s.term; vote = s.vote; log = s.log; durable = s.durable; role = s.role; voters = f; next = s.next; match = s.match; commit = s.commit; applied = s.applied }

abbrev pub set_peers : (next match : ServerId → ℕ) → Server → Server
set_peers n m s = record { up = s.up; term = s.term; vote = s.vote; log = s.log; durable = s.durable; role = s.role; voters = s.voters; next = n; match = m; commit = s.commit; applied = s.applied }

abbrev pub set_commit : ℕ → Server → Server
set_commit n s = record { up = s.up; term = s.term; vote = s.vote; log = s.log; durable = s.durable; role = s.role; voters = s.voters; next = s.next; match = s.match; commit = n; applied = s.applied }

abbrev pub set_applied : ℕ → Server → Server
set_applied n s = record { up = s.up; term = s.term; vote = s.vote; log = s.log; durable = s.durable; role = s.role; voters = s.voters; next = s.next; match = s.match; commit = s.commit; applied = n }

-- The servers, and the messages on their way in order of posting: all that the protocol speaks of.
pub record Core : Type 0 where
  pub server : ServerId → Server
  pub network : List Message

-- What a kind of machine is: an opening state, the next state after an edit, and the cell at a row and a size, if there is one.
pub record Machine (X : Type 0) : Type 0 where
  pub opening : X
  pub next : X → Edit → X
  pub cell : X → ℤ → ℤ → Option ℕ

-- A cluster: its core, and the states of each server's machine, newest first.
pub record Cluster (X : Type 0) : Type 0 where
  pub core : Core
  pub states : ServerId → List X

-- At opening all three are up as followers, with nothing in their stores; machines have the opening state alone, and there are no messages.
abbrev pub core_opening : Core
core_opening = record {
  server = λ j. record {
    up = true;
    term = 0;
    vote = 0;
    log = [];
    durable = 0;
    role = follower;
    voters = λ k. false;
    next = λ k. 0;
    match = λ k. 0;
    commit = 0;
    applied = 0;
  };
  network = [];
}

abbrev pub opening : {X : Type 0} → Machine X → Cluster X
opening M = record { core = core_opening; states = λ j. M.opening ∷ [] }

abbrev pub is_leader : Role → Bool
is_leader follower = false
is_leader candidate = false
is_leader leader = true

abbrev pub is_candidate : Role → Bool
is_candidate follower = false
is_candidate candidate = true
is_candidate leader = false

-- The network holds at most 24 messages; one more is lost, and counted.
abbrev pub has_room : List Message → Bool
has_room p = nat_lt (length p) 24

abbrev pub joined : List Message → Message → List Message
joined p l = cond (has_room p) (p ++ l ∷ []) p

abbrev pub lost_of : List Message → ℕ
lost_of p = cond (has_room p) 0 1

-- the same of a message that may be absent
abbrev pub joined_some : List Message → Option Message → List Message
joined_some p None = p
joined_some p (Some l) = joined p l

abbrev pub lost_some : List Message → Option Message → ℕ
lost_some p None = 0
lost_some p (Some l) = lost_of p

-- one server changed; and the network too
abbrev pub change : Core → ServerId → Server → Core
change w j s = record { server = put w.server j s; network = w.network }

abbrev pub with : Core → ServerId → Server → List Message → Core
with w j s p = record { server = put w.server j s; network = p }

-- one message posted
abbrev pub posted : Core → Message → Core
posted w l = record { server = w.server; network = joined w.network l }

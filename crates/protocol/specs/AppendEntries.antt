-- Replication: a leader's append request, its receiver with all cases in order, the receiver of the reply, and the leader's commit.
use Rattle.std.specs.Prelude.{ℕ, zero, suc, ◌-◌, min, max, Bool, cond, ◌&&◌, leb, [], ◌∷◌, ◌++◌, length, take, Some, None, Option, ◌==◌, nat_le, nat_lt}
use Rattle.record.specs.declared.entry.Entry.{Entry}
use Rattle.protocol.specs.ServerIds.{ServerId, put}
use Rattle.protocol.specs.State.{Log, at, term_at, tip, follower, Server, is_leader, AppendEntries, AppendRequest, AppendReply, Message, set_log, set_role, set_peers, set_commit, set_applied}
use Rattle.protocol.specs.Elections.{two_of}

-- The append request that a leader sends to r: the entry before next, its commit, and entry next if it holds it.
abbrev pub append_request : ServerId → Server → ServerId → Message
append_request j s r = record {
  from = j;
  to = r;
  term = s.term;
  body = AppendRequest (record {
    previous = s.next r - 1;
    previous_term = tip s.log (s.next r - 1);
    commit = s.commit;
    entry = cond (nat_lt (s.next r - 1) (length s.log)) (Some (at s.log (s.next r - 1))) None;
  });
}

-- The receiver, in the request's term and no leader, is a follower from here on.
abbrev pub follows : Server → Server
follows s = set_role follower s

-- it holds the first p entries, the last of them of term t
abbrev pub reaches : Log → ℕ → ℕ → Bool
reaches l p t = nat_le p (length l) && tip l p == t

-- the log is l, all of it synced, and a entries are applied
abbrev pub holds : Log → ℕ → Server → Server
holds l a s = set_role follower (set_log l (length l) (set_applied a s))

abbrev pub commits : ℕ → Server → Server
commits n s = set_commit n s

-- then commit rises to the smaller of the sender's commit k and m, through which the logs agree
abbrev pub accepts : Log → ℕ → ℕ → ℕ → Server → Server
accepts l a m k s = commits (max s.commit (min k m)) (holds l a s)

-- what is still applied once open edits from entry p + 1 on are undone
abbrev pub applied_within : ℕ → Server → ℕ
applied_within p s = min s.applied p

-- One entry e with the number p + 1: past 64 it is dropped unanswered; a held one of its term stays; a held one of another term
-- is dropped unanswered at or below commit, and above it open edits from there on are undone and the log is cut; one not held is appended.
abbrev pub accepted : ℕ → ℕ → Entry → Server → Server
accepted p k e s =
    cond (nat_le 64 p) (follows s)
    (cond (nat_lt p (length s.log))
    (cond (term_at s.log p == e.term)
    (accepts s.log s.applied (suc p) k s)
    (cond (nat_lt p s.commit) (follows s)
    (accepts (take p s.log ++ e ∷ []) (applied_within p s) (suc p) k s)))
    (accepts (s.log ++ e ∷ []) s.applied (suc p) k s))

-- the m of the yes, if there is one
abbrev pub accepted_to : ℕ → Entry → Server → Option ℕ
accepted_to p e s =
    cond (nat_le 64 p) None
    (cond (nat_lt p (length s.log))
    (cond (term_at s.log p == e.term) (Some (suc p)) (cond (nat_lt p s.commit) None (Some (suc p))))
    (Some (suc p)))

-- with no entry, only syncing and commit are left
abbrev pub took : ℕ → ℕ → Option Entry → Server → Server
took p k None s = accepts s.log s.applied p k s
took p k (Some e) s = accepted p k e s

abbrev pub took_to : ℕ → Option Entry → Server → Option ℕ
took_to p None s = Some p
took_to p (Some e) s = accepted_to p e s

abbrev pub yes_to : ServerId → ServerId → ℕ → Option ℕ → Option Message
yes_to from to T None = None
yes_to from to T (Some m) = Some (record { from = to; to = from; term = T; body = AppendReply (Some m) })

abbrev pub no_to : ServerId → ServerId → Server → Message
no_to from to s = record { from = to; to = from; term = s.term; body = AppendReply None }

-- A lower term gets a no; a leader of the term drops it unanswered; a candidate steps down; a previous entry that is missing or of another term gets a no.
abbrev pub hears_append : ℕ → AppendEntries → Server → Server
hears_append T a s =
    cond (T == s.term) (cond (is_leader s.role) s (cond (reaches s.log a.previous a.previous_term) (took a.previous a.commit a.entry s) (follows s))) s

abbrev pub append_reply : ServerId → ServerId → ℕ → AppendEntries → Server → Option Message
append_reply from to T a s =
    cond (T == s.term) (cond (is_leader s.role) None (cond (reaches s.log a.previous a.previous_term)
    (yes_to from to T (took_to a.previous a.entry s)) (Some (no_to from to s)))) (Some (no_to from to s))

-- A reply counts at a leader of that term. A yes raises match to m and next to at least match + 1; a no lowers next by one, to no less than match + 1.
abbrev pub notes : ServerId → ℕ → ℕ → Server → Server
notes r n m s = set_peers (put s.next r n) (put s.match r m) s

abbrev pub got_yes : ServerId → ℕ → Server → Server
got_yes r m s = notes r (max (s.next r) (suc (max (s.match r) m))) (max (s.match r) m) s

abbrev pub got_no : ServerId → Server → Server
got_no r s = notes r (max (suc (s.match r)) (s.next r - 1)) (s.match r) s

abbrev pub got_reply : ServerId → Option ℕ → Server → Server
got_reply from None s = got_no from s
got_reply from (Some m) s = got_yes from m s

-- How far k is known to hold the log of the leader j: j itself as far as its durable count, another as far as match.
abbrev pub known : ServerId → Server → ServerId → ℕ
known j s = put s.match j s.durable

abbrev pub two_hold : ServerId → Server → ℕ → Bool
two_hold j s n = two_of (λ k. leb n (known j s k))

-- The leader's commit: the largest number up to a bound whose entry is of the own term and which two servers hold, or 0.
unfoldable pub top : ServerId → Server → ℕ → ℕ
top j s zero = 0
top j s (suc i) = cond (term_at s.log i == s.term && two_hold j s (suc i)) (suc i) (top j s i)

abbrev pub raises : ServerId → Server → Server
raises j s = commits (max s.commit (top j s (length s.log))) s

abbrev pub hears_reply : ServerId → ServerId → ℕ → Option ℕ → Server → Server
hears_reply from to T m s = cond (T == s.term && is_leader s.role) (raises to (got_reply from m s)) s

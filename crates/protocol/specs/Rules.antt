-- Rules for servers: a message at its receiver, what a call makes of one server, and what its machine does beside.
use Rattle.std.specs.Prelude.{ℕ, zero, suc, ◌+◌, ◌-◌, min, Bool, true, false, cond, not, ◌&&◌, ◌||◌, List, [], ◌∷◌, ◌++◌, length, take, Some, None, Option, ◌==◌, nat_le, nat_lt}
use Rattle.sheet.specs.declared.types.Edit.{Edit}
use Rattle.record.specs.declared.entry.Entry.{Entry}
use Rattle.machine.specs.States.{applied, settled, undone_times}
use Rattle.protocol.specs.declared.Standing.{Standing}
use Rattle.protocol.specs.declared.Standing.TheVariants.{Kept, Gone, Open, Unknown}
use Rattle.protocol.specs.ServerIds.{ServerId}
use Rattle.protocol.specs.State.{at, tip, follower, Server, is_leader, Body, VoteRequest, VoteReply, AppendRequest, AppendReply, Message, Machine, set_up, set_ballot, set_log, set_role, set_commit, set_applied}
use Rattle.protocol.specs.Elections.{hears_vote_request, vote_reply, hears_vote_reply}
use Rattle.protocol.specs.AppendEntries.{hears_append, append_reply, hears_reply, raises}

-- A message at its receiver, whose term is by now at least the message's: the server after it, and the message that goes back.
abbrev pub hears : Server → ServerId → ServerId → ℕ → Body → Server
hears s from to T (VoteRequest pair) = hears_vote_request s from T pair
hears s from to T (VoteReply ok) = hears_vote_reply s from T ok
hears s from to T (AppendRequest a) = hears_append T a s
hears s from to T (AppendReply m) = hears_reply from to T m s

abbrev pub replies : Server → ServerId → ServerId → ℕ → Body → Option Message
replies s from to T (VoteRequest pair) = Some (vote_reply s from to T pair)
replies s from to T (VoteReply ok) = None
replies s from to T (AppendRequest a) = append_reply from to T a s
replies s from to T (AppendReply m) = None

-- An entry more, volatile. A leader with fewer than 64 may take it.
abbrev pub gains : Entry → Server → Server
gains e s = set_log (s.log ++ e ∷ []) s.durable s

abbrev pub may_propose : Server → Bool
may_propose s = s.up && (is_leader s.role && nat_lt (length s.log) 64)

abbrev pub proposes : Edit → Server → Server
proposes e s = cond (may_propose s) (gains (record { term = s.term; edit = e }) s) s

-- Syncing makes every entry durable; a leader then raises its commit.
abbrev pub syncs : Server → Server
syncs s = set_log s.log (length s.log) s

abbrev pub firms : ServerId → Server → Server
firms j s = cond s.up (cond (is_leader s.role) (raises j (syncs s)) (syncs s)) s

-- The next entry is applied: one below commit; or openly, the next one held, where commit is 1 or more, the entry at commit has
-- the own term and fewer than sixteen are open.
abbrev pub applies : Server → Server
applies s = set_applied (suc s.applied) s

abbrev pub openly : Server → Bool
openly s = nat_lt 0 s.commit && (tip s.log s.commit == s.term && nat_lt s.applied (length s.log))

abbrev pub few_open : Server → Bool
few_open s = nat_lt s.applied (s.commit + 16)

abbrev pub may_apply : Server → Bool
may_apply s = nat_lt s.applied s.commit || (openly s && few_open s)

abbrev pub applies_next : Server → Server
applies_next s = cond (s.up && may_apply s) (applies s) s

-- An outage: down, a follower, counts 0. The store keeps term, vote and the first c entries, all of them durable.
abbrev pub stops : ℕ → Server → Server
stops c s = set_up false (set_ballot s.term s.vote (set_log (take c s.log) c (set_role follower (set_commit 0 (set_applied 0 s)))))

abbrev pub fails : ℕ → Server → Server
fails c s = cond s.up (stops c s) s

-- what an outage may keep: at least what is durable, at most all
abbrev pub may_keep : ℕ → Server → Bool
may_keep c s = nat_le s.durable c && nat_le c (length s.log)

abbrev pub starts : Server → Server
starts s = set_up true s

abbrev pub restarts : Server → Server
restarts s = cond s.up s (starts s)

-- What a server tells of number n and term t: from 1 up to commit, kept if entry n has term t, else gone; otherwise open if n is held with t, else unknown.
abbrev pub standing_of : Server → ℕ → ℕ → Standing
standing_of s n t =
    cond (nat_lt 0 n && nat_le n s.commit) (cond (tip s.log n == t) Kept Gone)
    (cond (nat_lt 0 n && (nat_le n (length s.log) && tip s.log n == t)) Open Unknown)

-- the oldest states dropped, one after the other
abbrev pub settled_times : {X : Type 0} → ℕ → List X → List X
settled_times zero xs = xs
settled_times (suc k) xs = settled (settled_times k xs)

-- The machine beside a server that goes from s to s', by their differences. One that stops is reset; what is applied no more is undone;
-- what is newly applied adds a state; what is newly both applied and committed is settled. Where nothing differs, nothing moves.
abbrev pub moved : {X : Type 0} → Machine X → Server → Server → List X → List X
moved M s s' ms =
    cond (s.up && not s'.up) (M.opening ∷ [])
    (settled_times (min s'.applied s'.commit - min s.applied s.commit)
    (cond (nat_lt s.applied s'.applied)
    (applied M.opening M.next (at s'.log s.applied).edit ms)
    (undone_times (s.applied - s'.applied) ms)))

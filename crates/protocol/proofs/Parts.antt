-- A delivery in parts: what a message makes of the core, with its tests outside.
use Rattle.std.proofs.Common.{ℕ, suc, Bool, true, false, cond, ◌&&◌, eqb, ltb, leb, [], ◌∷◌, ◌++◌, length, take, Some, None, Option}
use Rattle.record.specs.declared.entry.Entry.{Entry}
use Rattle.protocol.specs.ServerIds.{ServerId, put}
use Rattle.protocol.specs.State.{Log, term_at, is_leader, AppendEntries, Body, VoteRequest, VoteReply, AppendRequest, AppendReply, Core, change, posted}
use Rattle.protocol.specs.Elections.{taken, grants, votes_for, counting, counts, two_of, wins}
use Rattle.protocol.specs.AppendEntries.{follows, reaches, accepts, applied_within, got_reply, raises}

abbrev pub asked_in : Core → ServerId → ServerId → ℕ → ℕ × ℕ → Core
asked_in w from to T pair =
    cond (grants (w.server to) from T pair)
    (posted (change w to (votes_for from (w.server to))) (record { from = to; to = from; term = T; body = VoteReply true }))
    (posted w (record { from = to; to = from; term = (w.server to).term; body = VoteReply false }))

abbrev pub counted_in : Core → ServerId → ServerId → ℕ → Bool → Core
counted_in w from to T ok =
    cond (counting (w.server to) T ok)
    (cond (two_of (put (w.server to).voters from true)) (change w to (wins (counts from (w.server to)))) (change w to (counts from (w.server to))))
    w

-- the log is to be l, with a entries applied, and a yes goes back
abbrev pub kept_in : Core → ServerId → ServerId → ℕ → Log → ℕ → ℕ → ℕ → Core
kept_in w from to T l a m k =
    posted (change w to (accepts l a m k (w.server to)))
    (record { from = to; to = from; term = T; body = AppendReply (Some m) })

abbrev pub took_in : Core → ServerId → ServerId → ℕ → ℕ → ℕ → Option Entry → Core
took_in w from to T p k None = kept_in w from to T (w.server to).log (w.server to).applied p k
took_in w from to T p k (Some e) =
    cond (leb 64 p) (change w to (follows (w.server to)))
    (cond (ltb p (length (w.server to).log))
    (cond (eqb (term_at (w.server to).log p) e.term)
    (kept_in w from to T (w.server to).log (w.server to).applied (suc p) k)
    (cond (ltb p (w.server to).commit) (change w to (follows (w.server to)))
    (kept_in w from to T (take p (w.server to).log ++ e ∷ []) (applied_within p (w.server to)) (suc p) k)))
    (kept_in w from to T ((w.server to).log ++ e ∷ []) (w.server to).applied (suc p) k))

abbrev pub appended_in : Core → ServerId → ServerId → ℕ → AppendEntries → Core
appended_in w from to T a =
    cond (eqb T (w.server to).term)
    (cond (is_leader (w.server to).role) w
    (cond (reaches (w.server to).log a.previous a.previous_term)
    (took_in w from to T a.previous a.commit a.entry)
    (posted (change w to (follows (w.server to))) (record { from = to; to = from; term = (w.server to).term; body = AppendReply None }))))
    (posted w (record { from = to; to = from; term = (w.server to).term; body = AppendReply None }))

abbrev pub replied_in : Core → ServerId → ServerId → ℕ → Option ℕ → Core
replied_in w from to T m =
    cond (eqb T (w.server to).term && is_leader (w.server to).role) (change w to (raises to (got_reply from m (w.server to)))) w

abbrev pub heard_in : Core → ServerId → ServerId → ℕ → Body → Core
heard_in w from to T (VoteRequest pair) = asked_in w from to T pair
heard_in w from to T (VoteReply ok) = counted_in w from to T ok
heard_in w from to T (AppendRequest a) = appended_in w from to T a
heard_in w from to T (AppendReply m) = replied_in w from to T m

abbrev pub caught_in : Core → ServerId → ℕ → Core
caught_in w j T = cond (ltb (w.server j).term T) (change w j (taken T (w.server j))) w

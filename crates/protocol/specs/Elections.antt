-- Terms and elections: a higher term, a campaign, the receiver of a vote request, the receiver of a vote reply.
use Rattle.std.specs.Prelude.{ℕ, suc, min, Bool, true, false, cond, not, ◌&&◌, ◌||◌, length, ◌==◌, nat_le, nat_lt}
use Rattle.protocol.specs.ServerIds.{ServerId, one, two, three, number_of, same, put}
use Rattle.protocol.specs.State.{Log, last_term, follower, candidate, leader, Server, is_leader, is_candidate, VoteRequest, VoteReply, Message, set_ballot, set_role, set_voters, set_peers, set_applied}

-- A higher term is taken: applied falls to commit if it was above, by undoing; there is no vote in it yet, and the server is a follower.
abbrev pub taken : ℕ → Server → Server
taken T s = set_ballot T 0 (set_role follower (set_applied (min s.applied s.commit) s))

-- what a receiver does first
abbrev pub caught_up : ℕ → Server → Server
caught_up T s = cond (nat_lt s.term T) (taken T s) s

-- the highest term there is
abbrev pub last_of_terms : ℕ
last_of_terms = 1_000_000

-- A campaign takes the next term, votes for itself, and is a candidate with its own vote.
abbrev pub stands : ServerId → Server → Server
stands j s = set_ballot (suc s.term) (number_of j) (set_role candidate (set_voters (λ k. same k j) (taken (suc s.term) s)))

abbrev pub may_campaign : Server → Bool
may_campaign s = s.up && (not (is_leader s.role) && nat_lt s.term last_of_terms)

abbrev pub campaigns : ServerId → Server → Server
campaigns j s = cond (may_campaign s) (stands j s) s

-- How far a log has come: its last term and its length, as a pair.
abbrev pub pair_of : Log → ℕ × ℕ
pair_of l = (last_term l, length l)

-- the pair a is not below the pair b, the term weighing first
abbrev pub not_below : ℕ × ℕ → ℕ × ℕ → Bool
not_below a b = nat_lt b.0 a.0 || (b.0 == a.0 && nat_le b.1 a.1)

abbrev pub vote_request : ServerId → Server → ServerId → Message
vote_request j s r = record { from = j; to = r; term = s.term; body = VoteRequest (pair_of s.log) }

-- The receiver of a vote request says yes in its own term only, with no vote or one for the sender, to a pair not below its own.
abbrev pub may_vote : ℕ → ServerId → Bool
may_vote v c = v == 0 || v == number_of c

abbrev pub grants : Server → ServerId → ℕ → ℕ × ℕ → Bool
grants s from T pair = T == s.term && (may_vote s.vote from && not_below pair (pair_of s.log))

-- a yes is recorded as the vote
abbrev pub votes_for : ServerId → Server → Server
votes_for c s = set_ballot s.term (number_of c) s

abbrev pub hears_vote_request : Server → ServerId → ℕ → ℕ × ℕ → Server
hears_vote_request s from T pair = cond (grants s from T pair) (votes_for from s) s

abbrev pub vote_reply : Server → ServerId → ServerId → ℕ → ℕ × ℕ → Message
vote_reply s from to T pair = cond (grants s from T pair)
    (record { from = to; to = from; term = T; body = VoteReply true })
    (record { from = to; to = from; term = s.term; body = VoteReply false })

-- A vote reply counts at a candidate of that term, where it says yes.
abbrev pub counting : Server → ℕ → Bool → Bool
counting s T ok = ok && (T == s.term && is_candidate s.role)

abbrev pub counts : ServerId → Server → Server
counts v s = set_voters (put s.voters v true) s

abbrev pub two_of : (ServerId → Bool) → Bool
two_of f = (f one && f two) || ((f one && f three) || (f two && f three))

-- With two voters it is the leader, each next behind its log and each match 0.
abbrev pub wins : Server → Server
wins s = set_role leader (set_peers (λ k. suc (length s.log)) (λ k. 0) s)

abbrev pub tallied : ServerId → Server → Server
tallied from s = cond (two_of (put s.voters from true)) (wins (counts from s)) (counts from s)

abbrev pub hears_vote_reply : Server → ServerId → ℕ → Bool → Server
hears_vote_reply s from T ok = cond (counting s T ok) (tallied from s) s

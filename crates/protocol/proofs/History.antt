-- The history beside a run, and the invariant that ties the servers and the network to it.
use Rattle.std.proofs.Common.{◌≡◌, ℕ, suc, ◌<◌, ◌≤◌, true, false, cond, ◌&&◌, eqb, ◌⊎◌, length, Some, None, Option}
use Rattle.std.specs.List.{AllByRecursion as All}
use Rattle.record.specs.declared.entry.Entry.{Entry}
use Rattle.protocol.specs.ServerIds.{ServerId, number_of, same}
use Rattle.protocol.specs.State.{Log, at, term_at, tip, Role, follower, candidate, leader, Server, Body, VoteRequest, VoteReply, AppendRequest, AppendReply, Message, Core}
use Rattle.protocol.specs.Elections.{pair_of}

-- f, but x at term T
abbrev pub put_t : {A : Type 0} → (ℕ → A) → ℕ → A → ℕ → A
put_t f T x U = cond (eqb U T) x (f U)

-- f, but x at server i in term T
abbrev pub put2 : {A : Type 0} → (ServerId → ℕ → A) → ServerId → ℕ → A → ServerId → ℕ → A
put2 f i T x j U = cond (same j i && eqb U T) x (f j U)

-- a vote as a store has it
abbrev pub vote_of : Option ServerId → ℕ
vote_of None = 0
vote_of (Some c) = number_of c

-- two logs agree through n: both hold n entries, and these are equal
pub record Pre (n : ℕ) (a b : Log) : Type 0 where
  pub left : n ≤ length a
  pub right : n ≤ length b
  pub same : (i : ℕ) → i < n → at a i ≡ at b i

-- The history: who was elected in a term; that leader's log at its fullest; whom a server voted for in a term; the log with which a
-- server campaigned in a term; how many entries of a term's log a server has held durably while in that term. It only grows.
pub record Hist : Type 0 where
  pub leads : ℕ → Option ServerId
  pub log : ℕ → Log
  pub voted : ServerId → ℕ → Option ServerId
  pub stood : ServerId → ℕ → Log
  pub ack : ServerId → ℕ → ℕ

-- h has grown from g
pub record Grown (g h : Hist) : Type 0 where
  pub leads : (T : ℕ) (c : ServerId) → g.leads T ≡ Some c → h.leads T ≡ Some c
  pub log : (T : ℕ) → Pre (length (g.log T)) (g.log T) (h.log T)
  pub voted : (v : ServerId) (T : ℕ) (c : ServerId) → g.voted v T ≡ Some c → h.voted v T ≡ Some c
  pub stood : (c : ServerId) (T : ℕ) → g.voted c T ≡ Some c → h.stood c T ≡ g.stood c T
  pub ack : (q : ServerId) (T : ℕ) → g.ack q T ≤ h.ack q T

-- each entry of l is of a term below B, and l is that term's log through it
pub record SoundAt (g : Hist) (B : ℕ) (l : Log) (i : ℕ) : Type 0 where
  pub below : term_at l i < B
  pub pre : Pre (suc i) l (g.log (term_at l i))

abbrev pub Sound : Hist → ℕ → Log → Type 0
Sound g B l = (i : ℕ) → i < length l → SoundAt g B l i

-- entry i of term T's log is of term T, and two servers have acknowledged it in T
pub record Chosen (g : Hist) (T i : ℕ) : Type 0 where
  pub own : term_at (g.log T) i ≡ T
  pub x : ServerId
  pub y : ServerId
  pub apart : x ≡ y → ⊥
  pub ackx : i < g.ack x T
  pub acky : i < g.ack y T

-- the first k of l are chosen, in a term of at most T
pub record Settled (g : Hist) (T k : ℕ) (l : Log) : Type 0 where
  pub U : ℕ
  pub i : ℕ
  pub low : U ≤ T
  pub far : k ≤ suc i
  pub chosen : Chosen g U i
  pub pre : Pre k l (g.log U)

pub record HistOk (g : Hist) : Type 0 where
  pub logs : (T : ℕ) → Sound g (suc T) (g.log T)
  pub stoods : (c : ServerId) (T : ℕ) → Sound g T (g.stood c T)
  pub grew : (T : ℕ) (c : ServerId) → g.leads T ≡ Some c → Pre (length (g.stood c T)) (g.stood c T) (g.log T)
  pub led : (T : ℕ) → 0 < length (g.log T) → (c : ServerId) × (g.leads T ≡ Some c)
  pub elected : (T : ℕ) (c : ServerId) → g.leads T ≡ Some c → (v : ServerId) × (v ≡ c → ⊥) × (g.voted v T ≡ Some c)
  pub self : (v : ServerId) (T : ℕ) (c : ServerId) → g.voted v T ≡ Some c → g.voted c T ≡ Some c
  pub acks : (q : ServerId) (T : ℕ) → g.ack q T ≤ length (g.log T)

pub record LeaderOk (g : Hist) (j : ServerId) (s : Server) : Type 0 where
  pub leads : g.leads s.term ≡ Some j
  pub log : s.log ≡ g.log s.term
  pub ack : g.ack j s.term ≡ s.durable
  pub match : (k : ServerId) → (k ≡ j → ⊥) → s.match k ≤ g.ack k s.term
  pub next : (k : ServerId) → (s.match k < s.next k) × (s.next k ≤ suc (length s.log))

pub record CandidateOk (g : Hist) (j : ServerId) (s : Server) : Type 0 where
  pub unled : g.leads s.term ≡ Some j → ⊥
  pub own : g.voted j s.term ≡ Some j
  pub log : s.log ≡ g.stood j s.term
  pub voters : (k : ServerId) → s.voters k ≡ true → g.voted k s.term ≡ Some j

abbrev pub RoleOk : Hist → ServerId → Server → Role → Type 0
RoleOk g j s follower = Unit {0}
RoleOk g j s candidate = CandidateOk g j s
RoleOk g j s leader = LeaderOk g j s

-- what is applied past commit is of the own term
pub record AppliedOk (s : Server) : Type 0 where
  pub within : s.applied ≤ length s.log
  pub ahead : s.commit < s.applied → (0 < s.commit) × (tip s.log s.commit ≡ s.term)

pub record Ok (g : Hist) (j : ServerId) (s : Server) : Type 0 where
  pub log : Sound g (suc s.term) s.log
  pub durable : s.durable ≤ length s.log
  pub vote : vote_of (g.voted j s.term) ≡ s.vote
  pub unvoted : (U : ℕ) → s.term < U → g.voted j U ≡ None
  pub backed : (v : ServerId) (U : ℕ) → g.voted v U ≡ Some j → U ≤ s.term
  pub unacked : (U : ℕ) → s.term < U → g.ack j U ≡ 0
  pub ack_durable : g.ack j s.term ≤ s.durable
  pub ack_pre : Pre (g.ack j s.term) s.log (g.log s.term)
  pub role : RoleOk g j s s.role
  pub commit : 0 < s.commit → Settled g s.term s.commit s.log
  pub machine : AppliedOk s

-- y may still stand behind entry i of T
abbrev pub Open : Hist → (ServerId → Server) → ServerId → ℕ → ℕ → Type 0
Open g w y T i = ((w y).term ≤ T) ⊎ (i < g.ack y T)

-- q has acknowledged entry i of T, which is of term T, and another may still stand behind it
pub record Tied (g : Hist) (w : ServerId → Server) (T i : ℕ) (q : ServerId) : Type 0 where
  pub own : term_at (g.log T) i ≡ T
  pub acked : i < g.ack q T
  pub y : ServerId
  pub apart : q ≡ y → ⊥
  pub may : Open g w y T i

pub record Holds (g : Hist) (s : Server) (T i : ℕ) : Type 0 where
  pub durable : i < s.durable
  pub pre : Pre (suc i) s.log (g.log T)

abbrev pub EntryOk : Hist → ℕ → ℕ → Option Entry → Type 0
EntryOk g T p None = Unit {0}
EntryOk g T p (Some e) = (p < length (g.log T)) × (e ≡ at (g.log T) p)

abbrev pub BodyOk : Hist → ServerId → ServerId → ℕ → Body → Type 0
BodyOk g s r T (VoteRequest pair) = (g.voted s T ≡ Some s) × (pair ≡ pair_of (g.stood s T))
BodyOk g s r T (VoteReply false) = Unit {0}
BodyOk g s r T (VoteReply true) = g.voted s T ≡ Some r
BodyOk g s r T (AppendRequest a) =
    (g.leads T ≡ Some s) × (a.previous ≤ length (g.log T)) × (a.previous_term ≡ tip (g.log T) a.previous) × EntryOk g T a.previous a.entry
    × (0 < a.commit → Settled g T a.commit (g.log T))
BodyOk g s r T (AppendReply None) = Unit {0}
BodyOk g s r T (AppendReply (Some m)) = (g.leads T ≡ Some r) × (m ≤ g.ack s T)

pub record MessageOk (g : Hist) (l : Message) : Type 0 where
  pub apart : l.from ≡ l.to → ⊥
  pub body : BodyOk g l.from l.to l.term l.body

pub record Inv (g : Hist) (w : Core) : Type 0 where
  pub hist : HistOk g
  pub each : (j : ServerId) → Ok g j (w.server j)
  pub held : (T i : ℕ) (q : ServerId) → Tied g w.server T i q → Holds g (w.server q) T i
  pub passed : (T i : ℕ) (q : ServerId) → Tied g w.server T i q → (U : ℕ) (c : ServerId) → T < U → g.voted q U ≡ Some c → Pre (suc i) (g.stood c U) (g.log T)
  pub network : All (MessageOk g) w.network

-- What outlasts a step: facts of the history as it grows, and the one lemma by which each step keeps the invariant.
use Rattle.std.proofs.Common.{◌≡◌, ℕ, zero, suc, ◌<◌, ◌≤◌, true, false, ◌⊎◌, List, length, Some, None, Option, sym, refl, ap, ◌∙◌, inl, inr, arith}
use Rattle.std.specs.List.{AllByRecursion as All}
use Rattle.std.proofs.ByRecursion.{All-weaker}
use Rattle.record.specs.declared.entry.Entry.{Entry}
use Rattle.protocol.specs.ServerIds.{ServerId, put}
use Rattle.protocol.specs.State.{Log, term_at, tip, Role, follower, candidate, leader, Server, Body, VoteRequest, VoteReply, AppendRequest, AppendReply, Message, Core, change}
use Rattle.protocol.proofs.History.{Pre, Hist, Grown, Sound, Chosen, Settled, HistOk, RoleOk, Ok, Open, Tied, Holds, EntryOk, BodyOk, MessageOk, Inv, vote_of}
use Rattle.protocol.proofs.Shelf.{pre_refl, pre_sym, pre_trans, pre_less, pre_term, cases_id, put_all}

pub grown_refl : (g : Hist) → Grown g g
grown_refl g = record {
  leads = λ T c e. e;
  log = λ T. pre_refl (g.log T) (length (g.log T)) (omega arith);
  voted = λ v T c e. e;
  stood = λ c T e. refl;
  ack = λ q T. omega arith;
}

-- what g's log of T has through n, h's has
pub log_grown : {g h : Hist} → Grown g h → (T n : ℕ) → n ≤ length (g.log T) → Pre n (g.log T) (h.log T)
log_grown G T n k = pre_less k (G.log T)

pub pre_grown : {g h : Hist} {n : ℕ} {a : Log} → Grown g h → (T : ℕ) → Pre n a (g.log T) → Pre n a (h.log T)
pre_grown G T p = pre_trans p (log_grown G T _ p.right)

pub sound_grown : {g h : Hist} → Grown g h → (B : ℕ) (l : Log) → Sound g B l → Sound h B l
sound_grown G B l s i k = record { below = (s i k).below; pre = pre_grown G (term_at l i) (s i k).pre }

pub sound_less : (g : Hist) (A B : ℕ) (l : Log) → A ≤ B → Sound g A l → Sound g B l
sound_less g A B l h s i k = record { below = omega (arith, (s i k).below); pre = (s i k).pre }

-- a log that agrees through its whole length with a sound one is sound
pub sound_pre : (g : Hist) (B : ℕ) (l m : Log) → Pre (length l) l m → Sound g B m → Sound g B l
sound_pre g B l m p s i k =
    let e = pre_term p i k in
    let t = s i (omega (arith, p.right)) in
    record { below = rw e t.below; pre = rw e (pre_trans (pre_less k p) t.pre) }

pub term_grown : {g h : Hist} → Grown g h → (T i : ℕ) → i < length (g.log T) → term_at (h.log T) i ≡ term_at (g.log T) i
term_grown G T i k = sym (pre_term (G.log T) i k)

pub chosen_grown : {g h : Hist} → HistOk g → Grown g h → (T i : ℕ) → Chosen g T i → Chosen h T i
chosen_grown {g} {h} H G T i c = record {
  own = term_grown G T i (omega (arith, H.acks c.x T, c.ackx)) ∙ c.own;
  x = c.x;
  y = c.y;
  apart = c.apart;
  ackx = omega (arith, G.ack c.x T, c.ackx);
  acky = omega (arith, G.ack c.y T, c.acky);
}

pub settled_grown : {g h : Hist} {T k : ℕ} {l : Log} → HistOk g → Grown g h → Settled g T k l → Settled h T k l
settled_grown H G s = record {
  U = s.U;
  i = s.i;
  low = s.low;
  far = s.far;
  chosen = chosen_grown H G s.U s.i s.chosen;
  pre = pre_grown G s.U s.pre;
}

-- the same of another log that agrees as far, and of a higher term
pub settled_pre : {g : Hist} {T V k : ℕ} {l m : Log} → T ≤ V → Pre k m l → Settled g T k l → Settled g V k m
settled_pre h p s = record
    { U = s.U; i = s.i; low = omega (arith, s.low); far = s.far; chosen = s.chosen; pre = pre_trans p s.pre }

pub settled_less : {g : Hist} {T j k : ℕ} {l : Log} → j ≤ k → Settled g T k l → Settled g T j l
settled_less h s = record
    { U = s.U; i = s.i; low = s.low; far = omega (arith, s.far); chosen = s.chosen; pre = pre_less h s.pre }

pub tip_pre : (n : ℕ) {a b : Log} → Pre n a b → tip a n ≡ tip b n
tip_pre zero p = refl
tip_pre (suc n) p = pre_term p n (omega arith)

entry_grown : {g h : Hist} → Grown g h → (T p : ℕ) (e : Option Entry) → EntryOk g T p e → EntryOk h T p e
entry_grown G T p None k = tt
entry_grown G T p (Some e) k = (omega (arith, (G.log T).right, k.0), k.1 ∙ (G.log T).same p k.0)

body_grown : {g h : Hist} → HistOk g → Grown g h → (s r : ServerId) (T : ℕ) (k : Body) → BodyOk g s r T k → BodyOk h s r T k
body_grown H G s r T (VoteRequest pair) k = let e = G.stood s T k.0 in (G.voted s T s k.0, rw e k.1)
body_grown H G s r T (VoteReply false) k = tt
body_grown H G s r T (VoteReply true) k = G.voted s T r k
body_grown H G s r T (AppendRequest a) k = (
  G.leads T s k.0,
  omega (arith, (G.log T).right, k.1),
  k.2 ∙ tip_pre a.previous (log_grown G T a.previous k.1),
  entry_grown G T a.previous a.entry k.3,
  λ z. let s = k.4 z in settled_pre (omega arith) (pre_sym (log_grown G T a.commit s.pre.left)) (settled_grown H G s),
)
body_grown H G s r T (AppendReply None) k = tt
body_grown H G s r T (AppendReply (Some m)) k = (G.leads T r k.0, omega (arith, G.ack s T, k.1))

pub message_grown : {g h : Hist} → HistOk g → Grown g h → (l : Message) → MessageOk g l → MessageOk h l
message_grown H G l k = record { apart = k.apart; body = body_grown H G l.from l.to l.term l.body k.body }

pub network_grown : {g h : Hist} → HistOk g → Grown g h → (p : List Message) → All (MessageOk g) p → All (MessageOk h) p
network_grown {g} {h} H G p a = All-weaker (MessageOk g) (MessageOk h) (message_grown H G) p a

-- what h says of server k beyond g
pub record Apart (g h : Hist) (k : ServerId) : Type 0 where
  pub voted : (U : ℕ) → h.voted k U ≡ g.voted k U
  pub ack : (U : ℕ) → h.ack k U ≡ g.ack k U
  pub backed : (v : ServerId) (U : ℕ) → h.voted v U ≡ Some k → (x : ServerId) × (g.voted x U ≡ Some k)
  pub leads : (U : ℕ) → h.leads U ≡ Some k → g.leads U ≡ Some k
  pub log : (U : ℕ) → g.leads U ≡ Some k → h.log U ≡ g.log U

pub role_grown : {g h : Hist} → Grown g h → (k : ServerId) (s : Server)
    → ((U : ℕ) → h.leads U ≡ Some k → g.leads U ≡ Some k) → ((U : ℕ) → g.leads U ≡ Some k → h.log U ≡ g.log U)
    → ((U : ℕ) → h.ack k U ≡ g.ack k U) → (r : Role) → RoleOk g k s r → RoleOk h k s r
role_grown G k s a b c follower o = tt
role_grown {g} {h} G k s a b c candidate o = record {
  unled = λ e. o.unled (a s.term e);
  own = G.voted k s.term k o.own;
  log = o.log ∙ sym (G.stood k s.term o.own);
  voters = λ v e. G.voted v s.term k (o.voters v e);
}
role_grown {g} {h} G k s a b c leader o = record {
  leads = G.leads s.term k o.leads;
  log = o.log ∙ sym (b s.term o.leads);
  ack = c s.term ∙ o.ack;
  match = λ j n. omega (arith, o.match j n, G.ack j s.term);
  next = o.next;
}

-- two servers alike in what a role speaks of
pub record Alike (s s' : Server) : Type 0 where
  pub term : s'.term ≡ s.term
  pub log : s'.log ≡ s.log
  pub durable : s'.durable ≡ s.durable
  pub next : s'.next ≡ s.next
  pub match : s'.match ≡ s.match
  pub voters : s'.voters ≡ s.voters

pub role_alike : (g : Hist) (k : ServerId) {s s' : Server} → Alike s s' → (r : Role) → RoleOk g k s r → RoleOk g k s' r
role_alike g k A follower o = tt
role_alike g k A candidate o = record {
  unled = rw A.term o.unled;
  own = rw A.term o.own;
  log = rw (A.term, A.log) o.log;
  voters = rw (A.term, A.voters) o.voters;
}
role_alike g k A leader o = record {
  leads = rw A.term o.leads;
  log = rw (A.term, A.log) o.log;
  ack = rw (A.term, A.durable) o.ack;
  match = rw (A.term, A.match) o.match;
  next = rw (A.log, A.match, A.next) o.next;
}

pub ok_other : {g h : Hist} → HistOk g → Grown g h → (k : ServerId) (s : Server) → Apart g h k → Ok g k s → Ok h k s
ok_other {g} {h} H G k s A o = record {
  log = sound_grown G (suc s.term) s.log o.log;
  durable = o.durable;
  vote = ap vote_of (A.voted s.term) ∙ o.vote;
  unvoted = λ U l. A.voted U ∙ o.unvoted U l;
  backed = λ v U e. let b = A.backed v U e in o.backed b.0 U b.1;
  unacked = λ U l. A.ack U ∙ o.unacked U l;
  ack_durable = omega (arith, A.ack s.term, o.ack_durable);
  ack_pre = rw (A.ack s.term) (pre_grown G s.term o.ack_pre);
  role = role_grown G k s A.leads A.log A.ack s.role o.role;
  commit = λ z. settled_grown H G (o.commit z);
  machine = o.machine;
}

-- a step of the servers from w to w', beside the history's from g to h
pub record Step (g h : Hist) (w w' : ServerId → Server) : Type 0 where
  pub grown : Grown g h
  pub hist : HistOk h
  pub each : (j : ServerId) → Ok h j (w' j)
  pub terms : (q : ServerId) → (w q).term ≤ (w' q).term
  pub keeps : (T i : ℕ) (q : ServerId) → Tied g w T i q → Holds g (w q) T i → Holds g (w' q) T i
  pub fresh : (q : ServerId) (T i : ℕ) → i < h.ack q T → (i < g.ack q T) ⊎ (((w' q).term ≤ T) × Holds h (w' q) T i)
  pub votes : (q : ServerId) (U : ℕ) (c : ServerId) → h.voted q U ≡ Some c
      → (g.voted q U ≡ Some c) ⊎ ((T i : ℕ) → Tied g w T i q → T < U → Pre (suc i) (h.stood c U) (h.log T))

module _ {g h : Hist} {w : Core} {w' : ServerId → Server} (inv : Inv g w) (s : Step g h w.server w') where
  open_back : (y : ServerId) (T i : ℕ) → Open h w' y T i → Open g w.server y T i
  open_back y T i (inl l) = inl (omega (arith, s.terms y))
  open_back y T i (inr a) = elim (s.fresh y T i a) [ inl b ↦ inr b | inr b ↦ inl (omega (arith, s.terms y, b.0)) ]

  tied_back : (T i : ℕ) (q : ServerId) → Tied h w' T i q → i < g.ack q T → Tied g w.server T i q
  tied_back T i q t a = record {
    own = sym (term_grown s.grown T i (omega (arith, inv.hist.acks q T))) ∙ t.own;
    acked = a;
    y = t.y;
    apart = t.apart;
    may = open_back t.y T i t.may;
  }

  step_held : (T i : ℕ) (q : ServerId) → Tied h w' T i q → Holds h (w' q) T i
  step_held T i q t = elim (s.fresh q T i t.acked) [
    | inl a ↦ let b = tied_back T i q t a in
        let k = s.keeps T i q b (inv.held T i q b) in
        record { durable = k.durable; pre = pre_grown s.grown T k.pre }
    | inr a ↦ a.1
  ]

  step_passed : (T i : ℕ) (q : ServerId) → Tied h w' T i q → (U : ℕ) (c : ServerId) → T < U → h.voted q U ≡ Some c → Pre (suc i) (h.stood c U) (h.log T)
  step_passed T i q t U c l v = elim (s.fresh q T i t.acked) [
    | inl a ↦ let b = tied_back T i q t a in elim (s.votes q U c v) [
      | inl o ↦ rw (s.grown.stood c U (inv.hist.self q U c o)) (pre_grown s.grown T (inv.passed T i q b U c l o))
      | inr o ↦ o T i b l
    ]
    | inr a ↦ let n = (s.each q).unvoted U (omega (arith, a.0)) in
        let z : ◌≡◌ {A = ℕ} 0 1 = cc in absurd (omega arith)
  ]

  pub step_inv : (p : List Message) → All (MessageOk h) p → Inv h (record { server = w'; network = p })
  step_inv p a = record { hist = s.hist; each = s.each; held = step_held; passed = step_passed; network = a }

-- a step of one server, j, to s
pub record Change (g h : Hist) (w : ServerId → Server) (j : ServerId) (s : Server) : Type 0 where
  pub grown : Grown g h
  pub hist : HistOk h
  pub mine : Ok h j s
  pub others : (k : ServerId) → (k ≡ j → ⊥) → Apart g h k
  pub term : (w j).term ≤ s.term
  pub keeps : (T i : ℕ) → Tied g w T i j → Holds g (w j) T i → Holds g s T i
  pub fresh : (T i : ℕ) → i < h.ack j T → (i < g.ack j T) ⊎ ((s.term ≤ T) × Holds h s T i)
  pub votes : (U : ℕ) (c : ServerId) → h.voted j U ≡ Some c
      → (g.voted j U ≡ Some c) ⊎ ((T i : ℕ) → Tied g w T i j → T < U → Pre (suc i) (h.stood c U) (h.log T))

module _ {g h : Hist} {w : Core} (inv : Inv g w) {j : ServerId} {s : Server} (c : Change g h w.server j s) where
  change_fresh : (q : ServerId) (T i : ℕ) → i < h.ack q T → (i < g.ack q T) ⊎ (((put w.server j s q).term ≤ T) × Holds h (put w.server j s q) T i)
  change_fresh = put_all w.server j s (λ q t. (T i : ℕ) → i < h.ack q T → (i < g.ack q T) ⊎ ((t.term ≤ T) × Holds h t T i))
      c.fresh (λ k n T i l. inl (rw ((c.others k n).ack T) at l))

  change_votes : (q : ServerId) (U : ℕ) (d : ServerId) → h.voted q U ≡ Some d
      → (g.voted q U ≡ Some d) ⊎ ((T i : ℕ) → Tied g w.server T i q → T < U → Pre (suc i) (h.stood d U) (h.log T))
  change_votes q = elim (cases_id q j) [
    | inl e ↦ rw e c.votes
    | inr n ↦ λ U d e. inl (sym ((c.others q n).voted U) ∙ e)
  ]

  pub change_step : Step g h w.server (put w.server j s)
  change_step = record {
    grown = c.grown;
    hist = c.hist;
    each = put_all w.server j s (Ok h) c.mine (λ k n. ok_other inv.hist c.grown k (w.server k) (c.others k n) (inv.each k));
    terms = put_all w.server j s (λ k t. (w.server k).term ≤ t.term) c.term (λ k n. omega arith);
    keeps = λ T i. put_all w.server j s (λ k t. Tied g w.server T i k → Holds g (w.server k) T i → Holds g t T i) (c.keeps T i) (λ k n t o. o);
    fresh = change_fresh;
    votes = change_votes;
  }

  pub change_inv : Inv h (change w j s)
  change_inv = step_inv inv change_step w.network (network_grown inv.hist c.grown w.network inv.network)

pub apart_refl : (g : Hist) (k : ServerId) → Apart g g k
apart_refl g k = record { voted = λ U. refl; ack = λ U. refl; backed = λ v U e. (v, e); leads = λ U e. e; log = λ U e. refl }

-- a step that the history does not see
pub quiet : {g : Hist} {w : Core} → Inv g w → (j : ServerId) (s : Server) → (w.server j).term ≤ s.term → Ok g j s
    → ((T i : ℕ) → Tied g w.server T i j → Holds g (w.server j) T i → Holds g s T i) → Inv g (change w j s)
quiet {g} {w} inv j s t o k = change_inv inv (record {
  grown = grown_refl g;
  hist = inv.hist;
  mine = o;
  others = λ k n. apart_refl g k;
  term = t;
  keeps = k;
  fresh = λ T i l. inl l;
  votes = λ U c e. inl e;
})

-- What a server acknowledges in its own term: an accepted append, and a leader that syncs.
use Rattle.std.proofs.Common.{◌≡◌, ℕ, suc, ◌<◌, ◌≤◌, max, ◌⊎◌, length, refl, ◌∙◌, inl, inr, arith}
use Rattle.std.proofs.lemmas.Bool.{cases_lt, cases_eq}
use Rattle.protocol.specs.ServerIds.{ServerId}
use Rattle.protocol.specs.State.{Log, Server, Core, change}
use Rattle.protocol.proofs.History.{put2, Pre, Hist, Grown, Sound, Settled, HistOk, RoleOk, AppliedOk, Ok, Tied, Holds, Inv}
use Rattle.protocol.proofs.Shelf.{pre_less, put2_here, put2_there, put2_all}
use Rattle.protocol.proofs.Frame.{grown_refl, sound_grown, settled_grown, Apart, change_inv}

pub pre_max : {a b : Log} (m n : ℕ) → Pre m a b → Pre n a b → Pre (max m n) a b
pre_max m n p q = elim (cases_lt m n) [
  | inl h ↦ let z : max m n ≡ n = omega arith in rw z q
  | inr h ↦ let z : max m n ≡ m = omega arith in rw z p
]

module _ {g : Hist} {w : Core} (inv : Inv g w) (j : ServerId) (m : ℕ) (s : Server) (st : s.term ≡ (w.server j).term) (sv : s.vote ≡ (w.server j).vote)
    (sf : s.durable ≡ length s.log) (sound : Sound g (suc (w.server j).term) s.log)
    (pm : Pre m s.log (g.log (w.server j).term))
    (pa : Pre (g.ack j (w.server j).term) s.log (g.log (w.server j).term))
    (role : (g' : Hist) → Grown g g' → g'.leads ≡ g.leads → g'.log ≡ g.log → g'.ack j (w.server j).term ≡ max (g.ack j (w.server j).term) m → RoleOk g' j s s.role)
    (commit : 0 < s.commit → Settled g (w.server j).term s.commit s.log)
    (machine : AppliedOk s)
    (keeps : (T i : ℕ) → Tied g w.server T i j → Holds g (w.server j) T i → Pre (suc i) s.log (g.log T)) where
  abbrev pub T₅ : ℕ
  T₅ = (w.server j).term

  abbrev pub m₅ : ℕ
  m₅ = max (g.ack j T₅) m

  abbrev pub h₅ : Hist
  h₅ = record { leads = g.leads; log = g.log; voted = g.voted; stood = g.stood; ack = put2 g.ack j T₅ m₅ }

  p₅ : Pre m₅ s.log (g.log T₅)
  p₅ = pre_max (g.ack j T₅) m pa pm

  pub ack_grown : Grown g h₅
  ack_grown = record {
    leads = λ U c z. z;
    log = (grown_refl g).log;
    voted = λ v T c z. z;
    stood = λ c T z. refl;
    ack = put2_all g.ack j T₅ m₅ (λ q U x. g.ack q U ≤ x) (omega arith) (λ q U off. omega arith);
  }

  pub ack_here : h₅.ack j T₅ ≡ m₅
  ack_here = put2_here g.ack j T₅ m₅

  ack_hist_ok : HistOk h₅
  ack_hist_ok = record {
    logs = λ T. sound_grown ack_grown (suc T) (g.log T) (inv.hist.logs T);
    stoods = λ d T. sound_grown ack_grown T (g.stood d T) (inv.hist.stoods d T);
    grew = inv.hist.grew;
    led = inv.hist.led;
    elected = inv.hist.elected;
    self = inv.hist.self;
    acks = put2_all g.ack j T₅ m₅ (λ q U x. x ≤ length (g.log U)) p₅.right (λ q U off. inv.hist.acks q U);
  }

  ack_ok : Ok h₅ j s
  ack_ok =
      let o = inv.each j in
      record {
        log = rw st (sound_grown ack_grown (suc T₅) s.log sound);
        durable = omega arith;
        vote = rw (st, sv) o.vote;
        unvoted = λ V l. o.unvoted V (omega arith);
        backed = λ v V e. omega (arith, o.backed v V e);
        unacked = λ V l. put2_there g.ack j T₅ m₅ j V (λ h. omega (arith, h.1)) ∙ o.unacked V (omega arith);
        ack_durable = rw (st, ack_here) (omega (arith, p₅.left));
        ack_pre = rw (st, ack_here) p₅;
        role = role h₅ ack_grown refl refl ack_here;
        commit = λ z. rw st (settled_grown inv.hist ack_grown (commit z));
        machine = machine;
      }

  ack_other : (k : ServerId) → (k ≡ j → ⊥) → Apart g h₅ k
  ack_other k n = record {
    voted = λ V. refl;
    ack = λ V. put2_there g.ack j T₅ m₅ k V (λ h. n h.0);
    backed = λ v V z. (v, z);
    leads = λ V z. z;
    log = λ V z. refl;
  }

  ack_fresh : (U i : ℕ) → i < h₅.ack j U → (i < g.ack j U) ⊎ ((s.term ≤ U) × Holds h₅ s U i)
  ack_fresh U i l = elim (cases_eq U T₅) [
    | inl z ↦ let f : i < m₅ = rw (z, ack_here) at l in
        inr (omega arith, rw z (record { durable = omega (arith, p₅.left); pre = pre_less f p₅ }))
    | inr n ↦ inl (rw (put2_there g.ack j T₅ m₅ j U (λ h. n h.1)) at l)
  ]

  pub ack_inv : Inv h₅ (change w j s)
  ack_inv = change_inv inv (record {
    grown = ack_grown;
    hist = ack_hist_ok;
    mine = ack_ok;
    others = ack_other;
    term = omega arith;
    keeps = λ T i t h. let p = keeps T i t h in record { durable = omega (arith, p.left); pre = p };
    fresh = ack_fresh;
    votes = λ U c z. inl z;
  })

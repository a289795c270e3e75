-- A campaign keeps the invariant.
use Rattle.std.proofs.Common.{◌≡◌, ℕ, suc, ◌<◌, ◌≤◌, ◌⊎◌, [], ◌∷◌, length, Some, None, Option, sym, refl, ap, ◌∙◌, inl, inr, arith}
use Rattle.std.proofs.lemmas.Bool.{cases_eq}
use Rattle.protocol.specs.ServerIds.{ServerId}
use Rattle.protocol.specs.State.{Log, term_at, last_term, Core, change}
use Rattle.protocol.specs.Elections.{stands}
use Rattle.protocol.proofs.History.{put2, Pre, Hist, Grown, Sound, HistOk, Ok, Tied, Inv, vote_of}
use Rattle.protocol.proofs.Shelf.{pre_refl, pre_none, Off, put2_here, put2_there, put2_all, same_from_bool}
use Rattle.protocol.proofs.Frame.{grown_refl, sound_grown, sound_less, settled_grown, settled_pre, Apart, change_inv}
use Rattle.protocol.proofs.Applied.{applied_low}
use Rattle.protocol.proofs.Votes.{none_some, some_same}

-- a vote where there was none, or the same one, takes none away
pub vote_grows : (f : ServerId → ℕ → Option ServerId) (j : ServerId) (T : ℕ) (c : ServerId) → (f j T ≡ None) ⊎ (f j T ≡ Some c)
    → (v : ServerId) (U : ℕ) (d : ServerId) → f v U ≡ Some d → put2 f j T (Some c) v U ≡ Some d
vote_grows f j T c old v U d = put2_all f j T (Some c) (λ v U x. f v U ≡ Some d → x ≡ Some d)
    (λ e. elim old [ inl n ↦ absurd (none_some n e) | inr o ↦ cc ])
    (λ v U off e. e) v U

pub last_index : (l : Log) → 0 < length l → (k : ℕ) × (length l ≡ suc k) × (last_term l ≡ term_at l k)
last_index [] h = absurd (omega arith)
last_index (x ∷ xs) h = (length xs, refl, refl)

pub last_empty : (l : Log) → length l ≡ 0 → last_term l ≡ 0
last_empty l e = rw e refl

-- where g has no vote it has none for anyone
off_voted : (f : ServerId → ℕ → Option ServerId) (j : ServerId) (T : ℕ) → f j T ≡ None → (v : ServerId) (U : ℕ) (c : ServerId) → f v U ≡ Some c → Off j T v U
off_voted f j T n v U c e h = let z : ◌≡◌ {A = ℕ} 0 1 = cc in omega arith

module _ {g : Hist} {w : Core} (inv : Inv g w) (j : ServerId) where
  abbrev pub U₀ : ℕ
  U₀ = suc (w.server j).term

  abbrev pub stood_hist : Hist
  stood_hist = record {
    leads = g.leads;
    log = g.log;
    voted = put2 g.voted j U₀ (Some j);
    stood = put2 g.stood j U₀ (w.server j).log;
    ack = g.ack;
  }

  unvoted₀ : g.voted j U₀ ≡ None
  unvoted₀ = (inv.each j).unvoted U₀ (omega arith)

  pub stood_grown : Grown g stood_hist
  stood_grown = record {
    leads = λ T c e. e;
    log = (grown_refl g).log;
    voted = vote_grows g.voted j U₀ j (inl unvoted₀);
    stood = λ c T e. put2_there g.stood j U₀ (w.server j).log c T (off_voted g.voted j U₀ unvoted₀ c T c e);
    ack = λ q T. omega arith;
  }

  unled₀ : g.leads U₀ ≡ Some j → ⊥
  unled₀ e = let v = inv.hist.elected U₀ j e in none_some unvoted₀ (inv.hist.self v.0 U₀ j v.2)

  stood_hist_ok : HistOk stood_hist
  stood_hist_ok = record {
    logs = λ T. sound_grown stood_grown (suc T) (g.log T) (inv.hist.logs T);
    stoods = put2_all g.stood j U₀ (w.server j).log (λ c T l. Sound stood_hist T l)
        (sound_grown stood_grown U₀ (w.server j).log (inv.each j).log)
        (λ c T off. sound_grown stood_grown T (g.stood c T) (inv.hist.stoods c T));
    grew = λ T c. put2_all g.stood j U₀ (w.server j).log (λ c T l. g.leads T ≡ Some c → Pre (length l) l (g.log T))
        (λ e. absurd (unled₀ e))
        (λ c T off e. inv.hist.grew T c e) c T;
    led = inv.hist.led;
    elected = λ T c e. let v = inv.hist.elected T c e in (v.0, v.1, stood_grown.voted v.0 T c v.2);
    self = put2_all g.voted j U₀ (Some j) (λ v T x. (c : ServerId) → x ≡ Some c → stood_hist.voted c T ≡ Some c)
        (λ c e. let z : c ≡ j = cc in rw z (put2_here g.voted j U₀ (Some j)))
        (λ v T off c e. stood_grown.voted c T c (inv.hist.self v T c e));
    acks = inv.hist.acks;
  }

  stood_ok : Ok stood_hist j (stands j (w.server j))
  stood_ok =
      let o = inv.each j in
      let none : g.ack j U₀ ≡ 0 = o.unacked U₀ (omega arith) in
      record {
        log = sound_less stood_hist U₀ (suc U₀) (w.server j).log (omega arith) (sound_grown stood_grown U₀ (w.server j).log o.log);
        durable = o.durable;
        vote = ap vote_of (put2_here g.voted j U₀ (Some j));
        unvoted = λ V l. put2_there g.voted j U₀ (Some j) j V (λ h. omega (arith, h.1)) ∙ o.unvoted V (omega arith);
        backed = put2_all g.voted j U₀ (Some j) (λ v V x. x ≡ Some j → V ≤ U₀)
            (λ e. omega arith) (λ v V off e. omega (arith, o.backed v V e));
        unacked = λ V l. o.unacked V (omega arith);
        ack_durable = omega arith;
        ack_pre = rw none (pre_none _ _);
        role = record {
          unled = unled₀;
          own = put2_here g.voted j U₀ (Some j);
          log = sym (put2_here g.stood j U₀ (w.server j).log);
          voters = λ k e. let z : k ≡ j = same_from_bool k j e in rw z (put2_here g.voted j U₀ (Some j));
        };
        commit = λ z. let s = settled_grown inv.hist stood_grown (o.commit z) in
            settled_pre (omega arith) (pre_refl (w.server j).log (w.server j).commit s.pre.left) s;
        machine = applied_low (omega (arith, o.machine.within)) (omega arith);
      }

  stood_other : (k : ServerId) → (k ≡ j → ⊥) → Apart g stood_hist k
  stood_other k n = record {
    voted = λ V. put2_there g.voted j U₀ (Some j) k V (λ h. n h.0);
    ack = λ V. refl;
    backed = put2_all g.voted j U₀ (Some j) (λ v V x. x ≡ Some k → (y : ServerId) × (g.voted y V ≡ Some k))
        (λ e. absurd (n (cc))) (λ v V off e. (v, e));
    leads = λ V e. e;
    log = λ V e. refl;
  }

  pub stood_inv : Inv stood_hist (change w j (stands j (w.server j)))
  stood_inv = change_inv inv (record {
    grown = stood_grown;
    hist = stood_hist_ok;
    mine = stood_ok;
    others = stood_other;
    term = omega arith;
    keeps = λ T i t h. record { durable = h.durable; pre = h.pre };
    fresh = λ T i h. inl h;
    votes = λ V. put_t_votes V;
  })
    where
      put_t_votes : (V : ℕ) (c : ServerId) → stood_hist.voted j V ≡ Some c
          → (g.voted j V ≡ Some c) ⊎ ((T i : ℕ) → Tied g w.server T i j → T < V → Pre (suc i) (stood_hist.stood c V) (g.log T))
      put_t_votes V c e = elim (cases_eq V U₀) [
        | inl z ↦ inr (λ T i t l.
            let y : c ≡ j = some_same e (rw z (put2_here g.voted j U₀ (Some j))) in
            rw y (rw z (rw (put2_here g.stood j U₀ (w.server j).log) (inv.held T i j t).pre)))
        | inr n ↦ inl (sym (put2_there g.voted j U₀ (Some j) j V (λ h. n h.1)) ∙ e)
      ]

-- A yes to a vote request keeps the invariant.
use Rattle.std.proofs.Common.{◌≡◌, ℕ, suc, ◌<◌, ◌≤◌, ◌⊎◌, length, Some, None, sym, refl, ap, ◌∙◌, inl, inr, arith}
use Rattle.std.proofs.lemmas.Bool.{cases_lt, cases_eq}
use Rattle.protocol.specs.ServerIds.{ServerId}
use Rattle.protocol.specs.State.{Log, term_at, last_term, Core, change}
use Rattle.protocol.specs.Elections.{votes_for}
use Rattle.protocol.proofs.History.{put2, Pre, Hist, Grown, HistOk, Ok, Tied, Inv, vote_of}
use Rattle.protocol.proofs.Shelf.{put2_here, put2_there, put2_all}
use Rattle.protocol.proofs.Frame.{grown_refl, sound_grown, settled_grown, Apart, role_grown, role_alike, change_inv}
use Rattle.protocol.proofs.Votes.{some_same, fresh_log}
use Rattle.protocol.proofs.Campaign.{vote_grows, last_index, last_empty}

-- the pair (last term, length) of a is not above (t, n)
abbrev pub NotAbove : Log → ℕ → ℕ → Type 0
NotAbove a t n = (last_term a < t) ⊎ ((last_term a ≡ t) × (length a ≤ n))

module _ {g : Hist} {w : Core} (inv : Inv g w) (j c : ServerId) (n : c ≡ j → ⊥) (own : g.voted c (w.server j).term ≡ Some c)
    (free : (g.voted j (w.server j).term ≡ None) ⊎ (g.voted j (w.server j).term ≡ Some c))
    (above : NotAbove (w.server j).log (last_term (g.stood c (w.server j).term)) (length (g.stood c (w.server j).term))) where
  abbrev pub T₁ : ℕ
  T₁ = (w.server j).term

  abbrev pub vote_hist : Hist
  vote_hist = record { leads = g.leads; log = g.log; voted = put2 g.voted j T₁ (Some c); stood = g.stood; ack = g.ack }

  pub vote_grown : Grown g vote_hist
  vote_grown = record {
    leads = λ T d e. e;
    log = (grown_refl g).log;
    voted = vote_grows g.voted j T₁ c free;
    stood = λ d T e. refl;
    ack = λ q T. omega arith;
  }

  vote_hist_ok : HistOk vote_hist
  vote_hist_ok = record {
    logs = λ T. sound_grown vote_grown (suc T) (g.log T) (inv.hist.logs T);
    stoods = λ d T. sound_grown vote_grown T (g.stood d T) (inv.hist.stoods d T);
    grew = inv.hist.grew;
    led = inv.hist.led;
    elected = λ T d e. let v = inv.hist.elected T d e in (v.0, v.1, vote_grown.voted v.0 T d v.2);
    self = put2_all g.voted j T₁ (Some c) (λ v T x. (d : ServerId) → x ≡ Some d → vote_hist.voted d T ≡ Some d)
        (λ d e. let z : d ≡ c = cc in rw z (vote_grown.voted c T₁ c own))
        (λ v T off d e. vote_grown.voted d T d (inv.hist.self v T d e));
    acks = inv.hist.acks;
  }

  vote_ok : Ok vote_hist j (votes_for c (w.server j))
  vote_ok =
      let o = inv.each j in
      record {
        log = sound_grown vote_grown (suc T₁) (w.server j).log o.log;
        durable = o.durable;
        vote = ap vote_of (put2_here g.voted j T₁ (Some c));
        unvoted = λ V l. put2_there g.voted j T₁ (Some c) j V (λ h. omega (arith, h.1)) ∙ o.unvoted V l;
        backed = put2_all g.voted j T₁ (Some c) (λ v V x. x ≡ Some j → V ≤ T₁)
            (λ e. omega arith) (λ v V off e. o.backed v V e);
        unacked = o.unacked;
        ack_durable = o.ack_durable;
        ack_pre = o.ack_pre;
        role = role_alike vote_hist j (record { term = refl; log = refl; durable = refl; next = refl; match = refl; voters = refl }) (w.server j).role
            (role_grown vote_grown j (w.server j) (λ U e. e) (λ U e. refl) (λ U. refl) (w.server j).role o.role);
        commit = λ z. settled_grown inv.hist vote_grown (o.commit z);
        machine = record { within = o.machine.within; ahead = o.machine.ahead };
      }

  vote_other : (k : ServerId) → (k ≡ j → ⊥) → Apart g vote_hist k
  vote_other k m = record {
    voted = λ V. put2_there g.voted j T₁ (Some c) k V (λ h. m h.0);
    ack = λ V. refl;
    backed = put2_all g.voted j T₁ (Some c) (λ v V x. x ≡ Some k → (y : ServerId) × (g.voted y V ≡ Some k))
        (λ e. let z : k ≡ c = cc in (c, rw z own)) (λ v V off e. (v, e));
    leads = λ V e. e;
    log = λ V e. refl;
  }

  backs_up : (T i : ℕ) → Tied g w.server T i j → T < T₁ → Pre (suc i) (g.stood c T₁) (g.log T)
  backs_up T i t l =
      let a = (w.server j).log in
      let b = g.stood c T₁ in
      let x = last_index a (omega (arith, (inv.held T i j t).pre.left)) in
      let full : 0 < length b = elim (cases_lt 0 (length b)) [
        | inl z ↦ z
        | inr z ↦ let e = last_empty b (omega arith) in elim above [ inl y ↦ absurd (omega arith) | inr y ↦ absurd (omega arith) ]
      ] in
      let y = last_index b full in
      let p : (term_at a x.0 < term_at b y.0) ⊎ ((term_at a x.0 ≡ term_at b y.0) × (x.0 ≤ y.0)) =
      elim above [ inl z ↦ inl (omega arith) | inr z ↦ inr (omega arith, omega arith) ] in
      fresh_log inv T i j t T₁ b (inv.hist.stoods c T₁) y.0 y.1 x.0 x.1 p

  votes₁ : (V : ℕ) (d : ServerId) → vote_hist.voted j V ≡ Some d
      → (g.voted j V ≡ Some d) ⊎ ((T i : ℕ) → Tied g w.server T i j → T < V → Pre (suc i) (g.stood d V) (g.log T))
  votes₁ V d e = elim (cases_eq V T₁) [
    | inl z ↦ inr (λ T i t l.
        let y : d ≡ c = some_same e (rw z (put2_here g.voted j T₁ (Some c))) in
        rw y (rw z (backs_up T i t (omega arith))))
    | inr m ↦ inl (sym (put2_there g.voted j T₁ (Some c) j V (λ h. m h.1)) ∙ e)
  ]

  pub vote_inv : Inv vote_hist (change w j (votes_for c (w.server j)))
  vote_inv = change_inv inv (record {
    grown = vote_grown;
    hist = vote_hist_ok;
    mine = vote_ok;
    others = vote_other;
    term = omega arith;
    keeps = λ T i t h. record { durable = h.durable; pre = h.pre };
    fresh = λ T i h. inl h;
    votes = votes₁;
  })

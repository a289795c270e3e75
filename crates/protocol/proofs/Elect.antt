-- An election keeps the invariant.
use Rattle.std.proofs.Common.{◌≡◌, ℕ, suc, ◌<◌, ◌≤◌, ◌⊎◌, length, Some, None, Option, sym, refl, ◌∙◌, inl, inr, arith}
use Rattle.std.proofs.lemmas.Bool.{cases_lt, cases_eq}
use Rattle.protocol.specs.ServerIds.{ServerId}
use Rattle.protocol.specs.State.{Log, Core, change}
use Rattle.protocol.specs.Elections.{wins}
use Rattle.protocol.proofs.History.{put_t, put2, Pre, Hist, Grown, Sound, HistOk, CandidateOk, Ok, Holds, Inv}
use Rattle.protocol.proofs.Shelf.{pre_refl, pre_none, ac, ad, bc, bd, meet, put_t_here, put_t_there, put_t_all, put2_here, put2_there, put2_all}
use Rattle.protocol.proofs.Frame.{grown_refl, sound_grown, settled_grown, Apart, change_inv}
use Rattle.protocol.proofs.Votes.{some_same}

module _ {g : Hist} {w : Core} (inv : Inv g w) (j v : ServerId) (n : v ≡ j → ⊥) (cand : CandidateOk g j (w.server j))
    (yes : g.voted v (w.server j).term ≡ Some j) where
  abbrev pub T₂ : ℕ
  T₂ = (w.server j).term

  abbrev pub L₂ : Log
  L₂ = (w.server j).log

  only : (d : ServerId) → g.leads T₂ ≡ Some d → ⊥
  only d e =
      let x = inv.hist.elected T₂ d e in
      let own : g.voted d T₂ ≡ Some d = inv.hist.self x.0 T₂ d x.2 in
      let z : d ≡ j = elim (meet x.0 d v j x.1 n) [
        | ac y ↦ some_same (rw (← y) x.2) yes
        | ad y ↦ some_same (rw y at x.2) cand.own
        | bc y ↦ some_same (rw (← y) own) yes
        | bd y ↦ y
      ] in
      cand.unled (rw z at e)

  unled : g.leads T₂ ≡ None
  unled = go (g.leads T₂) refl
    where
      go : (o : Option ServerId) → g.leads T₂ ≡ o → g.leads T₂ ≡ None
      go None e = e
      go (Some d) e = absurd (only d e)

  bare : length (g.log T₂) ≡ 0
  bare = elim (cases_lt 0 (length (g.log T₂)))
      [ inl l ↦ let d = inv.hist.led T₂ l in absurd (only d.0 d.1) | inr l ↦ omega arith ]

  abbrev pub won_hist : Hist
  won_hist = record {
    leads = put_t g.leads T₂ (Some j);
    log = put_t g.log T₂ L₂;
    voted = g.voted;
    stood = g.stood;
    ack = put2 g.ack j T₂ (w.server j).durable;
  }

  pub won_grown : Grown g won_hist
  won_grown = record {
    leads = λ U c. put_t_all g.leads T₂ (Some j) (λ U x. g.leads U ≡ Some c → x ≡ Some c)
        (λ e. absurd (only c e)) (λ U m e. e) U;
    log = put_t_all g.log T₂ L₂ (λ U l. Pre (length (g.log U)) (g.log U) l)
        (rw bare (pre_none (g.log T₂) L₂)) (λ U m. (grown_refl g).log U);
    voted = λ v T c e. e;
    stood = λ c T e. refl;
    ack = put2_all g.ack j T₂ (w.server j).durable (λ q U x. g.ack q U ≤ x)
        (omega (arith, inv.hist.acks j T₂, bare)) (λ q U off. omega arith);
  }

  log_here : won_hist.log T₂ ≡ L₂
  log_here = put_t_here g.log T₂ L₂

  log_there : (U : ℕ) → (U ≡ T₂ → ⊥) → won_hist.log U ≡ g.log U
  log_there U m = put_t_there g.log T₂ L₂ U m

  leads_here : won_hist.leads T₂ ≡ Some j
  leads_here = put_t_here g.leads T₂ (Some j)

  leads_there : (U : ℕ) → (U ≡ T₂ → ⊥) → won_hist.leads U ≡ g.leads U
  leads_there U m = put_t_there g.leads T₂ (Some j) U m

  won_grew : (U : ℕ) (d : ServerId) → won_hist.leads U ≡ Some d → Pre (length (g.stood d U)) (g.stood d U) (won_hist.log U)
  won_grew U d e = elim (cases_eq U T₂) [
    | inl z ↦ rw z (let y : d ≡ j = some_same e (rw z leads_here) in
        rw (y, log_here, cand.log) (pre_refl (g.stood j T₂) (length (g.stood j T₂)) (omega arith)))
    | inr m ↦ rw (log_there U m) (inv.hist.grew U d (sym (leads_there U m) ∙ e))
  ]

  won_led : (U : ℕ) → 0 < length (won_hist.log U) → (d : ServerId) × (won_hist.leads U ≡ Some d)
  won_led U l = elim (cases_eq U T₂) [
    | inl z ↦ (j, rw z leads_here)
    | inr m ↦ let d = inv.hist.led U (rw (log_there U m) at l) in (d.0, leads_there U m ∙ d.1)
  ]

  won_elected : (U : ℕ) (d : ServerId) → won_hist.leads U ≡ Some d → (x : ServerId) × (x ≡ d → ⊥) × (g.voted x U ≡ Some d)
  won_elected U d e = elim (cases_eq U T₂) [
    | inl z ↦ let y : d ≡ j = some_same e (rw z leads_here) in (v, rw y n, rw (z, y) yes)
    | inr m ↦ inv.hist.elected U d (sym (leads_there U m) ∙ e)
  ]

  won_acks : (q : ServerId) (U : ℕ) → won_hist.ack q U ≤ length (won_hist.log U)
  won_acks = put2_all g.ack j T₂ (w.server j).durable (λ q U x. x ≤ length (won_hist.log U))
      (rw log_here (inv.each j).durable)
      (λ q U off. omega (arith, inv.hist.acks q U, (won_grown.log U).right))

  won_hist_ok : HistOk won_hist
  won_hist_ok = record {
    logs = put_t_all g.log T₂ L₂ (λ U l. Sound won_hist (suc U) l)
        (sound_grown won_grown (suc T₂) L₂ (inv.each j).log)
        (λ U m. sound_grown won_grown (suc U) (g.log U) (inv.hist.logs U));
    stoods = λ d T. sound_grown won_grown T (g.stood d T) (inv.hist.stoods d T);
    grew = won_grew;
    led = won_led;
    elected = won_elected;
    self = inv.hist.self;
    acks = won_acks;
  }

  ack_here : won_hist.ack j T₂ ≡ (w.server j).durable
  ack_here = put2_here g.ack j T₂ (w.server j).durable

  won_ok : Ok won_hist j (wins (w.server j))
  won_ok =
      let o = inv.each j in
      record {
        log = sound_grown won_grown (suc T₂) L₂ o.log;
        durable = o.durable;
        vote = o.vote;
        unvoted = o.unvoted;
        backed = o.backed;
        unacked = λ V l. put2_there g.ack j T₂ (w.server j).durable j V (λ h. omega (arith, h.1)) ∙ o.unacked V l;
        ack_durable = omega (arith, ack_here);
        ack_pre = rw (ack_here, log_here) (pre_refl L₂ (w.server j).durable o.durable);
        role = record {
          leads = leads_here;
          log = sym log_here;
          ack = ack_here;
          match = λ k m. omega arith;
          next = λ k. (omega arith, omega arith);
        };
        commit = λ z. settled_grown inv.hist won_grown (o.commit z);
        machine = record { within = o.machine.within; ahead = o.machine.ahead };
      }

  won_other : (k : ServerId) → (k ≡ j → ⊥) → Apart g won_hist k
  won_other k m = record {
    voted = λ V. refl;
    ack = λ V. put2_there g.ack j T₂ (w.server j).durable k V (λ h. m h.0);
    backed = λ v V e. (v, e);
    leads = put_t_all g.leads T₂ (Some j) (λ U x. x ≡ Some k → g.leads U ≡ Some k)
        (λ e. absurd (m (cc))) (λ U m e. e);
    log = put_t_all g.log T₂ L₂ (λ U l. g.leads U ≡ Some k → l ≡ g.log U)
        (λ e. absurd (only k e)) (λ U m e. refl);
  }

  won_fresh : (U i : ℕ) → i < won_hist.ack j U → (i < g.ack j U) ⊎ ((T₂ ≤ U) × Holds won_hist (wins (w.server j)) U i)
  won_fresh U i l = elim (cases_eq U T₂) [
    | inl z ↦ let f : i < (w.server j).durable = rw (z, ack_here) at l in
        inr (omega arith, rw z (record { durable = f; pre = rw log_here (pre_refl L₂ (suc i) (omega (arith, (inv.each j).durable))) }))
    | inr m ↦ inl (rw (put2_there g.ack j T₂ (w.server j).durable j U (λ h. m h.1)) at l)
  ]

  pub won_inv : Inv won_hist (change w j (wins (w.server j)))
  won_inv = change_inv inv (record {
    grown = won_grown;
    hist = won_hist_ok;
    mine = won_ok;
    others = won_other;
    term = omega arith;
    keeps = λ T i t h. record { durable = h.durable; pre = h.pre };
    fresh = won_fresh;
    votes = λ U c e. inl e;
  })

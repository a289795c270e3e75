-- A propose keeps the invariant.
use Rattle.std.proofs.Common.{◌≡◌, ℕ, suc, ◌<◌, [], ◌∷◌, ◌++◌, length, Some, sym, refl, ap, subst, inl, inr, arith}
use Rattle.std.proofs.lemmas.Bool.{cases_lt}
use Rattle.std.proofs.lemmas.List.{length_push, get_or_push}
use Rattle.record.specs.declared.entry.Entry.{Entry}
use Rattle.protocol.specs.ServerIds.{ServerId}
use Rattle.protocol.specs.State.{Log, term_at, leader, Core, blank, change}
use Rattle.protocol.specs.Rules.{gains}
use Rattle.protocol.proofs.History.{put_t, Pre, Hist, Grown, Sound, HistOk, LeaderOk, Ok, Inv}
use Rattle.protocol.proofs.Shelf.{pre_refl, pre_sym, pre_trans, pre_less, pre_push, pre_term, put_t_here, put_t_all}
use Rattle.protocol.proofs.Frame.{grown_refl, pre_grown, sound_grown, settled_grown, settled_pre, Apart, change_inv}
use Rattle.protocol.proofs.Applied.{commit_le, applied_keeps}
use Rattle.protocol.proofs.Votes.{some_same}

-- a sound log with one more entry
pub sound_push : (g : Hist) (B : ℕ) (l : Log) (e : Entry) → Sound g B l → e.term < B
    → Pre (suc (length l)) (l ++ e ∷ []) (g.log e.term) → Sound g B (l ++ e ∷ [])
sound_push g B l e s b p i k = elim (cases_lt i (length l)) [
  | inl h ↦
      let t = pre_term (pre_push l e) i h in
      let o = s i h in
      record { below = rw (← t) o.below; pre = rw (← t) (pre_trans (pre_sym (pre_less h (pre_push l e))) o.pre) }
  | inr h ↦
      let z : i ≡ length l = omega (arith, length_push l e) in
      let t : term_at (l ++ e ∷ []) (length l) ≡ e.term = ap (λ (x : Entry). x.term) (get_or_push l e blank (length l) refl) in
      rw z (record { below = rw t b; pre = rw t p })
]

module _ {g : Hist} {w : Core} (inv : Inv g w) (j : ServerId) (role : (w.server j).role ≡ leader) (lead : LeaderOk g j (w.server j))
    (e : Entry) (own : e.term ≡ (w.server j).term) where
  abbrev pub T₃ : ℕ
  T₃ = (w.server j).term

  abbrev pub L₃ : Log
  L₃ = (w.server j).log

  abbrev pub L₄ : Log
  L₄ = L₃ ++ e ∷ []

  abbrev pub more_hist : Hist
  more_hist = record { leads = g.leads; log = put_t g.log T₃ L₄; voted = g.voted; stood = g.stood; ack = g.ack }

  pub more_grown : Grown g more_hist
  more_grown = record {
    leads = λ U c z. z;
    log = put_t_all g.log T₃ L₄ (λ U l. Pre (length (g.log U)) (g.log U) l)
        (rw (← lead.log) (pre_push L₃ e)) (λ U m. (grown_refl g).log U);
    voted = λ v T c z. z;
    stood = λ c T z. refl;
    ack = λ q U. omega arith;
  }

  more_here : more_hist.log T₃ ≡ L₄
  more_here = put_t_here g.log T₃ L₄

  more_sound : Sound more_hist (suc T₃) L₄
  more_sound = sound_push more_hist (suc T₃) L₃ e (sound_grown more_grown (suc T₃) L₃ (inv.each j).log) (omega arith)
      (let z : more_hist.log e.term ≡ L₄ = subst (λ U. more_hist.log U ≡ L₄) (sym own) more_here in
      rw z (pre_refl L₄ (suc (length L₃)) (omega (arith, length_push L₃ e))))

  more_hist_ok : HistOk more_hist
  more_hist_ok = record {
    logs = put_t_all g.log T₃ L₄ (λ U l. Sound more_hist (suc U) l) more_sound
        (λ U m. sound_grown more_grown (suc U) (g.log U) (inv.hist.logs U));
    stoods = λ d T. sound_grown more_grown T (g.stood d T) (inv.hist.stoods d T);
    grew = λ U c z. pre_grown more_grown U (inv.hist.grew U c z);
    led = put_t_all g.log T₃ L₄ (λ U l. 0 < length l → (c : ServerId) × (g.leads U ≡ Some c))
        (λ z. (j, lead.leads)) (λ U m. inv.hist.led U);
    elected = inv.hist.elected;
    self = inv.hist.self;
    acks = λ q U. omega (arith, inv.hist.acks q U, (more_grown.log U).right);
  }

  more_ok : Ok more_hist j (gains e (w.server j))
  more_ok =
      let o = inv.each j in
      let len = length_push L₃ e in
      record {
        log = more_sound;
        durable = omega (arith, o.durable);
        vote = o.vote;
        unvoted = o.unvoted;
        backed = o.backed;
        unacked = o.unacked;
        ack_durable = o.ack_durable;
        ack_pre = rw more_here (pre_refl L₄ (g.ack j T₃) (omega (arith, o.ack_durable, o.durable)));
        role = rw role (record {
          leads = lead.leads;
          log = sym more_here;
          ack = lead.ack;
          match = lead.match;
          next = λ k. ((lead.next k).0, omega (arith, (lead.next k).1));
        });
        commit = λ z. let s = settled_grown inv.hist more_grown (o.commit z) in
            settled_pre (omega arith) (pre_sym (pre_less s.pre.left (pre_push L₃ e))) s;
        machine = applied_keeps (length L₃) (pre_push L₃ e) o.machine (omega (arith, o.machine.within)) (commit_le o) refl refl;
      }

  more_other : (k : ServerId) → (k ≡ j → ⊥) → Apart g more_hist k
  more_other k m = record {
    voted = λ V. refl;
    ack = λ V. refl;
    backed = λ v V z. (v, z);
    leads = λ V z. z;
    log = put_t_all g.log T₃ L₄ (λ U l. g.leads U ≡ Some k → l ≡ g.log U)
        (λ z. absurd (m (some_same z lead.leads))) (λ U n z. refl);
  }

  pub more_inv : Inv more_hist (change w j (gains e (w.server j)))
  more_inv = change_inv inv (record {
    grown = more_grown;
    hist = more_hist_ok;
    mine = more_ok;
    others = more_other;
    term = omega arith;
    keeps = λ T i t h. record { durable = h.durable; pre = pre_trans (pre_sym (pre_less h.pre.left (pre_push L₃ e))) h.pre };
    fresh = λ T i h. inl h;
    votes = λ U c z. inl z;
  })

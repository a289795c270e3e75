-- What is handed on from term to term: later leaders and candidates have what may still be chosen.
use Rattle.std.proofs.Common.{◌≡◌, ℕ, suc, ◌<◌, ◌≤◌, ◌⊎◌, length, Some, None, Option, sym, ◌∙◌, inl, inr, arith}
use Rattle.std.proofs.lemmas.Bool.{cases_lt, cases_eq}
use Rattle.protocol.specs.ServerIds.{ServerId}
use Rattle.protocol.specs.State.{Log, term_at, Server, Core}
use Rattle.protocol.proofs.History.{Pre, Hist, Sound, HistOk, Ok, Open, Tied, Inv}
use Rattle.protocol.proofs.Shelf.{pre_sym, pre_trans, pre_less, pre_term, ac, ad, bc, bd, meet}

-- nothing is both None and Some
pub none_some : {A : Type 0} {o : Option A} {a : A} → o ≡ None → o ≡ Some a → ⊥
none_some p q = let z : ◌≡◌ {A = ℕ} 0 1 = cc in omega arith

pub some_same : {A : Type 0} {o : Option A} {a b : A} → o ≡ Some a → o ≡ Some b → a ≡ b
some_same p q = cc

-- who has voted in U has a term of at least U
pub voted_low : {g : Hist} {j c : ServerId} {s : Server} → Ok g j s → (U : ℕ) → g.voted j U ≡ Some c → U ≤ s.term
voted_low {s = s} o U e = elim (cases_lt s.term U) [ inl l ↦ absurd (none_some (o.unvoted U l) e) | inr l ↦ l ]

-- terms do not fall along a sound log
pub rising : {g : Hist} → HistOk g → (B : ℕ) (l : Log) → Sound g B l → (i k : ℕ) → i ≤ k → k < length l → term_at l i ≤ term_at l k
rising {g} H B l s i k h m =
    let p = (s k m).pre in
    let q = (H.logs (term_at l k) i (omega (arith, p.right))).below in
    omega (arith, q, pre_term p i (omega arith))

module _ {g : Hist} {w : Core} (inv : Inv g w) where
  later_by : (T i : ℕ) (x y : ServerId) → term_at (g.log T) i ≡ T → (x ≡ y → ⊥) → Open g w.server x T i → Open g w.server y T i
      → (U : ℕ) (c : ServerId) → T < U → g.leads U ≡ Some c → g.voted x U ≡ Some c → Pre (suc i) (g.log U) (g.log T)
  later_by T i x y own n (inl l) oy U c h e v = absurd (omega (arith, voted_low (inv.each x) U v))
  later_by T i x y own n (inr a) oy U c h e v =
      let t : Tied g w.server T i x = record { own = own; acked = a; y = y; apart = n; may = oy } in
      let p = inv.passed T i x t U c h v in
      pre_trans (pre_sym (pre_less p.left (inv.hist.grew U c e))) p

  -- every later leader's log has what a server has acknowledged and another may still stand behind
  pub later : (T i : ℕ) (q : ServerId) → Tied g w.server T i q → (U : ℕ) (c : ServerId) → T < U → g.leads U ≡ Some c → Pre (suc i) (g.log U) (g.log T)
  later T i q t U c h e =
      let v = inv.hist.elected U c e in
      let own : g.voted c U ≡ Some c = inv.hist.self v.0 U c v.2 in
      let flip : t.y ≡ q → ⊥ = λ z. t.apart (sym z) in
      elim (meet q t.y v.0 c t.apart v.1) [
        | ac z ↦ later_by T i q t.y t.own t.apart (inr t.acked) t.may U c h e (rw z v.2)
        | ad z ↦ later_by T i q t.y t.own t.apart (inr t.acked) t.may U c h e (rw z own)
        | bc z ↦ later_by T i t.y q t.own flip t.may (inr t.acked) U c h e (rw z v.2)
        | bd z ↦ later_by T i t.y q t.own flip t.may (inr t.acked) U c h e (rw z own)
      ]

  -- so has any log as up to date as that of a server which holds it
  pub fresh_log : (T i : ℕ) (q : ServerId) → Tied g w.server T i q → (B : ℕ) (l : Log) → Sound g B l → (k : ℕ) → length l ≡ suc k
      → (m : ℕ) → length (w.server q).log ≡ suc m
      → (term_at (w.server q).log m < term_at l k) ⊎ ((term_at (w.server q).log m ≡ term_at l k) × (m ≤ k))
      → Pre (suc i) l (g.log T)
  fresh_log T i q t B l s k lk m lm up =
      let a = (w.server q).log in
      let hold = (inv.held T i q t).pre in
      let ti : term_at a i ≡ T = pre_term hold i (omega arith) ∙ t.own in
      let im : i ≤ m = omega (arith, hold.left) in
      let up1 : T ≤ term_at a m = omega (arith, rising inv.hist _ a (inv.each q).log i m im (omega arith)) in
      let at-k = s k (omega arith) in
      let V = term_at l k in
      let up2 : T ≤ V = elim up [ inl z ↦ omega arith | inr z ↦ omega arith ] in
      elim (cases_eq T V) [
        | inl e ↦
            let far : i ≤ k = elim up [ inl z ↦ absurd (omega arith) | inr z ↦ omega arith ] in
            rw e (pre_less (omega arith) at-k.pre)
        | inr n ↦
            let d = inv.hist.led V (omega (arith, at-k.pre.right)) in
            let p = later T i q t V d.0 (omega arith) d.1 in
            let tk : V ≡ term_at (g.log V) k = pre_term at-k.pre k (omega arith) in
            let tv : term_at (g.log V) i ≡ T = pre_term p i (omega arith) ∙ t.own in
            let far : i ≤ k = elim (cases_lt k i) [
              | inl z ↦ absurd (omega (arith, rising inv.hist _ (g.log V) (inv.hist.logs V) k i (omega arith) (omega (arith, p.left))))
              | inr z ↦ z
            ] in
            pre_trans (pre_less (omega arith) at-k.pre) p
      ]

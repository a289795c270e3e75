-- The promises of one moment, from the invariant.
use Rattle.std.proofs.Common.{◌≡◌, ℕ, zero, suc, ◌<◌, ◌≤◌, map, length, take, sym, refl, ap, ◌∙◌, inl, inr, arith, take-take}
use lib.ListN.{length-map}
use Rattle.std.proofs.lemmas.Bool.{cases_lt, cases_order}
use Rattle.std.proofs.lemmas.List.{length-take-le, get_or-take, ext_get_or, take-map}
use Rattle.record.specs.declared.entry.Entry.{Entry}
use Rattle.protocol.specs.ServerIds.{ServerId}
use Rattle.protocol.specs.State.{Log, at, term_at, Server, Core, blank}
use Rattle.protocol.specs.Promises.{LogsAgree, applied_edits, Begins, AppliedAgree, HoldsDurably, TwoHold}
use Rattle.protocol.proofs.History.{Pre, Hist, Chosen, HistOk, Ok, Tied, Inv}
use Rattle.protocol.proofs.Votes.{later}
use Rattle.protocol.proofs.Applied.{tip_rising}
use Rattle.protocol.proofs.Append.{agree}

pub take_same : {n : ℕ} {a b : Log} → Pre n a b → take n a ≡ take n b
take_same {n} {a} {b} p =
    let la = length-take-le n a p.left in
    let lb = length-take-le n b p.right in
    ext_get_or blank (take n a) (take n b) (omega arith)
    (λ i h. get_or-take n a i blank (omega arith) ∙ (p.same i (omega arith) ∙ sym (get_or-take n b i blank (omega arith))))

same_term : (i : ℕ) (a b : Log) → take (suc i) a ≡ take (suc i) b → term_at a i ≡ term_at b i
same_term i a b e = ap (λ (x : Entry). x.term)
    (sym (get_or-take (suc i) a i blank (omega arith)) ∙ (ap (λ (l : Log). at l i) e ∙ get_or-take (suc i) b i blank (omega arith)))

pub logs_agree : {g : Hist} {w : Core} → Inv g w → LogsAgree w
logs_agree inv x y zero l h k = absurd (omega arith)
logs_agree inv x y (suc i) l h k = (
  (λ e. take_same (agree _ _ _ _ (inv.each x).log (inv.each y).log i h k e)),
  same_term i _ _,
)

module _ {g : Hist} {w : Core} (inv : Inv g w) where
  -- what is chosen two hold
  chosen_tied : (T i : ℕ) → (c : Chosen g T i) → Tied g w.server T i c.x
  chosen_tied T i c = record { own = c.own; acked = c.ackx; y = c.y; apart = c.apart; may = inr c.acky }

  holds_at : (T i k : ℕ) (q : ServerId) → Tied g w.server T k q → i ≤ k → HoldsDurably (w.server q) (suc i) (at (g.log T) i)
  holds_at T i k q t h =
      let p = inv.held T k q t in
      record { some = omega arith; held = omega (arith, p.durable); within = (inv.each q).durable; entry = p.pre.same i (omega arith) }

  pub two_hold_by : (T i k : ℕ) → Chosen g T k → i ≤ k → TwoHold w (suc i) (at (g.log T) i)
  two_hold_by T i k c h = record {
    x = c.x;
    y = c.y;
    apart = c.apart;
    byx = holds_at T i k c.x (chosen_tied T k c) h;
    byy = holds_at T i k c.y (record { own = c.own; acked = c.acky; y = c.x; apart = λ e. c.apart (sym e); may = inr c.ackx }) h;
  }

  below_later : (T U i k m : ℕ) → Chosen g T k → Chosen g U m → i ≤ k → T < U → at (g.log U) i ≡ at (g.log T) i
  below_later T U i k m c d h l =
      let e = inv.hist.led U (omega (arith, inv.hist.acks d.x U, d.ackx)) in
      (later inv T k c.x (chosen_tied T k c) U e.0 l e.1).same i (omega arith)

  -- of two chosen, one begins the other
  pub one_list : (T U i k m : ℕ) → Chosen g T k → Chosen g U m → i ≤ k → i ≤ m → at (g.log U) i ≡ at (g.log T) i
  one_list T U i k m c d h j = elim (cases_order T U) [
    | inl e ↦ rw e refl
    | inr o ↦ elim o [ inl l ↦ below_later T U i k m c d h l | inr l ↦ sym (below_later U T i m k d c j l) ]
  ]

-- an applied entry is in the log of its server's term, or chosen below it
data Applied (g : Hist) (T i : ℕ) (e : Entry) : Type 0 where
  own : i < length (g.log T) → e ≡ at (g.log T) i → Applied g T i e
  old : (U k : ℕ) → U ≤ T → i ≤ k → Chosen g U k → e ≡ at (g.log U) i → Applied g T i e

applied_at : {g : Hist} {j : ServerId} {s : Server} → HistOk g → Ok g j s → (i : ℕ) → i < s.applied → Applied g s.term i (at s.log i)
applied_at {g} {j} {s} H o i h = elim (cases_lt i s.commit) [
  | inl l ↦ let a = o.commit (omega arith) in old a.U a.i a.low (omega (arith, a.far)) a.chosen (a.pre.same i l)
  | inr l ↦
      let a = o.machine.ahead (omega arith) in
      let k : i < length s.log = omega (arith, o.machine.within) in
      let d = o.log i k in
      let t : term_at s.log i ≡ s.term = omega (arith, d.below, a.1, tip_rising H _ s.log o.log s.commit (suc i) a.0 (omega arith) k) in
      let p : Pre (suc i) s.log (g.log s.term) = rw t at d.pre in
      own p.right (p.same i (omega arith))
]

module _ {g : Hist} {w : Core} (inv : Inv g w) where
  old_own : (T U i k : ℕ) → U ≤ T → i ≤ k → Chosen g U k → i < length (g.log T) → at (g.log T) i ≡ at (g.log U) i
  old_own T U i k l h c m = elim (cases_lt U T) [
    | inl b ↦
        let e = inv.hist.led T (omega arith) in
        (later inv U k c.x (chosen_tied inv U k c) T e.0 b e.1).same i (omega arith)
    | inr b ↦ let z : U ≡ T = omega arith in rw z refl
  ]

  applied_same : (T i : ℕ) (a b : Entry) → Applied g T i a → Applied g T i b → a ≡ b
  applied_same T i a b (own l e) (own m f) = e ∙ sym f
  applied_same T i a b (own l e) (old U k p q c f) = e ∙ (old_own T U i k p q c l ∙ sym f)
  applied_same T i a b (old U k p q c f) (own l e) = f ∙ (sym (old_own T U i k p q c l) ∙ sym e)
  applied_same T i a b (old U k p q c f) (old V m r s d h) = f ∙ (one_list inv V U i m k d c s q ∙ sym h)

  applied_one : (x y : ServerId) (i : ℕ) → (w.server x).term ≡ (w.server y).term → i < (w.server x).applied → i < (w.server y).applied
      → at (w.server x).log i ≡ at (w.server y).log i
  applied_one x y i e h k =
      let a = applied_at inv.hist (inv.each x) i h in
      let b = applied_at inv.hist (inv.each y) i k in
      applied_same (w.server y).term i _ _ (rw e at a) b

  begins : (x y : ServerId) → (w.server x).term ≡ (w.server y).term → (w.server x).applied ≤ (w.server y).applied
      → Begins (applied_edits (w.server x)) (applied_edits (w.server y))
  begins x y e l =
      let a = (w.server x).applied in
      let b = (w.server y).applied in
      let lx = (w.server x).log in
      let ly = (w.server y).log in
      let f = λ (z : Entry). z.edit in
      let wx = (inv.each x).machine.within in
      let wy = (inv.each y).machine.within in
      let n : length (applied_edits (w.server x)) ≡ a = length-map (take a lx) f ∙ length-take-le a lx wx in
      let p : Pre a ly lx = record { left = omega arith; right = wx; same = λ i h. applied_one y x i (sym e) (omega arith) h } in
      ap (λ k. take k (applied_edits (w.server y))) n
      ∙ (take-map f a (take b ly) ∙ ap (map f) (take-take a b ly l ∙ take_same p))

  pub applied_agree : AppliedAgree w
  applied_agree x y e = elim (cases_lt (w.server x).applied (w.server y).applied) [
    | inl h ↦ inl (begins x y e (omega arith))
    | inr h ↦ inr (begins y x (sym e) h)
  ]

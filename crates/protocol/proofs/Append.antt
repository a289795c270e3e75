-- An append at its receiver keeps the invariant.
use Rattle.std.proofs.Common.{◌≡◌, ℕ, zero, suc, ◌<◌, ◌≤◌, min, max, eqb, leb, ◌⊎◌, [], ◌∷◌, ◌++◌, length, take, Some, None, Option, sym, refl, ap, ◌∙◌, subst, inl, inr, arith, take_all}
use Rattle.std.proofs.lemmas.Bool.{cases_lt, cases_order, and_parts, ltb-true, ltb-false, eqb-true, eqb-false, leb-true}
use Rattle.std.proofs.lemmas.List.{length_push, get_or_push, length-take-le}
use Rattle.record.specs.declared.entry.Entry.{Entry}
use Rattle.protocol.specs.ServerIds.{ServerId}
use Rattle.protocol.specs.State.{Log, at, term_at, tip, Server, AppendEntries, AppendRequest, Core, blank, is_leader}
use Rattle.protocol.specs.AppendEntries.{holds, commits, reaches}
use Rattle.protocol.proofs.History.{Pre, Hist, Sound, Settled, AppliedOk, Tied, Holds, EntryOk, BodyOk, Inv}
use Rattle.protocol.proofs.Parts.{kept_in, took_in, appended_in}
use Rattle.protocol.proofs.Shelf.{pre_refl, pre_sym, pre_trans, pre_less, pre_none, pre_push, pre_take, pre_more, pre_term}
use Rattle.protocol.proofs.Frame.{sound_pre, settled_pre, settled_less}
use Rattle.protocol.proofs.Applied.{commit_le, applied_keeps, applied_raised}
use Rattle.protocol.proofs.Votes.{later}
use Rattle.protocol.proofs.Accept.{ack_inv, ack_grown, ack_here}
use Rattle.protocol.proofs.Still.{follows_inv}
use Rattle.protocol.proofs.Next.{Next, stay, reached, split, posted_inv}

-- two sound logs with one term at k are equal through it
pub agree : {g : Hist} (A B : ℕ) (l m : Log) → Sound g A l → Sound g B m → (k : ℕ) → k < length l → k < length m → term_at l k ≡ term_at m k → Pre (suc k) l m
agree {g} A B l m s t k h i e =
    let q : Pre (suc k) m (g.log (term_at l k)) = rw e (t k i).pre in
    pre_trans (s k h).pre (pre_sym q)

agree_tip : {g : Hist} (A B : ℕ) (l m : Log) → Sound g A l → Sound g B m → (p : ℕ) → p ≤ length l → p ≤ length m → tip l p ≡ tip m p → Pre p l m
agree_tip A B l m s t zero h i e = pre_none l m
agree_tip A B l m s t (suc k) h i e = agree A B l m s t k h i e

-- l cut to p, with one more
module _ (l : Log) (p : ℕ) (x : Entry) (h : p ≤ length l) where
  length_cut : length (take p l ++ x ∷ []) ≡ suc p
  length_cut = omega (arith, length_push (take p l) x, length-take-le p l h)

  pub cut_pre : Pre p l (take p l ++ x ∷ [])
  cut_pre = pre_trans (pre_sym (pre_take l p p (omega arith) h)) (pre_less (omega (arith, length-take-le p l h)) (pre_push (take p l) x))

  cut_at : at (take p l ++ x ∷ []) p ≡ x
  cut_at = get_or_push (take p l) x blank p (length-take-le p l h)

module _ {g : Hist} {w : Core} (inv : Inv g w) (from to : ServerId) (n : from ≡ to → ⊥) (lead : g.leads (w.server to).term ≡ Some from)
    (k : ℕ) (kc : 0 < k → Settled g (w.server to).term k (g.log (w.server to).term)) where
  abbrev s₆ : Server
  s₆ = w.server to

  abbrev T₆ : ℕ
  T₆ = (w.server to).term

  -- its log is to be l, which agrees with the old one through p, where the old one ends or clashes with the leader's
  module _ (l : Log) (m p a : ℕ) (less : a ≤ min s₆.applied p) (same : Pre p s₆.log l) (cp : s₆.commit ≤ p) (sound : Sound g (suc T₆) l) (pm : Pre m l (g.log T₆))
      (far : (length s₆.log ≤ p) ⊎ (term_at s₆.log p ≡ term_at (g.log T₆) p → ⊥)) where
    kept_pre : (U i : ℕ) → Tied g w.server U i to → Holds g s₆ U i → Pre (suc i) l (g.log U)
    kept_pre U i t h = elim (cases_lt i p) [
      | inl b ↦ pre_trans (pre_sym (pre_less b same)) h.pre
      | inr b ↦ elim far [
        | inl c ↦ absurd (omega (arith, h.pre.left))
        | inr c ↦
            let hp = pre_term h.pre p (omega arith) in
            elim (cases_order U T₆) [
              | inl e ↦ absurd (c (rw e at hp))
              | inr d ↦ elim d [
                | inl e ↦ absurd (c (hp ∙ sym (pre_term (later inv U i to t T₆ from e lead) p (omega arith))))
                | inr e ↦ absurd (omega (arith, t.acked, (inv.each to).unacked U e))
              ]
            ]
      ]
    ]

    kept_ack : Pre (g.ack to T₆) l (g.log T₆)
    kept_ack =
        let a = (inv.each to).ack_pre in
        elim (cases_lt p (g.ack to T₆)) [
          | inl b ↦ elim far [
            | inl c ↦ absurd (omega (arith, a.left))
            | inr c ↦ absurd (c (pre_term a p b))
          ]
          | inr b ↦ pre_trans (pre_sym (pre_less b same)) a
        ]

    kept_commit : 0 < max s₆.commit (min k m) → Settled g T₆ (max s₆.commit (min k m)) l
    kept_commit z = elim (cases_lt s₆.commit (min k m)) [
      | inl b ↦
          let e : max s₆.commit (min k m) ≡ min k m = omega arith in
          rw e (settled_pre (omega arith) (pre_less (omega arith) pm) (settled_less (omega arith) (kc (omega arith))))
      | inr b ↦
          let e : max s₆.commit (min k m) ≡ s₆.commit = omega arith in
          rw e (settled_pre (omega arith) (pre_sym (pre_less cp same)) ((inv.each to).commit (omega arith)))
    ]

    kept_machine : AppliedOk (commits (max s₆.commit (min k m)) (holds l a s₆))
    kept_machine = applied_raised inv.hist (holds l a s₆) sound (max s₆.commit (min k m)) (omega arith) (omega (arith, pm.left, same.right))
        (applied_keeps p same (inv.each to).machine less cp refl refl)

    kept_next : Next g (kept_in w from to T₆ l a m k)
    kept_next =
        let s = commits (max s₆.commit (min k m)) (holds l a s₆) in
        reached (ack_grown inv to m s refl refl refl sound pm kept_ack (λ _ _ _ _ _. tt) kept_commit kept_machine kept_pre)
        (posted_inv (ack_inv inv to m s refl refl refl sound pm kept_ack (λ _ _ _ _ _. tt) kept_commit kept_machine kept_pre) _
        (record {
          apart = λ e. n (sym e);
          body = (lead, omega (arith, ack_here inv to m s refl refl refl sound pm kept_ack (λ _ _ _ _ _. tt) kept_commit kept_machine kept_pre));
        }))

  -- the log stays
  stays_next : (m : ℕ) → Pre m s₆.log (g.log T₆) → Next g (kept_in w from to T₆ s₆.log s₆.applied m k)
  stays_next m pm = kept_next s₆.log m (length s₆.log) s₆.applied (omega (arith, (inv.each to).machine.within)) (pre_refl s₆.log (length s₆.log) (omega arith)) (commit_le (inv.each to))
      (inv.each to).log pm (inl (omega arith))

  cut_next : (p : ℕ) (e : Entry) → Pre p s₆.log (g.log T₆) → EntryOk g T₆ p (Some e) → s₆.commit ≤ p
      → (length s₆.log ≤ p) ⊎ (term_at s₆.log p ≡ term_at (g.log T₆) p → ⊥) → (a : ℕ) → a ≤ min s₆.applied p
      → Next g (kept_in w from to T₆ (take p s₆.log ++ e ∷ []) a (suc p) k)
  cut_next p e pp en cp far a less =
      let l = take p s₆.log ++ e ∷ [] in
      let len : length l ≡ suc p = length_cut s₆.log p e pp.left in
      let c = cut_pre s₆.log p e pp.left in
      let pm : Pre (suc p) l (g.log T₆) = pre_more (pre_trans (pre_sym c) pp) (omega arith) en.0 (cut_at s₆.log p e pp.left ∙ en.1) in
      let whole : Pre (length l) l (g.log T₆) = rw len pm in
      kept_next l (suc p) p a less c cp (sound_pre g (suc T₆) l (g.log T₆) whole (inv.hist.logs T₆)) pm far

  -- one not held is appended
  append_next : (p : ℕ) (e : Entry) → Pre p s₆.log (g.log T₆) → EntryOk g T₆ p (Some e) → length s₆.log ≤ p
      → Next g (kept_in w from to T₆ (s₆.log ++ e ∷ []) s₆.applied (suc p) k)
  append_next p e pp en h =
      subst (λ x. Next g (kept_in w from to T₆ (x ++ e ∷ []) s₆.applied (suc p) k)) (take_all p s₆.log h)
      (cut_next p e pp en (omega (arith, commit_le (inv.each to))) (inl h) s₆.applied (omega (arith, (inv.each to).machine.within)))

  took_next : (p : ℕ) (e : Option Entry) → Pre p s₆.log (g.log T₆) → EntryOk g T₆ p e → Next g (took_in w from to T₆ p k e)
  took_next p None pp en = stays_next p pp
  took_next p (Some e) pp en = split _ _ _
      (λ _. stay (follows_inv inv to))
      (λ _. split _ _ _
      (λ a. split _ _ _
      (λ b. stays_next (suc p) (agree (suc T₆) (suc T₆) s₆.log (g.log T₆) (inv.each to).log (inv.hist.logs T₆) p (ltb-true p _ a) en.0
      (eqb-true _ _ b ∙ ap (λ (y : Entry). y.term) en.1)))
      (λ b. split _ _ _
      (λ _. stay (follows_inv inv to))
      (λ c. cut_next p e pp en (ltb-false p _ c) (inr (λ z. eqb-false _ _ b (z ∙ sym (ap (λ (y : Entry). y.term) en.1)))) (min s₆.applied p) (omega arith))))
      (λ a. append_next p e pp en (ltb-false p _ a)))

pub appended_next : {g : Hist} {w : Core} → Inv g w → (from to : ServerId) → (from ≡ to → ⊥) → (T : ℕ) (a : AppendEntries)
    → BodyOk g from to T (AppendRequest a) → Next g (appended_in w from to T a)
appended_next {g} {w} inv from to n T a o =
    split _ _ _
    (λ same.
    let z : T ≡ (w.server to).term = eqb-true T _ same in
    split (is_leader (w.server to).role) _ _
    (λ _. stay inv)
    (λ _. split (reaches (w.server to).log a.previous a.previous_term) _ _
    (λ b.
    let r = and_parts (leb a.previous (length (w.server to).log)) (eqb (tip (w.server to).log a.previous) a.previous_term) b in
    let o' : BodyOk g from to (w.server to).term (AppendRequest a) = subst (λ U. BodyOk g from to U (AppendRequest a)) z o in
    let pp : Pre a.previous (w.server to).log (g.log (w.server to).term) =
    agree_tip _ _ (w.server to).log (g.log (w.server to).term) (inv.each to).log (inv.hist.logs (w.server to).term) a.previous
    (leb-true a.previous _ r.0) o'.1 (eqb-true _ _ r.1 ∙ o'.2) in
    subst (λ U. Next g (took_in w from to U a.previous a.commit a.entry)) (sym z) (took_next inv from to n o'.0 a.commit o'.4 a.previous a.entry pp o'.3))
    (λ _. stay (posted_inv (follows_inv inv to) _ (record { apart = λ y. n (sym y); body = tt })))))
    (λ _. stay (posted_inv inv _ (record { apart = λ y. n (sym y); body = tt })))

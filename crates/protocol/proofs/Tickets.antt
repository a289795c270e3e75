-- The promises about tickets, which speak of two moments of a run, and the theorem.
use Rattle.std.proofs.Common.{◌≡◌, ℕ, zero, suc, ◌+◌, ◌<◌, ◌≤◌, Bool, true, false, cond, ◌&&◌, eqb, ltb, leb, ◌⊎◌, [], ◌∷◌, ◌++◌, length, take, Ok, Err, sym, refl, ap, ◌∙◌, subst, inl, inr, arith}
use Rattle.std.proofs.lemmas.List.{length_push, get_or_push}
use Rattle.std.proofs.lemmas.Bool.{cases_lt, cases_Bool, and_parts, cond-true, ltb-true, leb-true, eqb-true, eqb-false}
use Rattle.record.specs.declared.entry.Entry.{Entry}
use Rattle.protocol.specs.declared.Standing.{Standing}
use Rattle.protocol.specs.declared.Standing.TheVariants.{Kept, Gone, Open, Unknown}
use Rattle.protocol.specs.ServerIds.{ServerId, one, two, three, number_of, numbered}
use Rattle.protocol.specs.State.{blank, Log, at, term_at, tip, leader, Server, Core, Machine, Cluster, opening, change, is_leader}
use Rattle.protocol.specs.Rules.{gains, may_propose, standing_of}
use Rattle.protocol.specs.Calls.{Call, Allowed, propose, Answer, refused, ticket, word, propose_answer, said, answer, after, propose_call}
use Rattle.protocol.specs.Runs.{History, following, RunFrom, Run, GoesOn, moment}
use Rattle.protocol.specs.Promises.{TwoHold, Tells, Handed, KeptStays, GoneStays, Promises, Safe}
use Rattle.protocol.proofs.History.{Pre, Hist, Chosen, LeaderOk, Inv}
use Rattle.protocol.proofs.Shelf.{put_here}
use Rattle.protocol.proofs.Frame.{chosen_grown}
use Rattle.protocol.proofs.After.{empty}
use Rattle.protocol.proofs.Heard.{is_leader_true}
use Rattle.protocol.proofs.Leader.{lead_ok}
use Rattle.protocol.proofs.Logs.{logs_agree, applied_agree, two_hold_by, one_list}
use Rattle.protocol.proofs.States.{newest_state, open_count}
use Rattle.protocol.proofs.Traces.{Trace, run_trace}

-- a number is that of a server, or of none
cases_number : (n : ℕ) → ((j : ServerId) × (number_of j ≡ n)) ⊎ ((eqb n 1 ≡ false) × (eqb n 2 ≡ false) × (eqb n 3 ≡ false))
cases_number n = elim (cases_Bool (eqb n 1)) [
  | inl e ↦ inl (one, sym (eqb-true n 1 e))
  | inr a ↦ elim (cases_Bool (eqb n 2)) [
    | inl e ↦ inl (two, sym (eqb-true n 2 e))
    | inr b ↦ elim (cases_Bool (eqb n 3)) [ inl e ↦ inl (three, sym (eqb-true n 3 e)) | inr c ↦ inr (a, b, c) ]
  ]
]

numbered_at : {A : Type 0} (j : ServerId) (f : ServerId → A) (x : A) → numbered (number_of j) f x ≡ f j
numbered_at one f x = refl
numbered_at two f x = refl
numbered_at three f x = refl

numbered_none : {A : Type 0} (n : ℕ) (f : ServerId → A) (x : A) → (eqb n 1 ≡ false) × (eqb n 2 ≡ false) × (eqb n 3 ≡ false) → numbered n f x ≡ x
numbered_none n f x h = rw (h.0, h.1, h.2) refl

-- what kept and gone say
kept_tests : (a b c : Bool) → cond a (cond b Kept Gone) (cond c Open Unknown) ≡ Kept → (a ≡ true) × (b ≡ true)
kept_tests true true c e = (refl, refl)
kept_tests true false c e = (cc, cc)
kept_tests false b true e = (cc, cc)
kept_tests false b false e = (cc, cc)

gone_tests : (a b c : Bool) → cond a (cond b Kept Gone) (cond c Open Unknown) ≡ Gone → (a ≡ true) × (b ≡ false)
gone_tests true true c e = (cc, cc)
gone_tests true false c e = (refl, refl)
gone_tests false b true e = (cc, cc)
gone_tests false b false e = (cc, cc)

kept_says : (s : Server) (n t : ℕ) → standing_of s n t ≡ Kept → (0 < n) × (n ≤ s.commit) × (tip s.log n ≡ t)
kept_says s n t e =
    let p = kept_tests (ltb 0 n && leb n s.commit) (eqb (tip s.log n) t) _ e in
    let q = and_parts (ltb 0 n) (leb n s.commit) p.0 in
    (ltb-true _ _ q.0, leb-true _ _ q.1, eqb-true _ _ p.1)

gone_says : (s : Server) (n t : ℕ) → standing_of s n t ≡ Gone → (0 < n) × (n ≤ s.commit) × (tip s.log n ≡ t → ⊥)
gone_says s n t e =
    let p = gone_tests (ltb 0 n && leb n s.commit) (eqb (tip s.log n) t) _ e in
    let q = and_parts (ltb 0 n) (leb n s.commit) p.0 in
    (ltb-true _ _ q.0, leb-true _ _ q.1, eqb-false _ _ p.1)

-- who tells something is one of the three, and tells its standing
word_says : (u : Bool) (x y : Standing) → said word (cond u (Ok x) (Err 2)) ≡ word y → x ≡ y
word_says true x y e = cc
word_says false x y e = cc

tells_by : {X : Type 0} (M : Machine X) (k : Cluster X) (j n t : ℕ) (w : Standing) → Tells M k j n t w → (s : ServerId) × (standing_of (k.core.server s) n t ≡ w)
tells_by M k j n t w h =
    let F : ServerId → Answer = λ s. said word (cond (k.core.server s).up (Ok (standing_of (k.core.server s) n t)) (Err 2)) in
    elim (cases_number j) [
      | inl p ↦ (p.0, word_says (k.core.server p.0).up _ w (sym (numbered_at p.0 F (refused 1)) ∙ subst (λ i. numbered i F (refused 1) ≡ word w) (sym p.1) h))
      | inr p ↦ absurd (refused_word (sym (numbered_none j F (refused 1) p) ∙ h))
    ]
  where
    refused_word : refused 1 ≡ word w → ⊥
    refused_word e = let z : ◌≡◌ {A = ℕ} 0 1 = cc in omega arith

-- a ticket that was handed out says what its propose found
record Found (s : Server) (n t : ℕ) : Type 0 where
  may : may_propose s ≡ true
  leads : s.role ≡ leader
  number : n ≡ suc (length s.log)
  term : t ≡ s.term

ticket_tests : (u r l : Bool) (i T n t : ℕ) → ticket n t ≡ said (λ (x : ℕ × ℕ). ticket x.0 x.1) (cond u (cond r (cond l (Ok (i, T)) (Err 7)) (Err 6)) (Err 2))
    → ((u && (r && l)) ≡ true) × (r ≡ true) × (n ≡ i) × (t ≡ T)
ticket_tests true true true i T n t e = (refl, refl, cc, cc)
ticket_tests true true false i T n t e = (cc, cc, cc, cc)
ticket_tests true false l i T n t e = (cc, cc, cc, cc)
ticket_tests false r l i T n t e = (cc, cc, cc, cc)

found : (s : Server) (n t : ℕ) → ticket n t ≡ said (λ (x : ℕ × ℕ). ticket x.0 x.1) (propose_answer s) → Found s n t
found s n t e =
    let p = ticket_tests s.up (is_leader s.role) (ltb (length s.log) 64) (suc (length s.log)) s.term n t e in
    record { may = p.0; leads = is_leader_true _ p.1; number = p.2; term = p.3 }

-- the part of a run before a call, and with it
run_at : {X : Type 0} (M : Machine X) (b : History) (x : Call × Answer) (h : History) (k : Cluster X) → RunFrom M k (b ++ x ∷ h) → x.1 ≡ answer M (following M k b) x.0
run_at M [] x h k r = r.1
run_at M (y ∷ b) x h k r = run_at M b x h (after M k y.0) r.2

following_push : {X : Type 0} (M : Machine X) (b : History) (x : Call × Answer) (k : Cluster X) → following M k (b ++ x ∷ []) ≡ after M (following M k b) x.0
following_push M [] x k = refl
following_push M (y ∷ b) x k = following_push M b x (after M k y.0)

take_before : (b : History) (x : Call × Answer) (h : History) → take (length b) (b ++ x ∷ h) ≡ b
take_before [] x h = refl
take_before (y ∷ b) x h = ap (λ (r : History). y ∷ r) (take_before b x h)

take_with : (b : History) (x : Call × Answer) (h : History) → take (suc (length b)) (b ++ x ∷ h) ≡ b ++ x ∷ []
take_with [] x h = refl
take_with (y ∷ b) x h = ap (λ (r : History). y ∷ r) (take_with b x h)

-- a leader's log with one more is its term's
gained : {h : Hist} (w : Core) (j : ServerId) (x : Entry) → Inv h (change w j (gains x (w.server j))) → (w.server j).role ≡ leader
    → (w.server j).log ++ x ∷ [] ≡ h.log (w.server j).term
gained {h} w j x i r =
    let p = put_here w.server j (gains x (w.server j)) in
    let l : LeaderOk h j (gains x (w.server j)) = subst (LeaderOk h j) p (lead_ok i j (ap (λ (s : Server). s.role) p ∙ r)) in
    l.log

module _ {X : Type 0} (M : Machine X) (h : History) (r : Run M h) where
  tr : Trace M empty (opening M) h
  tr = run_trace M h r

  abbrev now : ℕ → Core
  now m = (moment M h m).core

  -- entry i of a committed log is in the log of some term, and chosen, at every moment from then on
  record At (N i : ℕ) (e : Entry) : Type 0 where
    U : ℕ
    k : ℕ
    far : i ≤ k
    chosen : Chosen (tr.hist N) U k
    is : e ≡ at ((tr.hist N).log U) i

  committed : (m N : ℕ) → m ≤ N → (s : ServerId) (i : ℕ) → i < ((now m).server s).commit → At N i (at ((now m).server s).log i)
  committed m N l s i q =
      let a = ((tr.inv m).each s).commit (omega arith) in
      let G = tr.grown m N l in
      record {
        U = a.U;
        k = a.i;
        far = omega (arith, a.far);
        chosen = chosen_grown (tr.inv m).hist G a.U a.i a.chosen;
        is = a.pre.same i q ∙ (G.log a.U).same i (omega (arith, a.pre.right));
      }

  -- what two servers have committed at i, at any two moments, is one entry
  one_entry : (m k : ℕ) (s q : ServerId) (i : ℕ) → i < ((now m).server s).commit → i < ((now k).server q).commit
      → at ((now m).server s).log i ≡ at ((now k).server q).log i
  one_entry m k s q i a' b' =
      let a = committed m (m + k) (omega arith) s i a' in
      let b = committed k (m + k) (omega arith) q i b' in
      a.is ∙ (one_list (tr.inv (m + k)) b.U a.U i b.k a.k b.chosen a.chosen b.far a.far ∙ sym b.is)

  -- where and when a ticket was handed out
  record Proposed (n t : ℕ) (e : Entry) : Type 0 where
    m : ℕ
    j : ServerId
    found : Found ((now m).server j) n t
    then : now (suc m) ≡ change (now m) j (gains e ((now m).server j))
    own : e.term ≡ t

  proposed_by : (n t : ℕ) (e : Entry) (a : Handed h n t e) → (j : ServerId) → number_of j ≡ a.j → Proposed n t e
  proposed_by n t e a j z =
      let b = a.before in
      let x : Call × Answer = (propose a.j a.edit, ticket n t) in
      let r' : RunFrom M (opening M) (b ++ x ∷ a.later) = subst (RunFrom M (opening M)) a.call r in
      let k = following M (opening M) b in
      let ans = run_at M b x a.later (opening M) r' in
      let F : ServerId → Answer = λ q. said (λ (y : ℕ × ℕ). ticket y.0 y.1) (propose_answer (k.core.server q)) in
      let ans' : ticket n t ≡ F j = subst (λ i. ticket n t ≡ numbered i F (refused 1)) (sym z) ans ∙ numbered_at j F (refused 1) in
      let f = found (k.core.server j) n t ans' in
      let was : moment M h (length b) ≡ k = ap (following M (opening M)) (ap (take (length b)) a.call ∙ take_before b x a.later) in
      let is : moment M h (suc (length b)) ≡ after M k x.0 = ap (following M (opening M)) (ap (take (suc (length b))) a.call ∙ take_with b x a.later) ∙ following_push M b x (opening M) in
      let C : ServerId → Core = λ q. propose_call k.core q a.edit in
      let step : (after M k x.0).core ≡ change k.core j (gains (record { term = (k.core.server j).term; edit = a.edit }) (k.core.server j)) =
      subst (λ i. numbered i C k.core ≡ C j) z (numbered_at j C k.core) ∙ ap (change k.core j) (cond-true (may_propose (k.core.server j)) _ _ f.may) in
      let same : record { term = (k.core.server j).term; edit = a.edit } ≡ e = sym (a.entry ∙ ap (λ (y : ℕ). record { term = y; edit = a.edit }) f.term) in
      let step' : now (suc (length b)) ≡ change k.core j (gains e (k.core.server j)) =
      ap (λ (c : Cluster X). c.core) is ∙ (step ∙ ap (λ (y : Entry). change k.core j (gains y (k.core.server j))) same) in
      record {
        m = length b;
        j = j;
        found = subst (λ (c : Cluster X). Found (c.core.server j) n t) (sym was) f;
        then = subst (λ (c : Cluster X). now (suc (length b)) ≡ change c.core j (gains e (c.core.server j))) (sym was) step';
        own = ap (λ (y : Entry). y.term) a.entry;
      }

  proposed : (n t : ℕ) (e : Entry) → Handed h n t e → Proposed n t e
  proposed n t e a = elim (cases_number a.j) [
    | inl p ↦ proposed_by n t e a p.0 p.1
    | inr p ↦
        let b = a.before in
        let x : Call × Answer = (propose a.j a.edit, ticket n t) in
        let r' : RunFrom M (opening M) (b ++ x ∷ a.later) = subst (RunFrom M (opening M)) a.call r in
        let k = following M (opening M) b in
        let F : ServerId → Answer = λ q. said (λ (y : ℕ × ℕ). ticket y.0 y.1) (propose_answer (k.core.server q)) in
        absurd (ticket_refused (run_at M b x a.later (opening M) r' ∙ numbered_none a.j F (refused 1) p))
  ]
    where
      ticket_refused : ticket n t ≡ refused 1 → ⊥
      ticket_refused q = let z : ◌≡◌ {A = ℕ} 0 1 = cc in omega arith

  -- the ticket's entry is that of its term's log, which grows by it at the propose
  module _ (n t : ℕ) (e : Entry) (sl : Proposed n t e) where
    abbrev i₇ : ℕ
    i₇ = length ((now sl.m).server sl.j).log

    before_it : length ((tr.hist sl.m).log t) ≡ i₇
    before_it = rw sl.found.term (ap (λ (l : Log). length l) (sym (lead_ok (tr.inv sl.m) sl.j sl.found.leads).log))

    grows : ((now sl.m).server sl.j).log ++ e ∷ [] ≡ (tr.hist (suc sl.m)).log t
    grows = subst (λ U. ((now sl.m).server sl.j).log ++ e ∷ [] ≡ (tr.hist (suc sl.m)).log U) (sym sl.found.term)
        (gained (now sl.m) sl.j e (subst (Inv (tr.hist (suc sl.m))) sl.then (tr.inv (suc sl.m))) sl.found.leads)

    -- whenever a log of the ticket's term reaches its number, it has its entry there
    ticket_entry : (k : ℕ) → i₇ < length ((tr.hist k).log t) → at ((tr.hist k).log t) i₇ ≡ e
    ticket_entry k b = elim (cases_lt sl.m k) [
      | inl l ↦
          let G = (tr.grown (suc sl.m) k l).log t in
          let len : i₇ < length ((tr.hist (suc sl.m)).log t) = subst (λ (x : Log). i₇ < length x) grows (omega (arith, length_push ((now sl.m).server sl.j).log e)) in
          sym (G.same i₇ len) ∙ (sym (ap (λ (x : Log). at x i₇) grows) ∙ get_or_push ((now sl.m).server sl.j).log e blank i₇ refl)
      | inr l ↦ absurd (omega (arith, before_it, ((tr.grown k sl.m l).log t).right))
    ]

    -- a server that tells kept of that number or a larger one has the entry
    kept_entry : (k : ℕ) (q : ServerId) (i : ℕ) → i₇ ≤ i → i < ((now k).server q).commit → term_at ((now k).server q).log i ≡ t → at ((now k).server q).log i₇ ≡ e
    kept_entry k q i l b et =
        let o = (tr.inv k).each q in
        let p = (o.log i (omega (arith, (o.commit (omega arith)).pre.left))).pre in
        let p' : Pre (suc i) ((now k).server q).log ((tr.hist k).log t) = subst (λ U. Pre (suc i) ((now k).server q).log ((tr.hist k).log U)) et p in
        p'.same i₇ (omega arith) ∙ ticket_entry k (omega (arith, p'.right))

    kept_then : (m : ℕ) (s : ServerId) → standing_of ((now m).server s) (suc i₇) t ≡ Kept → (k : ℕ) → m ≤ k
        → TwoHold (now k) (suc i₇) e × ((q : ServerId) → standing_of ((now k).server q) (suc i₇) t ≡ Gone → ⊥)
    kept_then m s told k l =
        let p = kept_says ((now m).server s) (suc i₇) t told in
        let is : at ((now m).server s).log i₇ ≡ e = kept_entry m s i₇ (omega arith) p.1 p.2 in
        let c = committed m k l s i₇ p.1 in
        let z : at ((tr.hist k).log c.U) i₇ ≡ e = sym c.is ∙ is in (
          subst (TwoHold (now k) (suc i₇)) z (two_hold_by (tr.inv k) c.U i₇ c.k c.chosen c.far),
          λ q g. let y = gone_says ((now k).server q) (suc i₇) t g in
              y.2 (ap (λ (x : Entry). x.term) (one_entry k m q s i₇ y.1 p.1 ∙ is) ∙ sl.own),
        )

    gone_never : (m : ℕ) (s : ServerId) → standing_of ((now m).server s) (suc i₇) t ≡ Gone → (k : ℕ) (q : ServerId) (i : ℕ) → i₇ ≤ i
        → standing_of ((now k).server q) (suc i) t ≡ Kept → ⊥
    gone_never m s told k q i l kept =
        let y = gone_says ((now m).server s) (suc i₇) t told in
        let p = kept_says ((now k).server q) (suc i) t kept in
        let is = kept_entry k q i l p.1 p.2 in
        y.2 (ap (λ (x : Entry). x.term) (one_entry m k s q i₇ y.1 (omega (arith, p.1)) ∙ is) ∙ sl.own)

  kept_stays : KeptStays M h
  kept_stays n t e a m j told k l =
      let sl = proposed n t e a in
      let z : n ≡ suc (i₇ n t e sl) = sl.found.number in
      let b = tells_by M (moment M h m) j n t Kept told in
      let p = kept_then n t e sl m b.0 (subst (λ x. standing_of ((now m).server b.0) x t ≡ Kept) z b.1) k l in (
        subst (λ x. TwoHold (now k) x e) (sym z) p.0,
        λ q g. let c = tells_by M (moment M h k) q n t Gone g in p.1 c.0 (subst (λ x. standing_of ((now k).server c.0) x t ≡ Gone) z c.1),
      )

  gone_stays : GoneStays M h
  gone_stays n t e a m j told k q zero l kept = absurd (omega (arith, (proposed n t e a).found.number))
  gone_stays n t e a m j told k q (suc i) l kept =
      let sl = proposed n t e a in
      let z : n ≡ suc (i₇ n t e sl) = sl.found.number in
      let b = tells_by M (moment M h m) j n t Gone told in
      let c = tells_by M (moment M h k) q (suc i) t Kept kept in
      gone_never n t e sl m b.0 (subst (λ x. standing_of ((now m).server b.0) x t ≡ Gone) z b.1) k c.0 i (omega arith) c.1

  pub promises : Promises M h
  promises = record {
    logs = λ m. logs_agree (tr.inv m);
    states = λ m j. newest_state M _ _ ((tr.states m).each j);
    open_states = λ m j. open_count M _ _ ((tr.states m).each j);
    applied = λ m. applied_agree (tr.inv m);
    kept = kept_stays;
    gone = gone_stays;
  }

pub safe : (X : Type 0) → Safe X
safe X M h r = promises M h r

run_push : {X : Type 0} (M : Machine X) (h : History) (c : Call) (k : Cluster X) → RunFrom M k h → Allowed (following M k h).core c
    → RunFrom M k (h ++ (c, answer M (following M k h) c) ∷ [])
run_push M [] c k r a = (a, refl, tt)
run_push M (x ∷ h) c k r a = (r.0, r.1, run_push M h c (after M k x.0) r.2 a)

pub goes_on : (X : Type 0) → GoesOn X
goes_on X M h c r a = (run_push M h c (opening M) r a, following_push M h (c, answer M (following M (opening M) h) c) (opening M))

-- From what the code did to one server and to the network, to a call of the rules.
use Rattle.std.proofs.Common.{◌≡◌, ℕ, ◌-◌, ◌<◌, min, Bool, true, false, cond, not, ◌&&◌, ltb, List, [], ◌∷◌, ◌++◌, map, length, get_or, set, vec_items, Ok, Err, Result, sym, refl, ap, ◌∙◌, subst, arith}
use mathlib.Core.Path.{fun_ext}
use Rattle.std.proofs.lemmas.List.{length-map, get_or-map, map-set}
use Rattle.std.proofs.lemmas.Bool.{cond-false, le-ltb}
use Rattle.refusal.specs.declared.Refusal.{Refusal}
use Rattle.refusal.specs.Numbers.{number_of}
use Rattle.store.specs.declared.Store.{Ghosts as StoreGhosts}
use Rattle.machine.specs.declared.state_machine.StateMachine.{Ghosts as MachineGhosts}
use Rattle.machine.specs.States.{applied, undone_times}
use Rattle.protocol.specs.declared.ServerId.{ServerId}
use Rattle.protocol.specs.declared.Message.{Message}
use Rattle.protocol.specs.ServerIds.{numbered, put}
use Rattle.protocol.specs.State.{Server as State, Core, Machine, Cluster as Model, opening, at, change, with}
use Rattle.protocol.specs.Rules.{settled_times, moved}
use Rattle.protocol.specs.Calls.{Call, campaign, deliver, lose, propose, firm, send, apply, outage, restart, standing, close, look, Answer, refused, done, lost, ticket, keeps, word, cell, said, answer, after, core_after, Allowed}
use Rattle.protocol.specs.Calls.{campaign_call, campaign_answer, propose_call, propose_answer, firm_call, firm_answer, send_call, send_answer, apply_call, apply_answer, outage_call, outage_answer, restart_call, restart_answer, standing_answer, close_answer, look_answer}
use Rattle.protocol.specs.Runs.{Run, following}
use Rattle.protocol.proofs.Shelf.{put_here, put_there, put_all}
use Rattle.protocol.proofs.Tickets.{safe, goes_on}
use Rattle.node.specs.Meaning.{place, of3}
use Rattle.server.specs.declared.Server.{Server}
use Rattle.server.specs.Turns.{kind_of, state_of, states_of, Turned}
use Rattle.server.specs.Answers.{may_keep_at}
use Rattle.cluster.specs.declared.state.Cluster.{Cluster}
use Rattle.cluster.specs.Meaning.{fresh, model, cluster_of}
use Rattle.cluster.specs.Called.{Called}
use Rattle.cluster.proofs.Threes.{Found, numbered_some, numbered_none, not_found, place_small, of3_set}

not_both : (b : Bool) → (b && not b) ≡ false
not_both true = refl
not_both false = refl

module _ {X : Type 0} (K : Machine X) where
  -- the theorem on runs, put on a call
  pub called : (c : Call) (a : Answer) (k k' : Model X) → a ≡ answer K k c → k' ≡ after K k c → Allowed k.core c → Called K c a k k'
  called c a k k' p q al = record {
    answers = p;
    leaves = q;
    allowed = al;
    runs = λ h r e.
        let g = goes_on X K h c r (subst (λ (x : Model X). Allowed x.core c) e al) in
        let ha : answer K (following K (opening K) h) c ≡ a = sym (p ∙ ap (λ x. answer K x c) e) in
        let run : Run K (h ++ (c, a) ∷ []) = subst (λ (b : Answer). Run K (h ++ (c, b) ∷ [])) ha g.0 in
        let end : after K (following K (opening K) h) c ≡ following K (opening K) (h ++ (c, a) ∷ []) =
        subst (λ (b : Answer). after K (following K (opening K) h) c ≡ following K (opening K) (h ++ (c, b) ∷ [])) ha (sym g.1) in
        (run, q ∙ (ap (λ x. after K x c) e ∙ end), safe X K (h ++ (c, a) ∷ []) run);
  }

  -- a machine whose server stays as it was
  pub moved_same : (s : State) (ms : List X) → moved K s s ms ≡ ms
  moved_same s ms =
      let z : s.applied - s.applied ≡ 0 = omega arith in
      let y : min s.applied s.commit - min s.applied s.commit ≡ 0 = omega arith in
      let a : cond (ltb s.applied s.applied) (applied K.opening K.next (at s.log s.applied).edit ms) (undone_times (s.applied - s.applied) ms) ≡ ms =
      cond-false (ltb s.applied s.applied) _ _ (le-ltb _ _ (omega arith)) ∙ ap (λ n. undone_times n ms) z in
      cond-false (s.up && not s.up) _ _ (not_both s.up) ∙ (ap (settled_times (min s.applied s.commit - min s.applied s.commit)) a ∙ ap (λ n. settled_times n ms) y)

module _ {S M : Type 0} {s : StoreGhosts S} {m : MachineGhosts M} (k : Cluster S M s m) where
  abbrev K : Machine m.State
  K = kind_of m

  abbrev xs : List (Server S M)
  xs = vec_items k.servers

  abbrev pub base : Model m.State
  base = cluster_of k

  -- the cluster with other servers and another network
  abbrev pub with_parts : List (Server S M) → List Message → Model m.State
  with_parts = model K (state_of s) (states_of m)

  -- only the network changes
  pub posts : (c : Call) (a : Answer) (q : List Message) → a ≡ answer K base c → record { server = base.core.server; network = q } ≡ core_after base.core c
      → Allowed base.core c → Called K c a base (with_parts xs q)
  posts c a q ha hw al = called K c a base _ ha
      (ap (λ (f : ServerId → List m.State). record { core = record { server = base.core.server; network = q }; states = f }) (fun_ext (λ j. sym (moved_same K (base.core.server j) (base.states j))))
      ∙ ap (λ (v : Core). record { core = v; states = λ j. moved K (base.core.server j) (v.server j) (base.states j) }) hw) al

  -- nothing changes
  pub untouched : (c : Call) (a : Answer) → a ≡ answer K base c → base.core ≡ core_after base.core c → Allowed base.core c → Called K c a base base
  untouched c a ha hw al = posts c a (vec_items k.network.messages.items) ha hw al

  -- the number that a call names finds no server
  abbrev pub FoundIn : Call → Result ServerId Refusal → Type 0
  FoundIn (campaign n) r = Found n r
  FoundIn (deliver p keep) r = ⊥
  FoundIn (lose p) r = ⊥
  FoundIn (propose n e) r = Found n r
  FoundIn (firm n) r = Found n r
  FoundIn (send n q) r = Found n r
  FoundIn (apply n) r = Found n r
  FoundIn (outage n c) r = Found n r
  FoundIn (restart n) r = Found n r
  FoundIn (standing n i t) r = Found n r
  FoundIn (close n i t) r = Found n r
  FoundIn (look n row size) r = Found n r

  pub none : (n : ℕ) (e : Refusal) → Found n (Err e) → (c : Call) (a : Answer) (f : ServerId → Answer) → a ≡ refused (number_of e)
      → answer K base c ≡ numbered n f (refused 1) → base.core ≡ core_after base.core c → Allowed base.core c → Called K c a base base
  none n e w c a f r ha hw al = untouched c a
      (r ∙ (ap (λ d. refused (number_of d)) (not_found n e w) ∙ sym (ha ∙ numbered_none n e f (refused 1) w))) hw al

  pub nobody : (c : Call) (e : Refusal) → FoundIn c (Err e) → (a : Answer) → a ≡ refused (number_of e) → Called K c a base base
  nobody (campaign n) e w a r = none n e w (campaign n) a (λ j. said lost (campaign_answer base.core j)) r refl (sym (numbered_none n e (campaign_call base.core) base.core w)) refl
  nobody (deliver p keep) e w a r = absurd w
  nobody (lose p) e w a r = absurd w
  nobody (propose n x) e w a r = none n e w (propose n x) a (λ j. said (λ y. ticket y.0 y.1) (propose_answer (base.core.server j))) r refl (sym (numbered_none n e (λ j. propose_call base.core j x) base.core w)) refl
  nobody (firm n) e w a r = none n e w (firm n) a (λ j. said (λ _. done) (firm_answer (base.core.server j))) r refl (sym (numbered_none n e (firm_call base.core) base.core w)) refl
  nobody (send n q) e w a r = none n e w (send n q) a (λ j. numbered q (λ o. said lost (send_answer base.core j o)) (refused 1)) r refl (sym (numbered_none n e (λ j. numbered q (send_call base.core j) base.core) base.core w)) refl
  nobody (apply n) e w a r = none n e w (apply n) a (λ j. said (λ _. done) (apply_answer (base.core.server j))) r refl (sym (numbered_none n e (apply_call base.core) base.core w)) refl
  nobody (outage n c) e w a r = none n e w (outage n c) a (λ j. said keeps (outage_answer (base.core.server j) c)) r refl (sym (numbered_none n e (λ j. outage_call base.core j c) base.core w)) (numbered_none n e (λ j. may_keep_at c (base.core.server j)) true w)
  nobody (restart n) e w a r = none n e w (restart n) a (λ j. said (λ _. done) (restart_answer (base.core.server j))) r refl (sym (numbered_none n e (restart_call base.core) base.core w)) refl
  nobody (standing n i t) e w a r = none n e w (standing n i t) a (λ j. said word (standing_answer (base.core.server j) i t)) r refl refl refl
  nobody (close n i t) e w a r = none n e w (close n i t) a (λ j. said word (close_answer (base.core.server j) i t)) r refl refl refl
  nobody (look n row size) e w a r = none n e w (look n row size) a (λ j. said cell (look_answer K (base.core.server j) (base.states j) row size)) r refl refl refl

  -- the code reads the server x at the place of the server j
  module _ (j : ServerId) (i : ℕ) (x : Server S M) (is : i ≡ place j) (read : x ≡ get_or xs i x) where
    at_place : {B : Type 0} (f : Server S M → B) (d : B) → of3 d (map f xs) j ≡ f x
    at_place f d =
        let small : place j < length xs = omega (arith, place_small j, k.three) in
        let r : x ≡ get_or xs (place j) x = subst (λ n. x ≡ get_or xs n x) is read in
        get_or-map f xs (place j) x d small ∙ ap f (sym r)

    set_place : {B : Type 0} (f : Server S M → B) (d : B) (y : Server S M) → of3 d (map f (set xs i y)) ≡ put (of3 d (map f xs)) j (f y)
    set_place f d y =
        ap (of3 d) (map-set f xs i y ∙ ap (λ n. set (map f xs) n (f y)) is) ∙ of3_set d (map f xs) j (f y) (length-map xs f ∙ k.three)

    pub seen : base.core.server j ≡ state_of s x
    seen = at_place (state_of s) fresh

    pub seen_states : base.states j ≡ states_of m x
    seen_states = at_place (states_of m) (K.opening ∷ [])

    -- server j becomes y and the network q, as the call leaves them
    pub seated : (c : Call) (a : Answer) (y : Server S M) (q : List Message)
        → a ≡ answer K base c → with base.core j (state_of s y) q ≡ core_after base.core c
        → states_of m y ≡ moved K (state_of s x) (state_of s y) (states_of m x) → Allowed base.core c
        → Called K c a base (with_parts (set xs i y) q)
    seated c a y q ha hw hs al =
        let w : Core = base.core in
        let ms : ServerId → List m.State = base.states in
        let v : State = state_of s y in
        let e0 : of3 fresh (map (state_of s) (set xs i y)) ≡ put w.server j v = set_place (state_of s) fresh y in
        let e1 : record { server = of3 fresh (map (state_of s) (set xs i y)); network = q } ≡ core_after w c = ap (λ g. record { server = g; network = q }) e0 ∙ hw in
        let here : states_of m y ≡ moved K (w.server j) (put w.server j v j) (ms j) =
        hs ∙ (ap (λ u. moved K u v (states_of m x)) (sym seen) ∙ (ap (λ u. moved K (w.server j) u (states_of m x)) (sym (put_here w.server j v)) ∙ ap (moved K (w.server j) (put w.server j v j)) (sym seen_states))) in
        let m0 : of3 (K.opening ∷ []) (map (states_of m) (set xs i y)) ≡ put ms j (states_of m y) = set_place (states_of m) (K.opening ∷ []) y in
        let m1 : put ms j (states_of m y) ≡ (λ r. moved K (w.server r) (put w.server j v r) (ms r)) =
        fun_ext (put_all ms j (states_of m y) (λ r z. z ≡ moved K (w.server r) (put w.server j v r) (ms r)) here
        (λ r n. sym (moved_same K (w.server r) (ms r)) ∙ ap (λ u. moved K (w.server r) u (ms r)) (sym (put_there w.server j v r n)))) in
        let m2 : of3 (K.opening ∷ []) (map (states_of m) (set xs i y)) ≡ (λ r. moved K (w.server r) (of3 fresh (map (state_of s) (set xs i y)) r) (ms r)) =
        m0 ∙ (m1 ∙ ap (λ (g : ServerId → State). λ r. moved K (w.server r) (g r) (ms r)) (sym e0)) in
        called K c a base (with_parts (set xs i y) q) ha
        (ap (λ (f : ServerId → List m.State). record { core = record { server = of3 fresh (map (state_of s) (set xs i y)); network = q }; states = f }) m2
        ∙ ap (λ (z : Core). record { core = z; states = λ r. moved K (w.server r) (z.server r) (ms r) }) e1) al

    -- a call on one server by its number n
    pub on_one : (n : ℕ) → Found n (Ok j) → (c : Call) (a : Answer) (says : State → Answer) (f : ServerId → State → State) (y : Server S M)
        → a ≡ says (state_of s x) → Turned s m x (f j) y
        → answer K base c ≡ numbered n (λ r. says (base.core.server r)) (refused 1)
        → core_after base.core c ≡ numbered n (λ r. change base.core r (f r (base.core.server r))) base.core
        → Allowed base.core c
        → Called K c a base (with_parts (set xs i y) (vec_items k.network.messages.items))
    on_one n found c a says f y ha turned ans aft al =
        let w : Core = base.core in
        seated c a y (vec_items k.network.messages.items)
        (ha ∙ (ap says (sym seen) ∙ (sym (numbered_some n j (λ r. says (w.server r)) (refused 1) found) ∙ sym ans)))
        (ap (change w j) (turned.goes ∙ ap (f j) (sym seen)) ∙ (sym (numbered_some n j (λ r. change w r (f r (w.server r))) w found) ∙ sym aft)) turned.moves al

    -- a question to one server by its number n
    pub asked : (n : ℕ) → Found n (Ok j) → (c : Call) (a : Answer) (says : State → List m.State → Answer)
        → a ≡ says (state_of s x) (states_of m x)
        → answer K base c ≡ numbered n (λ r. says (base.core.server r) (base.states r)) (refused 1)
        → base.core ≡ core_after base.core c → Allowed base.core c → Called K c a base base
    asked n found c a says ha ans hw al = untouched c a
        (ha ∙ (ap (λ u. says u (states_of m x)) (sym seen) ∙ (ap (says (base.core.server j)) (sym seen_states)
        ∙ (sym (numbered_some n j (λ r. says (base.core.server r) (base.states r)) (refused 1) found) ∙ sym ans)))) hw al

    -- what an outage of server j keeps is allowed
    pub may_keep_by : (n : ℕ) → Found n (Ok j) → (c : ℕ) → may_keep_at c (state_of s x) ≡ true → Allowed base.core (outage n c)
    may_keep_by n found c h = numbered_some n j (λ r. may_keep_at c (base.core.server r)) true found ∙ (ap (may_keep_at c) seen ∙ h)

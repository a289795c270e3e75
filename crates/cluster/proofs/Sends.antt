-- A leader's append request on its way.
use Rattle.std.proofs.Common.{◌≡◌, ℕ, Bool, true, false, cond, not, ◌&&◌, List, get_or, vec_items, Ok, Err, Result, sym, refl, ap, ◌∙◌}
use Rattle.std.proofs.lemmas.Bool.{cond-true, cond-false}
use Rattle.refusal.specs.declared.Refusal.{Refusal}
use Rattle.refusal.specs.Numbers.{number_of}
use Rattle.store.specs.declared.Store.{Ghosts as StoreGhosts}
use Rattle.machine.specs.declared.state_machine.StateMachine.{Ghosts as MachineGhosts}
use Rattle.protocol.specs.declared.ServerId.{ServerId}
use Rattle.protocol.specs.declared.Message.{Message}
use Rattle.protocol.specs.ServerIds.{numbered, same}
use Rattle.protocol.specs.State.{Server as State, Core, is_leader, joined, lost_of, posted}
use Rattle.protocol.specs.AppendEntries.{append_request}
use Rattle.protocol.specs.Calls.{send, Answer, refused, lost, said, send_call, send_answer}
use Rattle.node.specs.Meaning.{place}
use Rattle.server.specs.declared.Server.{Server}
use Rattle.server.specs.Turns.{kind_of, state_of}
use Rattle.server.specs.Answers.{request_answer}
use Rattle.cluster.specs.declared.state.Cluster.{Cluster}
use Rattle.cluster.specs.Called.{Called}
use Rattle.cluster.proofs.Threes.{Found, numbered_some, numbered_none}
use Rattle.cluster.proofs.Links.{base, with_parts, seen, posts, untouched, none}

abbrev tests : {V : Type 0} → Bool → Bool → Bool → V → Result V ℕ
tests a b d v = cond a (cond b (cond d (Err 8) (Ok v)) (Err 6)) (Err 2)

refused_by : {V : Type 0} (a b d : Bool) (v : V) (n e : ℕ) → Err e ≡ tests a b d v → ((a && (b && not d)) ≡ false) × (Err e ≡ tests a b d n)
refused_by false b d v n e h = (refl, cc)
refused_by true false d v n e h = (refl, cc)
refused_by true true true v n e h = (refl, cc)
refused_by true true false v n e h = (cc, cc)

passed_by : {V : Type 0} (a b d : Bool) (v u : V) (n : ℕ) → Ok u ≡ tests a b d v → ((a && (b && not d)) ≡ true) × (u ≡ v) × (Ok n ≡ tests a b d n)
passed_by false b d v u n h = (cc, cc, cc)
passed_by true false d v u n h = (cc, cc, cc)
passed_by true true true v u n h = (cc, cc, cc)
passed_by true true false v u n h = (refl, cc, refl)

module _ {S M : Type 0} {s : StoreGhosts S} {m : MachineGhosts M} (k : Cluster S M s m) (n to : ℕ) (j : ServerId) (found : Found n (Ok j)) where
  abbrev p : List Message
  p = vec_items k.network.messages.items

  abbrev w : Core
  w = (base k).core

  answer_at : numbered n (λ r. numbered to (λ o. said lost (send_answer w r o)) (refused 1)) (refused 1) ≡ numbered to (λ o. said lost (send_answer w j o)) (refused 1)
  answer_at = numbered_some n j (λ r. numbered to (λ o. said lost (send_answer w r o)) (refused 1)) (refused 1) found

  after_at : numbered n (λ r. numbered to (send_call w r) w) w ≡ numbered to (send_call w j) w
  after_at = numbered_some n j (λ r. numbered to (send_call w r) w) w found

  -- no such receiver
  pub send_nowhere : (e : Refusal) → Found to (Err e) → (a : Answer) → a ≡ refused (number_of e) → Called (kind_of m) (send n to) a (base k) (base k)
  send_nowhere e h a r = none k to e h (send n to) a (λ o. said lost (send_answer w j o)) r answer_at (sym (after_at ∙ numbered_none to e (send_call w j) w h)) refl

  module _ (r : ServerId) (found_r : Found to (Ok r)) (i : ℕ) (x : Server S M) (is : i ≡ place j) (read : x ≡ get_or (vec_items k.servers) i x) where
    abbrev u : State
    u = w.server j

    tests_w : {o : Result Message ℕ} → o ≡ request_answer j r (state_of s x) → o ≡ request_answer j r u
    tests_w h = h ∙ ap (request_answer j r) (sym (seen k j i x is read))

    answer_to : said lost (send_answer w j r) ≡ numbered n (λ r. numbered to (λ o. said lost (send_answer w r o)) (refused 1)) (refused 1)
    answer_to = sym (answer_at ∙ numbered_some to r (λ o. said lost (send_answer w j o)) (refused 1) found_r)

    after_to : send_call w j r ≡ numbered n (λ r. numbered to (send_call w r) w) w
    after_to = sym (after_at ∙ numbered_some to r (send_call w j) w found_r)

    pub send_refused : (a : Answer) (e : ℕ) → a ≡ refused e → Err e ≡ request_answer j r (state_of s x) → Called (kind_of m) (send n to) a (base k) (base k)
    send_refused a e said_a h =
        let t = refused_by u.up (is_leader u.role) (same j r) (append_request j u r) (lost_of p) e (tests_w h) in
        untouched k (send n to) a (said_a ∙ (ap (said lost) t.1 ∙ answer_to))
        (sym (cond-false (u.up && (is_leader u.role && not (same j r))) (posted w (append_request j u r)) w t.0) ∙ after_to) refl

    pub send_done : (l : Message) → Ok l ≡ request_answer j r (state_of s x) → (a : ℕ) (q : List Message) → q ≡ joined p l → a ≡ lost_of p
        → Called (kind_of m) (send n to) (lost a) (base k) (with_parts k (vec_items k.servers) q)
    send_done l h a q hq ha =
        let t = passed_by u.up (is_leader u.role) (same j r) (append_request j u r) l (lost_of p) (tests_w h) in
        posts k (send n to) (lost a) q (ap lost ha ∙ (ap (said lost) t.2 ∙ answer_to))
        (ap (λ z. record { server = w.server; network = z }) (hq ∙ ap (joined p) t.1)
        ∙ (sym (cond-true (u.up && (is_leader u.role && not (same j r))) (posted w (append_request j u r)) w t.0) ∙ after_to)) refl

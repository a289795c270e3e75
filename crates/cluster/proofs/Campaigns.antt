-- A campaign.
use Rattle.std.proofs.Common.{◌≡◌, ℕ, ◌+◌, Bool, true, false, cond, not, ◌&&◌, ltb, List, get_or, set, vec_items, Ok, Err, Result, sym, refl, ap, ◌∙◌}
use Rattle.std.proofs.lemmas.Bool.{cond-true, cond-false}
use Rattle.store.specs.declared.Store.{Ghosts as StoreGhosts}
use Rattle.machine.specs.declared.state_machine.StateMachine.{Ghosts as MachineGhosts}
use Rattle.protocol.specs.declared.ServerId.{ServerId}
use Rattle.protocol.specs.declared.Message.{Message}
use Rattle.protocol.specs.ServerIds.{low}
use Rattle.protocol.specs.State.{Server as State, Core, is_leader, joined, lost_of, with}
use Rattle.protocol.specs.Elections.{last_of_terms, stands, may_campaign, campaigns, vote_request}
use Rattle.protocol.specs.Calls.{campaign, Answer, refused, lost, said, campaign_call, campaign_answer}
use Rattle.node.specs.Meaning.{place}
use Rattle.node.specs.Campaigns.{requests, stand_answer}
use Rattle.server.specs.declared.Server.{Server}
use Rattle.server.specs.Turns.{kind_of, state_of, Turned}
use Rattle.cluster.specs.declared.state.Cluster.{Cluster}
use Rattle.cluster.specs.Called.{Called}
use Rattle.cluster.proofs.Threes.{Found, numbered_some}
use Rattle.cluster.proofs.Links.{base, with_parts, seen, seated}

-- the tests of a campaign in order
abbrev tests : {V : Type 0} → Bool → Bool → Bool → V → Result V ℕ
tests a b d v = cond a (cond b (Err 3) (cond d (Ok v) (Err 4))) (Err 2)

refused_by : {V : Type 0} (a b d : Bool) (v : V) (n e : ℕ) → Err e ≡ tests a b d v → ((a && (not b && d)) ≡ false) × (Err e ≡ tests a b d n)
refused_by false b d v n e h = (refl, cc)
refused_by true true d v n e h = (refl, cc)
refused_by true false false v n e h = (refl, cc)
refused_by true false true v n e h = (cc, cc)

passed_by : {V : Type 0} (a b d : Bool) (v u : V) (n : ℕ) → Ok u ≡ tests a b d v → ((a && (not b && d)) ≡ true) × (u ≡ v) × (Ok n ≡ tests a b d n)
passed_by false b d v u n h = (cc, cc, cc)
passed_by true true d v u n h = (cc, cc, cc)
passed_by true false false v u n h = (cc, cc, cc)
passed_by true false true v u n h = (refl, cc, refl)

module _ {S M : Type 0} {s : StoreGhosts S} {m : MachineGhosts M} (k : Cluster S M s m) (j : ServerId) (i : ℕ) (x : Server S M)
    (is : i ≡ place j) (read : x ≡ get_or (vec_items k.servers) i x) (n : ℕ) (found : Found n (Ok j))
    (y : Server S M) (turned : Turned s m x (campaigns j) y) where
  abbrev p : List Message
  p = vec_items k.network.messages.items

  abbrev w : Core
  w = (base k).core

  abbrev u : State
  u = w.server j

  abbrev net : List Message
  net = joined (joined p (requests j (stands j u)).0) (requests j (stands j u)).1

  goes_w : state_of s y ≡ campaigns j u
  goes_w = turned.goes ∙ ap (campaigns j) (sym (seen k j i x is read))

  tests_w : {r : Result (Message × Message) ℕ} → r ≡ stand_answer j (state_of s x) → r ≡ stand_answer j u
  tests_w h = h ∙ ap (stand_answer j) (sym (seen k j i x is read))

  pub campaign_refused : (a : Answer) (e : ℕ) → a ≡ refused e → Err e ≡ stand_answer j (state_of s x) → Called (kind_of m) (campaign n) a (base k) (with_parts k (set (vec_items k.servers) i y) p)
  campaign_refused a e r h =
      let t = refused_by u.up (is_leader u.role) (ltb u.term last_of_terms) (requests j (stands j u)) (lost_of p + lost_of (joined p (vote_request j (stands j u) (low j)))) e (tests_w h) in
      seated k j i x is read (campaign n) a y p
      (r ∙ (ap (said lost) t.1 ∙ sym (numbered_some n j (λ o. said lost (campaign_answer w o)) (refused 1) found)))
      (ap (λ z. with w j z p) goes_w ∙ (ap (with w j (campaigns j u)) (sym (cond-false (may_campaign u) net p t.0)) ∙ sym (numbered_some n j (campaign_call w) w found)))
      turned.moves refl

  pub campaign_done : (l o : Message) → Ok (l, o) ≡ stand_answer j (state_of s x) → (a b : ℕ) (q q' : List Message)
      → q ≡ joined p l → a ≡ lost_of p → q' ≡ joined q o → b ≡ lost_of q
      → Called (kind_of m) (campaign n) (lost (a + b)) (base k) (with_parts k (set (vec_items k.servers) i y) q')
  campaign_done l o h a b q q' hq ha hq' hb =
      let L = vote_request j (stands j u) (low j) in
      let N : ℕ = lost_of p + lost_of (joined p L) in
      let t = passed_by u.up (is_leader u.role) (ltb u.term last_of_terms) (requests j (stands j u)) (l, o) N (tests_w h) in
      let l₂ : l ≡ L = ap (λ (z : Message × Message). z.0) t.1 in
      let o₂ : o ≡ (requests j (stands j u)).1 = ap (λ (z : Message × Message). z.1) t.1 in
      let q₂ : q ≡ joined p L = hq ∙ ap (joined p) l₂ in
      let e₂ : q' ≡ net = hq' ∙ (ap (joined q) o₂ ∙ ap (λ z. joined z (requests j (stands j u)).1) q₂) in
      let n₂ : a + b ≡ N = ap (λ z. z + b) ha ∙ ap (λ z. lost_of p + z) (hb ∙ ap lost_of q₂) in
      seated k j i x is read (campaign n) (lost (a + b)) y q'
      (ap lost n₂ ∙ (ap (said lost) t.2 ∙ sym (numbered_some n j (λ o. said lost (campaign_answer w o)) (refused 1) found)))
      (ap (λ z. with w j z q') goes_w ∙ (ap (with w j (campaigns j u)) (e₂ ∙ sym (cond-true (may_campaign u) net p t.0)) ∙ sym (numbered_some n j (campaign_call w) w found)))
      turned.moves refl

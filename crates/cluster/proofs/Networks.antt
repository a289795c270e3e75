-- Messages by their positions.
use Rattle.std.proofs.Common.{◌≡◌, ℕ, Bool, true, false, cond, List, vec_items, Some, None, Ok, Err, Result, sym, refl, ap, ◌∙◌}
use Rattle.std.proofs.lemmas.Bool.{cond-true, cond-false}
use Rattle.store.specs.declared.Store.{Ghosts as StoreGhosts}
use Rattle.machine.specs.declared.state_machine.StateMachine.{Ghosts as MachineGhosts}
use Rattle.protocol.specs.declared.Message.{Message}
use Rattle.protocol.specs.State.{Core}
use Rattle.protocol.specs.Calls.{lose, done, refused, said, has_message, without}
use Rattle.server.specs.Turns.{kind_of}
use Rattle.cluster.specs.declared.state.Cluster.{Cluster}
use Rattle.cluster.specs.Called.{Called}
use Rattle.cluster.proofs.Links.{base, with_parts, posts, untouched}

abbrev lost_or : Bool → Result (Unit {0}) ℕ
lost_or b = cond b (Ok tt) (Err 5)

module _ {S M : Type 0} {s : StoreGhosts S} {m : MachineGhosts M} (k : Cluster S M s m) (n : ℕ) where
  abbrev p : List Message
  p = vec_items k.network.messages.items

  abbrev w : Core
  w = (base k).core

  pub lose_none : has_message n p ≡ false → Called (kind_of m) (lose n) (refused 5) (base k) (base k)
  lose_none h = untouched k (lose n) (refused 5) (ap (λ b. said (λ _. done) (lost_or b)) (sym h)) (sym (cond-false (has_message n p) _ w h)) refl

  pub lose_done : has_message n p ≡ true → (q : List Message) → q ≡ without n p → Called (kind_of m) (lose n) done (base k) (with_parts k (vec_items k.servers) q)
  lose_done h q e = posts k (lose n) done q (ap (λ b. said (λ _. done) (lost_or b)) (sym h))
      (ap (λ z. record { server = w.server; network = z }) e ∙ sym (cond-true (has_message n p) _ w h)) refl

-- what is read at a position
pub there : (b : Bool) (l o : Message) → Some l ≡ cond b (Some o) None → (b ≡ true) × (l ≡ o)
there true l o h = (refl, cc)
there false l o h = (cc, cc)

-- A delivery.
use Rattle.std.proofs.Common.{◌≡◌, ℕ, Bool, true, false, cond, ◌&&◌, List, get_or, set, vec_items, Some, None, Ok, Err, Option, Result, sym, refl, ap, ◌∙◌}
use mathlib.Core.Path.{fun_ext}
use Rattle.std.proofs.lemmas.Bool.{cond-true, cond-false, and_from, and_left, and_right}
use Rattle.store.specs.declared.Store.{Ghosts as StoreGhosts}
use Rattle.machine.specs.declared.state_machine.StateMachine.{Ghosts as MachineGhosts}
use Rattle.protocol.specs.declared.ServerId.{ServerId}
use Rattle.protocol.specs.declared.Message.{Message}
use Rattle.protocol.specs.ServerIds.{put}
use Rattle.protocol.specs.State.{Server as State, Core, joined_some, lost_some, change, with}
use Rattle.protocol.specs.Elections.{caught_up}
use Rattle.protocol.specs.Rules.{hears, replies, moved}
use Rattle.protocol.specs.Calls.{deliver, Answer, refused, lost, said, has_message, message_at, left}
use Rattle.protocol.proofs.Shelf.{put_all}
use Rattle.node.specs.Meaning.{place}
use Rattle.server.specs.declared.Server.{Server}
use Rattle.server.specs.Turns.{kind_of, state_of, states_of, Turned}
use Rattle.cluster.specs.declared.state.Cluster.{Cluster}
use Rattle.cluster.specs.Called.{Called}
use Rattle.cluster.proofs.Networks.{there}
use Rattle.cluster.proofs.Links.{base, with_parts, seen, seated, untouched, moved_same}

abbrev heard_by : Message → State → State
heard_by l s = hears (caught_up l.term s) l.from l.to l.term l.body

abbrev replied_by : Message → State → Option Message
replied_by l s = replies (caught_up l.term s) l.from l.to l.term l.body

abbrev tests : Bool → Bool → ℕ → Result ℕ ℕ
tests a b n = cond a (cond b (Ok n) (Err 2)) (Err 5)

-- the answer and the core after it, of the message l
abbrev tells : Core → ℕ → Bool → Message → Result ℕ ℕ
tells w n keep l = tests (has_message n w.network) (w.server l.to).up (lost_some (left keep n w.network) (replied_by l (w.server l.to)))

abbrev leaves : Core → ℕ → Bool → Message → Core
leaves w n keep l = cond (has_message n w.network && (w.server l.to).up)
    (with w l.to (heard_by l (w.server l.to)) (joined_some (left keep n w.network) (replied_by l (w.server l.to)))) w

change_same : (w : Core) (j : ServerId) (s : State) → w.server j ≡ s → change w j s ≡ w
change_same w j s e =
    let same_at : (k : ServerId) → put w.server j (w.server j) k ≡ w.server k = put_all w.server j (w.server j) (λ k x. x ≡ w.server k) refl (λ k n. refl) in
    ap (change w j) (sym e) ∙ ap (λ (f : ServerId → State). record { server = f; network = w.network }) (fun_ext same_at)

module _ {S M : Type 0} {s : StoreGhosts S} {m : MachineGhosts M} (k : Cluster S M s m) (n : ℕ) (keep : Bool) where
  abbrev p : List Message
  p = vec_items k.network.messages.items

  abbrev w : Core
  w = (base k).core

  pub deliver_none : has_message n p ≡ false → (a : Answer) → a ≡ refused 5 → Called (kind_of m) (deliver n keep) a (base k) (base k)
  deliver_none absent a r =
      let l = message_at n p in
      untouched k (deliver n keep) a
      (r ∙ ap (said lost) (sym (cond-false (has_message n p) (cond (w.server l.to).up (Ok (lost_some (left keep n p) (replied_by l (w.server l.to)))) (Err 2)) (Err 5) absent)))
      (sym (cond-false (has_message n p && (w.server l.to).up) _ w (and_left (has_message n p) (w.server l.to).up absent))) refl

  module _ (l : Message) (found : Some l ≡ cond (has_message n p) (Some (message_at n p)) None)
      (i : ℕ) (x : Server S M) (is : i ≡ place l.to) (read : x ≡ get_or (vec_items k.servers) i x) where
    abbrev u : State
    u = w.server l.to

    see : u ≡ state_of s x
    see = seen k l.to i x is read

    has : has_message n p ≡ true
    has = (there (has_message n p) l (message_at n p) found).0

    is_it : l ≡ message_at n p
    is_it = (there (has_message n p) l (message_at n p) found).1

    pub deliver_down : (y : Server S M) → y ≡ x → (state_of s x).up ≡ false → Called (kind_of m) (deliver n keep) (refused 2) (base k) (with_parts k (set (vec_items k.servers) i y) p)
    deliver_down y ey h =
        let down : u.up ≡ false = ap (λ (z : State). z.up) see ∙ h in
        let vy : state_of s y ≡ state_of s x = ap (state_of s) ey in
        seated k l.to i x is read (deliver n keep) (refused 2) y p
        (ap (said lost) (let t : Err 2 ≡ tells w n keep l = rw (has, down) refl in t) ∙ ap (λ z. said lost (tells w n keep z)) is_it)
        (change_same w l.to (state_of s y) (see ∙ sym vy) ∙ (sym (cond-false (has_message n p && u.up) _ w (and_right (has_message n p) u.up down)) ∙ ap (leaves w n keep) is_it))
        (ap (states_of m) ey ∙ (sym (moved_same (kind_of m) (state_of s x) (states_of m x)) ∙ ap (λ z. moved (kind_of m) (state_of s x) z (states_of m x)) (sym vy))) refl

    pub deliver_done : (y : Server S M) (o : Option Message) (a : ℕ) (q q' : List Message) → (state_of s x).up ≡ true
        → Turned s m x (heard_by l) y → o ≡ replied_by l (state_of s x)
        → q ≡ left keep n p → q' ≡ joined_some q o → a ≡ lost_some q o
        → Called (kind_of m) (deliver n keep) (lost a) (base k) (with_parts k (set (vec_items k.servers) i y) q')
    deliver_done y o a q q' h turned ho hq hq' ha =
        let up : u.up ≡ true = ap (λ (z : State). z.up) see ∙ h in
        let o₂ : o ≡ replied_by l u = ho ∙ ap (replied_by l) (sym see) in
        let q₂ : q' ≡ joined_some (left keep n p) (replied_by l u) = hq' ∙ (ap (joined_some q) o₂ ∙ ap (λ z. joined_some z (replied_by l u)) hq) in
        let a₂ : a ≡ lost_some (left keep n p) (replied_by l u) = ha ∙ (ap (lost_some q) o₂ ∙ ap (λ z. lost_some z (replied_by l u)) hq) in
        let N : ℕ = lost_some (left keep n p) (replied_by l u) in
        seated k l.to i x is read (deliver n keep) (lost a) y q'
        (ap lost a₂ ∙ (ap (said lost) (let t : Ok N ≡ tells w n keep l = rw (has, up) refl in t) ∙ ap (λ z. said lost (tells w n keep z)) is_it))
        (ap (λ z. with w l.to z q') (turned.goes ∙ ap (heard_by l) (sym see)) ∙ (ap (with w l.to (heard_by l u)) q₂
        ∙ (sym (cond-true (has_message n p && u.up) _ w (and_from (has_message n p) u.up has up)) ∙ ap (leaves w n keep) is_it)))
        turned.moves refl

-- A run keeps the invariant: one history for each of its moments, each grown from those before, and the machines' states beside.
use Rattle.std.proofs.Common.{◌≡◌, ℕ, zero, suc, ◌≤◌, [], ◌∷◌, take, refl, arith}
use Rattle.protocol.specs.ServerIds.{ServerId}
use Rattle.protocol.specs.State.{Machine, Cluster, core_opening, opening}
use Rattle.protocol.specs.Calls.{Call, Answer, after, core_after}
use Rattle.protocol.specs.Runs.{History, following, RunFrom, Run}
use Rattle.protocol.proofs.History.{Hist, Grown, Inv}
use Rattle.protocol.proofs.Frame.{grown_refl}
use Rattle.protocol.proofs.Next.{grown_trans}
use Rattle.protocol.proofs.After.{empty, opening_inv, after_next}
use Rattle.protocol.proofs.Moves.{after_moves}
use Rattle.protocol.proofs.States.{StatesOk, moved_ok, blank_ok}

-- each machine has the states of its server's applied edits
pub record AllStates {X : Type 0} (M : Machine X) (k : Cluster X) : Type 0 where
  pub each : (j : ServerId) → StatesOk M (k.core.server j) (k.states j)

pub record Trace {X : Type 0} (M : Machine X) (g : Hist) (k : Cluster X) (h : History) : Type 0 where
  pub hist : ℕ → Hist
  pub from : (m : ℕ) → Grown g (hist m)
  pub inv : (m : ℕ) → Inv (hist m) (following M k (take m h)).core
  pub grown : (m n : ℕ) → m ≤ n → Grown (hist m) (hist n)
  pub states : (m : ℕ) → AllStates M (following M k (take m h))

module _ {X : Type 0} (M : Machine X) {g g' : Hist} {k : Cluster X} (x : Call × Answer) {h : History} (i : Inv g k.core) (o : AllStates M k) (G : Grown g g')
    (t : Trace M g' (after M k x.0) h) where
  cons_hist : ℕ → Hist
  cons_hist zero = g
  cons_hist (suc m) = t.hist m

  cons_from : (m : ℕ) → Grown g (cons_hist m)
  unfolding cons_hist
  cons_from zero = grown_refl g
  cons_from (suc m) = grown_trans G (t.from m)

  cons_inv : (m : ℕ) → Inv (cons_hist m) (following M k (take m (x ∷ h))).core
  unfolding cons_hist
  cons_inv zero = i
  cons_inv (suc m) = t.inv m

  cons_grown : (m n : ℕ) → m ≤ n → Grown (cons_hist m) (cons_hist n)
  unfolding cons_hist
  cons_grown zero n l = cons_from n
  cons_grown (suc m) zero l = absurd (omega arith)
  cons_grown (suc m) (suc n) l = t.grown m n (omega arith)

  cons_states : (m : ℕ) → AllStates M (following M k (take m (x ∷ h)))
  cons_states zero = o
  cons_states (suc m) = t.states m

  cons : Trace M g k (x ∷ h)
  cons = record { hist = cons_hist; from = cons_from; inv = cons_inv; grown = cons_grown; states = cons_states }

take_nil : (m : ℕ) → take {A = Call × Answer} m [] ≡ []
take_nil zero = refl
take_nil (suc m) = refl

trace : {X : Type 0} (M : Machine X) (h : History) (g : Hist) (k : Cluster X) → RunFrom M k h → Inv g k.core → AllStates M k → Trace M g k h
trace M [] g k r i o = record {
  hist = λ m. g;
  from = λ m. grown_refl g;
  inv = λ m. rw (take_nil m) i;
  grown = λ m n l. grown_refl g;
  states = λ m. rw (take_nil m) o;
}
trace M (x ∷ h) g k r i o =
    let n = after_next i x.0 r.0 in
    let s : AllStates M (after M k x.0) = record { each = λ j. moved_ok M (k.core.server j) ((core_after k.core x.0).server j) (k.states j) ((after_moves i x.0).each j) (n.inv.each j).machine.within (o.each j) } in
    cons M x i o n.grown (trace M h n.hist (after M k x.0) r.2 n.inv s)

pub run_trace : {X : Type 0} (M : Machine X) (h : History) → Run M h → Trace M empty (opening M) h
run_trace M h r = trace M h empty (opening M) r opening_inv (record { each = λ j. blank_ok M (core_opening.server j) refl })

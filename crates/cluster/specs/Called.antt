-- What a call promises.
use Rattle.std.specs.Prelude.{◌≡◌, [], ◌∷◌, ◌++◌}
use Rattle.store.specs.declared.Store.{Ghosts as StoreGhosts}
use Rattle.machine.specs.declared.state_machine.StateMachine.{Ghosts as MachineGhosts}
use Rattle.protocol.specs.State.{Machine, Cluster as Model, opening}
use Rattle.protocol.specs.Calls.{Call, Answer, answer, after, Allowed}
use Rattle.protocol.specs.Runs.{History, Run, following}
use Rattle.protocol.specs.Promises.{Promises}
use Rattle.server.specs.Turns.{kind_of}
use Rattle.cluster.specs.declared.state.Cluster.{Cluster}
use Rattle.cluster.specs.Meaning.{cluster_of}

-- The rules give the answer and the cluster after it. So where a run led to the cluster before, the run goes on with this call
-- and this answer to the cluster after, and keeps every promise.
pub record Called {X : Type 0} (K : Machine X) (c : Call) (a : Answer) (before later : Model X) : Type 0 where
  pub answers : a ≡ answer K before c
  pub leaves : later ≡ after K before c
  pub allowed : Allowed before.core c
  pub runs : (h : History) → Run K h → before ≡ following K (opening K) h
      → Run K (h ++ (c, a) ∷ []) × (later ≡ following K (opening K) (h ++ (c, a) ∷ [])) × Promises K (h ++ (c, a) ∷ [])

-- The same of a cluster that runs: what is meant by its states is what the bounds of its stores and machines say.
abbrev pub Calls : {S M : Type 0} {s : StoreGhosts S} {m : MachineGhosts M} → Call → Answer → Cluster S M s m → Cluster S M s m → Type 0
Calls {m = m} c a before later = Called (kind_of m) c a (cluster_of before) (cluster_of later)

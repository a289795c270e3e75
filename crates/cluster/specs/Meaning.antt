-- What a cluster means: one of the protocol's.
use Rattle.std.specs.Prelude.{List, [], ◌∷◌, map, vec_items}
use Rattle.store.specs.declared.Store.{Ghosts as StoreGhosts}
use Rattle.machine.specs.declared.state_machine.StateMachine.{Ghosts as MachineGhosts}
use Rattle.protocol.specs.declared.ServerId.TheVariants.{One}
use Rattle.protocol.specs.declared.Message.{Message}
use Rattle.protocol.specs.State.{Server as State, Machine, Cluster as Model, core_opening}
use Rattle.node.specs.Meaning.{of3}
use Rattle.server.specs.Turns.{kind_of, state_of, states_of}
use Rattle.cluster.specs.declared.state.Cluster.{Cluster}

-- a server as it opens
abbrev pub fresh : State
fresh = core_opening.server One

-- servers of any kind A by their states, and messages
abbrev pub model : {X A : Type 0} → Machine X → (A → State) → (A → List X) → List A → List Message → Model X
model K view states xs p = record {
  core = record { server = of3 fresh (map view xs); network = p };
  states = of3 (K.opening ∷ []) (map states xs);
}

abbrev pub cluster_of : {S M : Type 0} {s : StoreGhosts S} {m : MachineGhosts M} → Cluster S M s m → Model m.State
cluster_of {s = s} {m = m} c = model (kind_of m) (state_of s) (states_of m) (vec_items c.servers) (vec_items c.network.messages.items)

-- A turn of one server: it goes as the protocol says, and its machine moves with it.
use Rattle.std.specs.Prelude.{◌≡◌, ℕ, ◌-◌, min, cond, not, ◌&&◌, List, [], ◌∷◌, nat_lt}
use Rattle.store.specs.declared.Store.{Ghosts as StoreGhosts}
use Rattle.machine.specs.declared.state_machine.StateMachine.{Ghosts as MachineGhosts}
use Rattle.machine.specs.States.{applied, undone_times}
use Rattle.protocol.specs.State.{Server as State, Machine, at}
use Rattle.protocol.specs.Rules.{settled_times, moved}
use Rattle.node.specs.Meaning.{server_of}
use Rattle.server.specs.declared.Server.{Server}
use Rattle.server.specs.declared.following.Before.{Before}

abbrev pub before_of : State → Before
before_of s = record { up = s.up; applied = s.applied; commit = s.commit }

module _ {X : Type 0} (K : Machine X) where
  -- from `was` applied entries to those of s
  abbrev pub advanced : ℕ → State → List X → List X
  advanced was s ms =
      cond (nat_lt was s.applied) (applied K.opening K.next (at s.log was).edit ms) (undone_times (was - s.applied) ms)

  -- the protocol's move of a machine, from the three things that it reads of the server before
  abbrev pub moved_from : Before → State → List X → List X
  moved_from b s ms =
      cond (b.up && not s.up) (K.opening ∷ []) (settled_times (min s.applied s.commit - min b.applied b.commit) (advanced b.applied s ms))

-- what the trait says of a kind of machine
abbrev pub kind_of : {M : Type 0} → (m : MachineGhosts M) → Machine m.State
kind_of m = record { opening = m.opening; next = m.next; cell = m.cell }

-- the protocol's server, and the states of the machine beside it
abbrev pub state_of : {S M : Type 0} → StoreGhosts S → Server S M → State
state_of s server = server_of s server.node

abbrev pub states_of : {S M : Type 0} → (m : MachineGhosts M) → Server S M → List m.State
states_of m server = m.states server.machine

pub record Turned {S M : Type 0} (s : StoreGhosts S) (m : MachineGhosts M) (before : Server S M) (f : State → State) (after : Server S M) : Type 0 where
  pub goes : state_of s after ≡ f (state_of s before)
  pub moves : states_of m after ≡ moved (kind_of m) (state_of s before) (state_of s after) (states_of m before)

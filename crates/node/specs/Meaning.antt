-- What a node means: one of the protocol's servers.
use Rattle.std.specs.Prelude.{◌≡◌, ℕ, false, List, slice_index_or}
use Rattle.store.specs.declared.Store.{Ghosts}
use Rattle.protocol.specs.declared.ServerId.{ServerId}
use Rattle.protocol.specs.declared.ServerId.TheVariants.{One, Two, Three}
use Rattle.protocol.specs.State.{Server}
use Rattle.node.specs.declared.Node.{Node}
use Rattle.node.specs.declared.Progress.{Progress}

-- where a list of three has what belongs to a server
abbrev pub place : ServerId → ℕ
place One = 0
place Two = 1
place Three = 2

abbrev pub of3 : {A : Type 0} → A → List A → ServerId → A
of3 d xs k = slice_index_or xs (place k) d

-- the progress with a server of which nothing is known
abbrev pub unknown : Progress
unknown = record { next = 0; matched = 0 }

module _ {S : Type 0} (s : Ghosts S) where
  abbrev pub server_of : Node S → Server
  server_of n = record {
    up = n.up;
    term = (s.meaning n.store).term;
    vote = (s.meaning n.store).vote;
    log = (s.meaning n.store).entries;
    durable = (s.meaning n.store).durable;
    role = n.role;
    voters = of3 false n.voters;
    next = λ k. (of3 unknown n.progress k).next;
    match = λ k. (of3 unknown n.progress k).matched;
    commit = n.commit;
    applied = n.applied;
  }

  -- the node goes from n to n' as f says
  abbrev pub Goes : Node S → (Server → Server) → Node S → Type 0
  Goes n f n' = server_of n' ≡ f (server_of n)

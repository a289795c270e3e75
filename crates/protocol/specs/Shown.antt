-- Servers, roles and standings as a printed line shows them.
use Rattle.std.specs.Prelude.{ℕ, cond, List, ◌∷◌, ◌++◌, codes, decimal}
use Rattle.protocol.specs.declared.Role.{Role}
use Rattle.protocol.specs.declared.Role.TheVariants.{Follower, Candidate, Leader}
use Rattle.protocol.specs.declared.Standing.{Standing}
use Rattle.protocol.specs.declared.Standing.TheVariants.{Kept, Gone, Open, Unknown}
use Rattle.protocol.specs.declared.Status.{Status}

abbrev pub role_shown : Role → List ℕ
role_shown Follower = codes "f"
role_shown Candidate = codes "c"
role_shown Leader = codes "l"

abbrev pub standing_shown : Standing → List ℕ
standing_shown Kept = codes "kept"
standing_shown Gone = codes "gone"
standing_shown Open = codes "open"
standing_shown Unknown = codes "unknown"

-- A server's role, or d where it is down.
abbrev pub state_shown : Status → List ℕ
state_shown s = cond s.up (role_shown s.role) (codes "d")

-- term/role/length/durable/commit/applied; 47 is the slash.
abbrev pub server_shown : Status → List ℕ
server_shown s = decimal s.term ++ (47 ∷ (state_shown s ++ (47 ∷ (decimal s.length ++ (47 ∷ (decimal s.durable ++ (47 ∷ (decimal s.commit ++ (47 ∷ decimal s.applied)))))))))

-- Runs: the opening, then calls with their answers.
use Rattle.std.specs.Prelude.{◌≡◌, ℕ, List, [], ◌∷◌, ◌++◌, take}
use Rattle.protocol.specs.State.{Machine, Cluster, opening}
use Rattle.protocol.specs.Calls.{Call, Answer, after, answer, Allowed}

-- calls, each with the answer that it got, in order
abbrev pub History : Type 0
History = List (Call × Answer)

-- the cluster k after the calls of a history
abbrev pub following : {X : Type 0} → Machine X → Cluster X → History → Cluster X
following M k [] = k
following M k (x ∷ h) = following M (after M k x.0) h

-- each call of h, made of k and what became of it, is allowed and was answered as the rules say
abbrev pub RunFrom : {X : Type 0} → Machine X → Cluster X → History → Type 0
RunFrom M k [] = Unit {0}
RunFrom M k (x ∷ h) = Allowed k.core x.0 × (x.1 ≡ answer M k x.0) × RunFrom M (after M k x.0) h

-- A run. Refused calls are in it as themselves.
abbrev pub Run : {X : Type 0} → Machine X → History → Type 0
Run M h = RunFrom M (opening M) h

-- The moments of a run: the opening, and the end of each call. This is the cluster after the first m calls.
abbrev pub moment : {X : Type 0} → Machine X → History → ℕ → Cluster X
moment M h m = following M (opening M) (take m h)

-- A run goes on with any call that is allowed at its end, answered as the rules say, and its last moment is then the cluster after that call.
abbrev pub GoesOn : Type 0 → Type 0
GoesOn X = (M : Machine X) (h : History) (c : Call) → let k = following M (opening M) h in
    let longer : History = h ++ (c, answer M k c) ∷ [] in
    Run M h → Allowed k.core c → Run M longer × (following M (opening M) longer ≡ after M k c)

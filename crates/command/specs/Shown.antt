-- The line that is printed.
use Rattle.std.specs.Prelude.{ℕ, List, [], ◌∷◌, ◌++◌, decimal, Some, None, Option}
use Rattle.protocol.specs.declared.Status.{Status}
use Rattle.protocol.specs.Shown.{standing_shown, server_shown}
use Rattle.command.specs.declared.types.Found.{Found}
use Rattle.command.specs.declared.types.Found.TheVariants.{Count, Word, Cell}
use Rattle.command.specs.declared.reply.Reply.{Reply}

-- What the call found.
abbrev pub found_shown : Found → List ℕ
found_shown (Count n) = decimal n
found_shown (Word s) = standing_shown s
found_shown (Cell tenths) = decimal tenths

-- One space, and what the call found, if it found something; 32 is the space.
abbrev pub ending_shown : Option Found → List ℕ
ending_shown None = []
ending_shown (Some found) = 32 ∷ found_shown found

-- One space and a server, for each of them, before the rest.
abbrev pub servers_before : List ℕ → List Status → List ℕ
servers_before rest [] = rest
servers_before rest (s ∷ ss) = 32 ∷ (server_shown s ++ servers_before rest ss)

-- The answer, the three servers, and the ending.
abbrev pub shown : Reply → List ℕ
shown r = decimal r.number ++ servers_before (ending_shown r.found) r.servers

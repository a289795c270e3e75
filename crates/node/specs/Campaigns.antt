-- What a campaign answers at its own server: its two vote requests, the lower receiver first.
use Rattle.std.specs.Prelude.{ℕ, cond, Ok, Err, Result, nat_lt}
use Rattle.protocol.specs.declared.ServerId.{ServerId}
use Rattle.protocol.specs.declared.Message.{Message}
use Rattle.protocol.specs.ServerIds.{low, high}
use Rattle.protocol.specs.State.{Server, is_leader}
use Rattle.protocol.specs.Elections.{last_of_terms, stands, vote_request}

abbrev pub requests : ServerId → Server → Message × Message
requests j s = (vote_request j s (low j), vote_request j s (high j))

abbrev pub stand_answer : ServerId → Server → Result (Message × Message) ℕ
stand_answer j s =
    cond s.up (cond (is_leader s.role) (Err 3) (cond (nat_lt s.term last_of_terms) (Ok (requests j (stands j s))) (Err 4))) (Err 2)

-- A server at a glance.
use Rattle.std.specs.Prelude.{length}
use Rattle.protocol.specs.State.{Server as State}
use Rattle.protocol.specs.declared.Status.{Status}

abbrev pub status_of : State → Status
status_of s = record { term = s.term; up = s.up; role = s.role; length = length s.log; durable = s.durable; commit = s.commit; applied = s.applied }

use Rattle.safety.proofs.promises_hold.Goals as goal
use Rattle.protocol.proofs.Tickets.{safe, goes_on}

pub returns : goal.returns
returns g c = record { safe = safe _; on = goes_on _ }

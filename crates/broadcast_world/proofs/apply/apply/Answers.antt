use Rattle.std.proofs.Common.{rules}
use Rattle.broadcast_world.proofs.apply.apply.Goals as goal

pub returns-in-Deliver-clause-packets : goal.returns-in-Deliver-clause-packets
returns-in-Deliver-clause-packets g c = search rules

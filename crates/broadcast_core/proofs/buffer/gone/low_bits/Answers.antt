use Rattle.std.proofs.Common.{rules}
use Rattle.broadcast_core.proofs.Gone.{marked}
use Rattle.broadcast_core.proofs.buffer.gone.low_bits.Goals as goal

pub loop-ticket-preserved : goal.loop-ticket-preserved
loop-ticket-preserved c = (search rules, marked c.args.tickets.now c.loop-ticket.ticket-index c.loop-ticket.seen c.loop-ticket.invariant.0 c.loop-ticket.invariant.1)

use Rattle.std.proofs.Common.{◌≡◌, length}
use Rattle.broadcast_core.proofs.Gone.{Marks}
use Rattle.broadcast_core.proofs.buffer.gone.low_bits.Given as goal

abbrev pub invariant-loop-ticket : goal.invariant-loop-ticket
invariant-loop-ticket l = (length l.seen ≡ 1024) × Marks l.tickets l.ticket-index l.seen

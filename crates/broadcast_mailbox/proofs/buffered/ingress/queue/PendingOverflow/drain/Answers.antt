use Rattle.std.proofs.Common.{rules}
use Rattle.broadcast_mailbox.proofs.buffered.ingress.queue.PendingOverflow.drain.Goals as goal

pub returns : goal.returns
returns g c = search rules

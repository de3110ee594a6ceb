use Rattle.std.proofs.Common.{rules}
use Rattle.broadcast_mailbox.proofs.buffered.ingress.queue.Queue.close.Goals as goal

pub returns-clause-after : goal.returns-clause-after
returns-clause-after g c = search rules

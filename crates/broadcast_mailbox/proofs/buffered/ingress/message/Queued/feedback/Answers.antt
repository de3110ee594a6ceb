use Rattle.std.proofs.Common.{rules}
use Rattle.broadcast_mailbox.proofs.buffered.ingress.message.Queued.feedback.Goals as goal

pub returns-in-Overflow : goal.returns-in-Overflow
returns-in-Overflow g = search rules

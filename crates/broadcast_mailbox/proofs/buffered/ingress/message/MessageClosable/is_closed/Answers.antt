use Rattle.std.proofs.Common.{rules}
use Rattle.broadcast_mailbox.proofs.buffered.ingress.message.MessageClosable.is_closed.Goals as goal

pub returns-in-Broadcast : goal.returns-in-Broadcast
returns-in-Broadcast g c = search rules

use Rattle.std.proofs.Common.{rules}
use Rattle.broadcast_mailbox.proofs.broadcaster.Feedback.accepted.Goals as goal

pub returns-in-Closed : goal.returns-in-Closed
returns-in-Closed g = search rules

use Rattle.broadcast_mailbox.proofs.TicketRuns.{IsLawful-Runs}
use Rattle.broadcast_mailbox.proofs.buffered.ingress.shared.ticket_law.Goals as goal

pub returns : goal.returns
returns g c = IsLawful-Runs g.T.Closable.may_answer

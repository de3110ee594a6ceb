use Rattle.std.proofs.Common.{ap, ◌∙◌, sym, ◌+◌}
use Rattle.broadcast_mailbox.specs.Account.{counted_of}
use Rattle.broadcast_mailbox.specs.Attended.{ready}
use Rattle.engine_io.proofs.Counting.{counted-given}
use Rattle.engine_io.proofs.requests.IngressIncomingRequestsIncoming.poll_next.Goals as goal

pub returns-clause-tells : goal.returns-clause-tells
returns-clause-tells g c = λ requests told.
    c.poll_request.ensures.taken ∙ ap (λ n. n + counted_of (ready c.poll_request.result)) told ∙ sym (counted-given requests c.poll_request.result)

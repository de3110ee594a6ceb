use Rattle.std.proofs.Common.{inl}
use Rattle.engine_io.proofs.Staying.{may_stay-all}
use Rattle.engine_io.proofs.requests.IngressIncomingRequestsIncoming.take_closed.Goals as goal

pub returns-clause-only_if : goal.returns-clause-only_if
returns-clause-only_if g c = λ told request. inl (may_stay-all (λ responder. tt) request)

use Rattle.engine_io.proofs.Counting.{refusals-told}
use Rattle.engine_io.proofs.requests.IngressIncomingRequestsIncoming.tell_outcome.Goals as goal

pub returns-clause-outcomes : goal.returns-clause-outcomes
returns-clause-outcomes g c = λ outcomes within.
    refusals-told outcomes c.args.self.now.refused c.tell_outcome.new.self.refused c.args.self.now.undecided c.args.refused c.tell_outcome.ensures.refused within

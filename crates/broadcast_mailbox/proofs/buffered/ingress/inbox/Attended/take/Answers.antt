use Rattle.std.proofs.Common.{ap, arith, ◌∙◌}
use Rattle.broadcast_mailbox.specs.Account.{counted_of}
use Rattle.broadcast_mailbox.proofs.Counted.{Takes-counted, Takes-next}
use Rattle.broadcast_mailbox.proofs.Opening.{Takes-open}
use Rattle.broadcast_mailbox.proofs.buffered.ingress.inbox.Attended.take.Goals as goal

pub take-requires-clause-waited : goal.take-requires-clause-waited
take-requires-clause-waited g c =
    let took = c.take_request-request.ensures in
    omega (arith, Takes-counted g.T.Closable.may_answer c.args.self.now.inbox c.take_request-request.result.0 took.0 c.take_request-request.new.self took.1, took.2, ap counted_of c.in_ok-request.was, c.args.self.now.counted)

pub invariant_of-self-2-clause-counted : goal.invariant_of-self-2-clause-counted
invariant_of-self-2-clause-counted g c =
    let took = c.take_request-request.ensures in
    omega (arith, Takes-counted g.T.Closable.may_answer c.args.self.now.inbox c.take_request-request.result.0 took.0 c.take_request-request.new.self took.1, took.2, ap counted_of c.in_ok-request.was, c.args.self.now.counted, c.take.ensures.waiting)

pub invariant_of-self-2-clause-drawn : goal.invariant_of-self-2-clause-drawn
invariant_of-self-2-clause-drawn g c =
    let took = c.take_request-request.ensures in
    omega (arith, Takes-next g.T.Closable.may_answer c.args.self.now.inbox c.take_request-request.result.0 took.0 c.take_request-request.new.self took.1, c.take.ensures.accepted, c.args.self.now.drawn)

pub take-requires-clause-skips_none : goal.take-requires-clause-skips_none
take-requires-clause-skips_none g c = λ only.
    let took = c.take_request-request.ensures in
    took.2 ∙ (Takes-open g.T.Named.stays_open g.T.Closable.may_answer g.met.T.Queueable.is_open c.args.self.now.inbox c.take_request-request.result.0 took.0 c.take_request-request.new.self took.1 (c.args.self.now.open only)).1

pub invariant_of-self-2-clause-open : goal.invariant_of-self-2-clause-open
invariant_of-self-2-clause-open g c = λ only.
    let took = c.take_request-request.ensures in
    (Takes-open g.T.Named.stays_open g.T.Closable.may_answer g.met.T.Queueable.is_open c.args.self.now.inbox c.take_request-request.result.0 took.0 c.take_request-request.new.self took.1 (c.args.self.now.open only)).0

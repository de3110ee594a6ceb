use Rattle.std.proofs.Common.{false, arith}
use Rattle.broadcast_mailbox.proofs.Counted.{Enqueues-Counts}
use Rattle.broadcast_mailbox.proofs.Opening.{Enqueues-open}
use Rattle.broadcast_mailbox.proofs.buffered.ingress.inbox.Attended.enqueue.Goals as goal

pub invariant_of-self-clause-counted : goal.invariant_of-self-clause-counted
invariant_of-self-clause-counted g c =
    let counts = Enqueues-Counts g.T.Closable.may_answer c.args.self.now.inbox c.args.message false c.enqueue.result c.enqueue.new.self c.enqueue.ensures.step in
    omega (arith, counts.waits, c.args.self.now.counted)

pub invariant_of-self-clause-drawn : goal.invariant_of-self-clause-drawn
invariant_of-self-clause-drawn g c =
    let counts = Enqueues-Counts g.T.Closable.may_answer c.args.self.now.inbox c.args.message false c.enqueue.result c.enqueue.new.self c.enqueue.ensures.step in
    omega (arith, counts.next, c.args.self.now.drawn)

pub invariant_of-self-clause-open : goal.invariant_of-self-clause-open
invariant_of-self-clause-open g c = λ only.
    Enqueues-open g.T.Named.stays_open g.T.Closable.may_answer g.met.T.Queueable.is_open c.args.self.now.inbox c.args.message false c.enqueue.result c.enqueue.new.self c.enqueue.ensures.step (λ never. absurd cc) (c.args.self.now.open only)

use Rattle.std.proofs.Common.{arith}
use Rattle.broadcast_mailbox.specs.Account.{is_accepted}
use Rattle.broadcast_mailbox.proofs.Counted.{Enqueues-Counts, Enqueues-few, one_if-and, one_if-queued}
use Rattle.broadcast_mailbox.proofs.Opening.{Enqueues-open, Enqueues-unskipped}
use Rattle.broadcast_mailbox.proofs.buffered.ingress.inbox.Attended+T+Books+A+K+V+D.enqueue_as.Goals as goal

pub count-requires-clause-small : goal.count-requires-clause-small
count-requires-clause-small g c =
    let old = c.args.self.now in
    Enqueues-few g.T.Closable.may_answer old.inbox c.args.message c.args.counted c.enqueue_as-queued.result c.enqueue_as-queued.new.self old.account.accepted.total c.enqueue_as-queued.ensures old.drawn old.few

pub invariant_of-self-clause-counted : goal.invariant_of-self-clause-counted
invariant_of-self-clause-counted g c =
    let counts = Enqueues-Counts g.T.Closable.may_answer c.args.self.now.inbox c.args.message c.args.counted c.enqueue_as-queued.result c.enqueue_as-queued.new.self c.enqueue_as-queued.ensures in
    omega (arith, counts.waits, c.args.self.now.counted, c.count.ensures.waiting)

pub invariant_of-self-clause-drawn : goal.invariant_of-self-clause-drawn
invariant_of-self-clause-drawn g c =
    let counts = Enqueues-Counts g.T.Closable.may_answer c.args.self.now.inbox c.args.message c.args.counted c.enqueue_as-queued.result c.enqueue_as-queued.new.self c.enqueue_as-queued.ensures in
    omega (arith, counts.next, c.args.self.now.drawn, c.count.ensures.accepted, one_if-and c.args.counted (is_accepted c.enqueue_as-queued.result))

pub invariant_of-self-clause-accepted : goal.invariant_of-self-clause-accepted
invariant_of-self-clause-accepted g c =
    omega (arith, c.args.self.now.accepted, c.count.ensures.accepted, c.count.ensures.waiting, one_if-queued c.args.counted c.enqueue_as-queued.result)

pub invariant_of-self-clause-few : goal.invariant_of-self-clause-few
invariant_of-self-clause-few g c =
    let old = c.args.self.now in
    let few = Enqueues-few g.T.Closable.may_answer old.inbox c.args.message c.args.counted c.enqueue_as-queued.result c.enqueue_as-queued.new.self old.account.accepted.total c.enqueue_as-queued.ensures old.drawn old.few in
    omega (arith, few, c.count.ensures.accepted, one_if-and c.args.counted (is_accepted c.enqueue_as-queued.result))

pub count-requires-clause-open : goal.count-requires-clause-open
count-requires-clause-open g c = λ only counted.
    Enqueues-unskipped g.T.Named.stays_open g.T.Closable.may_answer g.met.T.Queueable.is_open c.args.self.now.inbox c.args.message c.args.counted c.enqueue_as-queued.result c.enqueue_as-queued.new.self c.enqueue_as-queued.ensures (c.requires only counted)

pub invariant_of-self-clause-open : goal.invariant_of-self-clause-open
invariant_of-self-clause-open g c = λ only.
    Enqueues-open g.T.Named.stays_open g.T.Closable.may_answer g.met.T.Queueable.is_open c.args.self.now.inbox c.args.message c.args.counted c.enqueue_as-queued.result c.enqueue_as-queued.new.self c.enqueue_as-queued.ensures (c.requires only) (c.args.self.now.open only)

use Rattle.std.proofs.Common.{ap, arith}
use Rattle.broadcast_mailbox.specs.Mailbox.{count_taken}
use Rattle.broadcast_mailbox.proofs.Refilling.{Pops-length, Pops-next}
use Rattle.broadcast_mailbox.proofs.buffered.ingress.inbox.Inbox.take_request.Goals as goal

pub overflow_add-self-2 : goal.overflow_add-self-2
overflow_add-self-2 g c =
    let step = c.pop-popped.ensures.step in
    let one = ap count_taken c.in-Some.is in
    omega (arith, Pops-length g.T.Closable.may_answer c.self.inside.queue c.pop-popped.result.0 step.0 c.pop-popped.new.self step.1, Pops-next g.T.Closable.may_answer c.self.inside.queue c.pop-popped.result.0 step.0 c.pop-popped.new.self step.1, step.2.all, c.pop-popped.ensures.drawn, c.self.invariant.0, one)

pub invariant_of-self-2 : goal.invariant_of-self-2
invariant_of-self-2 g c =
    let step = c.pop-popped.ensures.step in
    let one = ap count_taken c.in-Some.is in
    (omega (arith, Pops-length g.T.Closable.may_answer c.self.inside.queue c.pop-popped.result.0 step.0 c.pop-popped.new.self step.1, Pops-next g.T.Closable.may_answer c.self.inside.queue c.pop-popped.result.0 step.0 c.pop-popped.new.self step.1, step.2.all, c.self.invariant.0, one), c.pop-popped.ensures.drawn)

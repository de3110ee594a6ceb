use Rattle.broadcast_mailbox.proofs.Queues.{IsSound-pushed}
use Rattle.broadcast_mailbox.proofs.buffered.ingress.queue.Queue.push_ready.Goals as goal

pub invariant_of-self-2 : goal.invariant_of-self-2
invariant_of-self-2 g c =
    let draws = rw (← c.self.view_is) at c.requires.draws in
    let room = rw (← c.self.view_is) at c.requires.room in
    IsSound-pushed _ _ c.args.message c.args.counted c.push_back.result c.self.invariant draws room c.if-is_err.ensures.value c.push_back.ensures.items

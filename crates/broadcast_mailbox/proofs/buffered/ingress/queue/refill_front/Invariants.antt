use Rattle.std.proofs.Common.{◌≡◌, ◌+◌, ◌≤◌, List, length}
use Rattle.std.specs.VecDeque.{deque_capacity}
use Rattle.broadcast_mailbox.specs.declared.buffered.ingress.message.Request.{Request}
use Rattle.broadcast_mailbox.specs.Overflow.{Drains, PutsWithin}
use Rattle.broadcast_mailbox.specs.Queue.{counted_in}
use Rattle.broadcast_mailbox.proofs.buffered.ingress.queue.refill_front.Given as goal

-- what refilling from the rest comes to is what refilling from all comes to
abbrev pub invariant-loop-request : goal.invariant-loop-request
invariant-loop-request g l = record {
  room : l.size ≤ deque_capacity l.ready;
  skips : l.skips.all + length l.requests.items ≤ length l.fn.requests.items;
  counted : l.skips.counted ≤ l.skips.all;
  goes_on : (skipped new last : List _)
      → Drains (λ (request : Request _) answer. g.T.Closable.may_answer request.message answer) (PutsWithin l.size) l.ready.items l.requests.items skipped new last
      → (all : List _) × Drains (λ (request : Request _) answer. g.T.Closable.may_answer request.message answer) (PutsWithin l.size) l.fn.ready.items l.fn.requests.items all new last
      × (length all ≡ l.skips.all + length skipped)
      × (counted_in all ≡ l.skips.counted + counted_in skipped);
}

abbrev pub decreases-loop-request : goal.decreases-loop-request
decreases-loop-request g l = length l.requests.items

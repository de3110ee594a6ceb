use Rattle.std.proofs.Common.{List, length}
use Rattle.broadcast_mailbox.specs.Overflow.{Drains}
use Rattle.broadcast_mailbox.proofs.buffered.ingress.queue.drain_front.Given as goal

-- what draining the rest comes to is what draining all comes to
abbrev pub invariant-loop-message : goal.invariant-loop-message
invariant-loop-message g l =
    (skipped new : List _) (last : _)
    → Drains g.T.Closable.may_answer (goal.F-step g) l.push l.messages.items skipped new last
    → (all : List _) × Drains g.T.Closable.may_answer (goal.F-step g) l.fn.push l.fn.messages.items all new last

abbrev pub decreases-loop-message : goal.decreases-loop-message
decreases-loop-message g l = length l.messages.items

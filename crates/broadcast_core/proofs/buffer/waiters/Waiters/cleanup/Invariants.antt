use Rattle.broadcast_core.specs.Waiters.{is_gone, gone_from}
use Rattle.broadcast_core.proofs.Cleaning.{Cleaning}
use Rattle.broadcast_core.proofs.buffer.waiters.Waiters.cleanup.Given as goal

abbrev pub invariant-loop-digest : goal.invariant-loop-digest
invariant-loop-digest g l = Cleaning g.D.Ord.cmp (is_gone g.W.Ticketed.ticket_of l.gone) l.initial.self-inside.by_digest.entries l.self-inside.by_digest.entries l.after l.removed

abbrev pub decreases-loop-digest : goal.decreases-loop-digest
decreases-loop-digest g l = gone_from g.W.Ticketed.ticket_of l.gone l.self-inside.by_digest.entries

use Rattle.std.proofs.Common.{take}
use Rattle.broadcast_core.proofs.CleaningAt.{Asking}
use Rattle.broadcast_core.proofs.buffer.waiters.Waiters.cleanup_each.Given as goal

abbrev pub invariant-loop-digest : goal.invariant-loop-digest
invariant-loop-digest g l = Asking g.met.D.Ord.total g.W.Closable.may_answer (take l.digest-index l.digests) l.initial.self l.self l.removed

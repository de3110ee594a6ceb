use Rattle.broadcast_core.proofs.WaitersLemmas.{digests_apart}
use Rattle.broadcast_core.proofs.buffer.waiters.Waiters.cleanup_at.Goals as goal

pub returns-clause-distinct : goal.returns-clause-distinct
returns-clause-distinct g c = rw (← c.self.view_is) (digests_apart c.self.inside.by_digest.entries c.self.invariant)

pub returns-clause-distinct_left : goal.returns-clause-distinct_left
returns-clause-distinct_left g c = digests_apart c.drop_closed_at.new.by_digest.entries c.drop_closed_at.ensures.awaited

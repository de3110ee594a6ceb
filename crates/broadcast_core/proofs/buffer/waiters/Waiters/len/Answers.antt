use Rattle.broadcast_core.proofs.WaitersLemmas.{digests_apart}
use Rattle.broadcast_core.proofs.buffer.waiters.Waiters.len.Goals as goal

pub returns-clause-distinct : goal.returns-clause-distinct
returns-clause-distinct g c = rw (← c.self.view_is) (digests_apart c.self.inside.by_digest.entries c.self.invariant)

use Rattle.std.proofs.Common.{None}
use Rattle.broadcast_core.proofs.WaitersLemmas.{AreAwaited-updated}
use Rattle.broadcast_core.proofs.buffer.waiters.Waiters.take.Goals as goal

pub invariant_of-self : goal.invariant_of-self
invariant_of-self g c =
    AreAwaited-updated g.met.D.Ord.total c.args.digest.now None c.self.inside.by_digest.entries c.remove.new.self.entries
    c.remove.ensures.updates.0 c.self.invariant c.remove.ensures.ordered (λ ws h. absurd cc)

use Rattle.std.proofs.Common.{refl}
use Rattle.broadcast_core.specs.Content.{same_by}
use Rattle.broadcast_core.specs.Stored.{with_own}
use Rattle.broadcast_core.proofs.Parting.{Reports-added, still-on}
use Rattle.broadcast_core.proofs.Taking.{on_err}
use Rattle.broadcast_core.proofs.buffer.reporting.Reporting.take.Goals as goal

pub invariant_of-self : goal.invariant_of-self
invariant_of-self g c = still-on c.self.inside.state.cache.shelf.left c.take.new.self.cache.shelf.left c.self.invariant c.take.ensures.sheds.left

pub returns-clause-taken : goal.returns-clause-taken
returns-clause-taken g c = rw (← c.self.view_is) (c.take.ensures.taken c.self.inside.own)

pub returns-clause-left : goal.returns-clause-left
returns-clause-left g c = rw (← c.self.view_is) (Reports-added (same_by g.P.Ord.cmp g.M.Digest.Ord.cmp) (with_own c.self.inside.own c.self.inside.state) (with_own c.self.inside.own c.take.new.self)
    c.self.inside.state.cache.shelf.left c.take.new.self.cache.shelf.left c.self.invariant c.take.ensures.sheds.left)

pub returns-clause-err : goal.returns-clause-err
returns-clause-err g c = rw (← c.self.view_is) (on_err c.take.result (λ is. rw is refl) c.take.ensures.err)

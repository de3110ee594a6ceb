use Rattle.broadcast_core.proofs.Parting.{popped-is, nothing-kept}
use Rattle.broadcast_core.proofs.buffer.reporting.Reporting.pop_left.Goals as goal

pub invariant_of-self : goal.invariant_of-self
invariant_of-self g c =
    let on = rw (← c.self-inside.view_is) at c.self.invariant in
    (popped-is c.pop_left.result c.self-inside.inside.0.1.0.cache.shelf.left c.pop_left.new.self.shelf.left on c.pop_left.ensures.popped.popped).on

pub returns-clause-popped : goal.returns-clause-popped
returns-clause-popped g c =
    let on = rw (← c.self-inside.view_is) at c.self.invariant in
    rw (← c.self.view_is, ← c.self-inside.view_is) (popped-is c.pop_left.result c.self-inside.inside.0.1.0.cache.shelf.left c.pop_left.new.self.shelf.left on c.pop_left.ensures.popped.popped).left

pub returns-clause-empty : goal.returns-clause-empty
returns-clause-empty g c = λ none. rw (← c.self.view_is, ← c.self-inside.view_is) (nothing-kept c.self-inside.inside.0.1.0.cache.shelf.left (c.pop_left.ensures.popped.empty none))

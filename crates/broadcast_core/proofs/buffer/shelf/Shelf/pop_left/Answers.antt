use Rattle.std.proofs.Common.{refl}
use Rattle.broadcast_core.proofs.Parting.{room-popped}
use Rattle.broadcast_core.proofs.buffer.shelf.Shelf.pop_left.Goals as goal

pub invariant_of-self : goal.invariant_of-self
invariant_of-self g c = (c.self.invariant.0, room-popped _ c.pop.result c.self.inside.left c.pop.new.self c.self.invariant.1 c.pop.ensures.removed c.pop.ensures.room)

pub returns : goal.returns
returns g c = rw (← c.self.view_is) (record { deque_size = refl; byte_budget = refl; stored = refl; popped = c.pop.ensures.removed; empty = c.pop.ensures.empty })

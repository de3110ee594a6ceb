use Rattle.std.proofs.Common.{refl}
use Rattle.broadcast_core.proofs.buffer.state.State.new.Goals as goal

pub invariant_of-result : goal.invariant_of-result
invariant_of-result g c = rw (c.new.ensures.shelf) (λ d h. absurd cc)

pub returns-clause-core : goal.returns-clause-core
returns-clause-core g c = λ own. rw (c.new.ensures.primary, c.new.ensures.shelf, c.new-2.ensures) refl

pub returns-clause-left : goal.returns-clause-left
returns-clause-left g c = rw c.new.ensures.shelf refl

use Rattle.std.proofs.Common.{arith}
use Rattle.entries.specs.Places.{get}
use Rattle.entries.proofs.Lists.{oldest-charge}
use Rattle.entries.proofs.chain.trim.Goals as goal

pub overflow_sub-chain : goal.overflow_sub-chain
overflow_sub-chain c =
    omega (arith, oldest-charge (get c.args.places.now) (get c.pop_oldest.new.places) c.args.chain.now c.pop_oldest.new.chain c.in_ok-stale.stale c.requires.nodes c.requires.sum c.in_ok-stale.ensures.popped, c.from.ensures, c.pop_oldest.ensures.bytes)

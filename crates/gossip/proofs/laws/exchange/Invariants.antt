use Rattle.std.proofs.Common.{◌≡◌, ◌+◌}
use Rattle.gossip.specs.Placing.{unknown, later_than}
use Rattle.gossip.proofs.Exchanging.{IsCoveredUpTo}
use Rattle.gossip.proofs.laws.exchange.Given as goal

abbrev pub invariant-loop-message : goal.invariant-loop-message
invariant-loop-message l = record {
  budget : l.to.budget ≡ l.fn.to.budget;
  upto : IsCoveredUpTo l.sent l.to l.from.list;
}

abbrev pub decreases-loop-message : goal.decreases-loop-message
decreases-loop-message l = unknown l.to l.from.list + later_than l.sent l.from.list

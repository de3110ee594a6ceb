use Rattle.std.proofs.Common.{◌≡◌, ◌++◌, drop}
use Rattle.gossip.specs.Held.{in_time, after_all, listed}
use Rattle.gossip.proofs.laws.run_log.Given as goal

abbrev pub invariant-loop-it : goal.invariant-loop-it
invariant-loop-it l = record {
  so_far : l.all.items ++ listed l.log (in_time (drop l.it-index l.arrivals)) ≡ listed l.fn.log (in_time l.arrivals);
  after : after_all l.log (in_time (drop l.it-index l.arrivals)) ≡ after_all l.fn.log (in_time l.arrivals);
}

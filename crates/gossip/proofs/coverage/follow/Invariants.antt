use Rattle.std.proofs.Common.{drop}
use Rattle.gossip.specs.Spans.{Follow}
use Rattle.gossip.proofs.coverage.follow.Given as goal

abbrev pub invariant-loop-span : goal.invariant-loop-span
invariant-loop-span l = record {
  forth : Follow l.fn.end l.spans → Follow l.end (drop l.span-index l.spans);
  back : Follow l.end (drop l.span-index l.spans) → Follow l.fn.end l.spans;
}

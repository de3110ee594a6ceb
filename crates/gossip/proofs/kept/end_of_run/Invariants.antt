use Rattle.std.proofs.Common.{◌≡◌, false, take}
use Rattle.gossip.specs.Spans.{is_had}
use Rattle.gossip.proofs.kept.end_of_run.Given as goal

abbrev pub invariant-loop-span : goal.invariant-loop-span
invariant-loop-span l = is_had l.stamp (take l.span-index l.reported) ≡ false

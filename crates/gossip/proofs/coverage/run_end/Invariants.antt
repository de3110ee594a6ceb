use Rattle.std.proofs.Common.{◌≡◌, ◌<◌, ℕ, drop}
use Rattle.gossip.specs.Spans.{is_had, IsApart}
use Rattle.gossip.proofs.coverage.run_end.Given as goal

abbrev pub invariant-loop-span : goal.invariant-loop-span
invariant-loop-span l = record {
  same : (s : ℕ) → l.at < s → is_had s l.spans ≡ is_had s (drop l.span-index l.spans);
  apart : IsApart (drop l.span-index l.spans);
}

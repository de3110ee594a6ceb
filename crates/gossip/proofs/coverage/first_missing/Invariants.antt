use Rattle.std.proofs.Common.{◌≡◌, ℕ, drop, true}
use Rattle.gossip.specs.Spans.{is_had, IsApart}
use Rattle.gossip.proofs.Lacking.{IsLeft}
use Rattle.gossip.proofs.coverage.first_missing.Given as goal

abbrev pub invariant-loop-span : goal.invariant-loop-span
invariant-loop-span l = record {
  left : IsLeft l.had l.theirs (drop l.span-index l.theirs) l.above l.upto;
  part : (s : ℕ) → is_had s (drop l.span-index l.theirs) ≡ true → is_had s l.theirs ≡ true;
  apart : IsApart (drop l.span-index l.theirs);
}

use Rattle.std.proofs.Common.{◌≡◌, ◌+◌, drop}
use Rattle.gossip.specs.Spans.{IsApart}
use Rattle.gossip.specs.Held.{total}
use Rattle.gossip.specs.Parts.{bytes_had}
use Rattle.gossip.proofs.kept.Kept.lag_behind.Given as goal

abbrev pub invariant-loop-span : goal.invariant-loop-span
invariant-loop-span l = record {
  apart : IsApart (drop l.span-index l.spans);
  so_far : l.bytes + bytes_had l.spans l.self.list.items
      ≡ total l.self.list.items + bytes_had (drop l.span-index l.spans) l.self.list.items;
}

use Rattle.std.proofs.Common.{◌≡◌, ◌≤◌, ◌++◌, ◌-◌, length, drop}
use Rattle.gossip.specs.Cutting.{shown}
use Rattle.gossip.proofs.kept.shown.Given as goal

abbrev pub invariant-loop-i : goal.invariant-loop-i
invariant-loop-i l = record {
  so_far : l.spans.items ++ shown (63 - length l.spans.items) l.open (drop l.i l.list.items)
      ≡ shown 63 (record { from = 0; to = l.fn.floor }) l.list.items;
  few : length l.spans.items ≤ 63;
}

use Rattle.std.proofs.Common.{◌≡◌, ◌+◌, false, drop, length}
use Rattle.gossip.specs.Newest.{charge, has_stamp}
use Rattle.gossip.specs.Held.{total, inserted, leaving}
use Rattle.gossip.specs.Placing.{up_to}
use Rattle.gossip.proofs.kept.Kept.leaving.Given as goal

abbrev pub invariant-loop-i : goal.invariant-loop-i
invariant-loop-i l = record {
  total : l.total ≡ charge l.fn.message + total (drop l.i l.self.list.items);
  counted : l.i + length (leaving l.budget (inserted l.fn.message (drop l.i l.self.list.items)))
      ≡ length (leaving l.budget (inserted l.fn.message l.self.list.items));
  place : l.i + up_to l.fn.message.stamp (drop l.i l.self.list.items) ≡ l.place;
  new : has_stamp l.fn.message.stamp (drop l.i l.self.list.items) ≡ false;
}

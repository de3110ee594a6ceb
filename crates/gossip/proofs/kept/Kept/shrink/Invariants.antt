use Rattle.std.proofs.Common.{◌≡◌, ◌≤◌, ◌+◌, ◌++◌, length, map}
use Rattle.std.specs.VecDeque.{deque_len}
use Rattle.std.specs.Vec.{vec_len, vec_capacity}
use Rattle.gossip.specs.Held.{total, staying, leaving, floor_with}
use Rattle.gossip.specs.Placing.{sums_after}
use Rattle.gossip.proofs.kept.Kept.shrink.Given as goal

abbrev pub invariant-loop-self : goal.invariant-loop-self
invariant-loop-self l = record {
  total : l.self.total ≡ total l.self.list.items;
  sums : l.self.sums.items ≡ sums_after l.self.base l.self.list.items;
  floor : floor_with l.budget l.self.floor l.self.list.items ≡ floor_with l.budget l.fn.self.floor l.fn.self.list.items;
  list : staying l.budget l.self.list.items ≡ staying l.budget l.fn.self.list.items;
  left : l.left.items ++ map (λ m. m.handle) (leaving l.budget l.self.list.items)
      ≡ l.fn.left.items ++ map (λ m. m.handle) (leaving l.budget l.fn.self.list.items);
  room : vec_len l.left + length (leaving l.budget l.self.list.items) ≤ vec_capacity l.left;
}

abbrev pub decreases-loop-self : goal.decreases-loop-self
decreases-loop-self l = deque_len l.self.list

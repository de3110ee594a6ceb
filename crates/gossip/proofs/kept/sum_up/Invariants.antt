use Rattle.std.proofs.Common.{◌≡◌, ◌≤◌, ◌++◌, drop}
use Rattle.std.specs.VecDeque.{deque_len, deque_capacity}
use Rattle.gossip.specs.Placing.{sums_after}
use Rattle.gossip.proofs.kept.sum_up.Given as goal

abbrev pub invariant-loop-i : goal.invariant-loop-i
invariant-loop-i l = record {
  so_far : l.sums.items ++ sums_after l.sum (drop l.i l.list.items) ≡ sums_after l.base l.list.items;
  few : deque_len l.sums ≤ l.i;
  room : deque_len l.list ≤ deque_capacity l.sums;
}

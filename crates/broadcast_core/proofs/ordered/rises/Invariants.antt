use Rattle.std.proofs.Common.{◌≡◌, ℕ, ◌+◌, ◌≤◌, ◌<◌, ◌-◌, length, get_or}
use Rattle.std.specs.declared.cmp.Ordering.TheVariants.{Less}
use Rattle.broadcast_core.proofs.ordered.rises.Given as goal

abbrev pub invariant-loop-i : goal.invariant-loop-i
invariant-loop-i g l = (1 ≤ l.i) × ((d : g.row.K.Denot) (k : ℕ) → k + 1 < l.i → k + 1 < length l.keys → g.K.Ord.cmp (get_or l.keys k d) (get_or l.keys (k + 1) d) ≡ Less)

abbrev pub decreases-loop-i : goal.decreases-loop-i
decreases-loop-i g l = length l.keys - l.i

use Rattle.std.proofs.Common.{◌≡◌, ◌≤◌, length, take, drop}
use Rattle.entries.specs.Overlaid.{overlaid}
use Rattle.broadcast_c.specs.Storing.{left_in}
use Rattle.broadcast_c.proofs.store.Store.move_left.Given as goal

abbrev pub invariant-loop-i : goal.invariant-loop-i
invariant-loop-i l =
    let all = left_in l.initial.self in
    (l.out ≡ overlaid (take l.i all) l.fn.out) × (left_in l.self ≡ drop l.i all) × (l.self.cache.core ≡ l.initial.self.cache.core) × (l.self.served ≡ l.initial.self.served)
    × (l.i ≤ length l.fn.out) × (l.i ≤ length all)

abbrev pub decreases-loop-i : goal.decreases-loop-i
decreases-loop-i l = length l.self.cache.left

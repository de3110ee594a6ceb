use Rattle.std.proofs.Common.{◌≡◌, ◌+◌, ◌*◌, ◌^◌, ◌≤◌, length}
use Rattle.broadcast_core.specs.Waiters.{waiting_in}
use Rattle.broadcast_core.proofs.buffer.waiters.total.Given as goal

abbrev pub invariant-loop-waiters : goal.invariant-loop-waiters
invariant-loop-waiters g l =
    (goal.iterator-loop-waiters g).can_next l.waiters-iterator ×
    (goal.iterator-loop-waiters g).is_finite l.waiters-iterator ×
    (l.all + waiting_in l.waiters-iterator ≡ waiting_in l.by_digest.entries) ×
    (l.all + 2 ^ 64 * length l.waiters-iterator ≤ 2 ^ 127)

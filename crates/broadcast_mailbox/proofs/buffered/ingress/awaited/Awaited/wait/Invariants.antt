use Rattle.std.proofs.Common.{◌≡◌}
use Rattle.broadcast_mailbox.proofs.buffered.ingress.awaited.Awaited.wait.Given as goal

abbrev pub invariant-loop : goal.invariant-loop
invariant-loop g l = l.future ≡ l.fn.self

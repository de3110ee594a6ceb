-- What is counted of one request.
use Rattle.std.proofs.Common.{◌≤◌, Bool, true, false, arith}
use Rattle.broadcast_mailbox.specs.Account.{one_if}

pub one_if-small : (counted : Bool) → one_if counted ≤ 1
one_if-small true = omega arith
one_if-small false = omega arith

use Rattle.std.proofs.Common.{◌≡◌, ◌≤◌, ◌+◌, ◌*◌, ◌^◌, drop}
use Rattle.gossip.specs.Tokens.{charged, after_calls}
use Rattle.gossip.proofs.bucket.charge_all.Given as goal

abbrev pub invariant-loop-call : goal.invariant-loop-call
invariant-loop-call l = record {
  charged : l.total + charged l.bucket (drop l.call-index l.calls) ≡ charged l.fn.bucket l.calls;
  left : after_calls l.bucket (drop l.call-index l.calls) ≡ after_calls l.fn.bucket l.calls;
  fits : l.total ≤ l.call-index * 2 ^ 64;
}

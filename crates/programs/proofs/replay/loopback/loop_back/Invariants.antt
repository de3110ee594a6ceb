use Rattle.std.proofs.Common.{◌≡◌, take}
use Rattle.programs.specs.Loopback.{broadcasts_in, passed}
use Rattle.programs.proofs.replay.loopback.loop_back.Given as goal

abbrev pub invariant-loop-i : goal.invariant-loop-i
invariant-loop-i l = record {
  same : l.events ≡ l.initial.events;
  passed : l.inbox ≡ passed l.initial.inbox (broadcasts_in (take l.i l.events));
}

use Rattle.std.proofs.Common.{◌≡◌, ◌≤◌, ◌<◌, ◌-◌, ℕ, false, length, Some}
use Rattle.std.specs.Prelude.{slice_get}
use Rattle.gossip.specs.declared.message.Message.{Message}
use Rattle.gossip.specs.Sending.{is_due}
use Rattle.gossip.proofs.kept.Kept.first_due.Given as goal

abbrev pub invariant-loop-message : goal.invariant-loop-message
invariant-loop-message l = record {
  bound : l.i ≤ length l.self.list.items;
  none : (k : ℕ) (m : Message) → k < l.i → slice_get l.self.list.items k ≡ Some m → is_due l.reported l.sent l.in_flight m ≡ false;
}

abbrev pub decreases-loop-message : goal.decreases-loop-message
decreases-loop-message l = length l.self.list.items - l.i

use Rattle.std.proofs.Common.{refl}
use Rattle.broadcast_core.proofs.Lawful.{same_by-lawful}
use Rattle.broadcast_core.proofs.Applying.{Applies-peers}
use Rattle.broadcast_core.proofs.runner.apply.apply.Goals as goal

pub returns-in-Peers-clause-follows : goal.returns-in-Peers-clause-follows
returns-in-Peers-clause-follows g c = λ past has.
    let lawful = same_by-lawful g.met.P.Ord.total (g.met.M.Digest.Ord g.world.𝓛 g.world.𝓜 g.world.𝓡 (λ s x. x, λ x. x, λ x. x, λ x. x)).total in
    rw c.in-Peers.is (Applies-peers refl lawful has c.update_primary_peers.ensures)

pub returns-in-Broadcast-clause-follows : goal.returns-in-Broadcast-clause-follows
returns-in-Broadcast-clause-follows g c = λ past has. rw c.in-Broadcast.is (c.broadcast.ensures.follows _ refl refl refl past has)

pub returns-in-Payload-clause-follows : goal.returns-in-Payload-clause-follows
returns-in-Payload-clause-follows g c = λ past has. rw (c.in-Payload.is, ← c.as_slice.ensures) (c.payload.ensures.follows _ refl refl refl refl past has)

pub returns-in-Subscribe-clause-follows : goal.returns-in-Subscribe-clause-follows
returns-in-Subscribe-clause-follows g c = λ past has. rw c.in-Subscribe.is (c.subscribe.ensures.follows _ refl past has)

pub returns-in-Get-clause-follows : goal.returns-in-Get-clause-follows
returns-in-Get-clause-follows g c = λ past has. rw c.in-Get.is (c.get.ensures _ refl c.in-Get.field-0 past has)

pub returns-in-Cleanup-clause-follows : goal.returns-in-Cleanup-clause-follows
returns-in-Cleanup-clause-follows g c = λ past has. rw c.in-Cleanup.is (c.cleanup.ensures.follows _ refl past has)

use Rattle.std.proofs.Common.{refl}
use Rattle.commonware_broadcast.proofs.Applying.{AppliesAndSends-silent, AppliesAndSends-handled, AppliesInput-applied}
use Rattle.commonware_broadcast.proofs.buffered.engine.apply.apply.Goals as goal

pub returns-in-Peers-clause-applied : goal.returns-in-Peers-clause-applied
returns-in-Peers-clause-applied g c = λ s e encoding priority past has. rw c.in-Peers.is (AppliesAndSends-silent (AppliesInput-applied (c.handle_peers.ensures s e past has) refl) refl)

pub returns-in-Request-clause-applied : goal.returns-in-Request-clause-applied
returns-in-Request-clause-applied g c = λ s e encoding priority past has. rw c.in-Request.is (c.apply_request.ensures.applied s e encoding priority past has)

pub returns-in-Arrived-clause-applied : goal.returns-in-Arrived-clause-applied
returns-in-Arrived-clause-applied g c = λ s e encoding priority past has. rw c.in-Arrived.is (AppliesAndSends-handled refl (c.handle_arrival.ensures.handled s e encoding past has))

pub returns-in-Invalid-clause-applied : goal.returns-in-Invalid-clause-applied
returns-in-Invalid-clause-applied g c = λ s e encoding priority past has. rw c.in-Invalid.is (AppliesAndSends-handled refl (c.handle_invalid.ensures.handled s e past has))

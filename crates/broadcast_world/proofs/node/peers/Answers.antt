use Rattle.std.proofs.Common.{[], refl}
use Rattle.std.proofs.lemmas.Cmp.{nat_list_cmp_total}
use Rattle.broadcast_core.proofs.Lawful.{same_by-lawful}
use Rattle.broadcast_core.proofs.Applying.{Applies-peers}
use Rattle.broadcast_world.proofs.Copied.{event_peers}
use Rattle.broadcast_world.proofs.Following.{NodeFollows-from}
use Rattle.broadcast_world.proofs.Places.{AllZip-weaker}
use Rattle.broadcast_world.proofs.node.peers.Goals as goal

pub returns-in-Ok : goal.returns-in-Ok
returns-in-Ok g c = λ w n.
    let total = g.met.P.Ord.total in
    let lawful = same_by-lawful total nat_list_cmp_total in
    let copies = g.met.P.PublicKey.copies in
    NodeFollows-from g.P.Ord.cmp total w n (event_peers c.args.peers.now c.in-Ok.peers (AllZip-weaker _ _ c.args.peers.now c.in-Ok.peers copies c.in-Ok.ensures.cases)) _ _ _ []
    (λ past has. Applies-peers refl lawful has c.update_primary_peers.ensures)

use Rattle.std.proofs.Common.{[], refl}
use Rattle.std.proofs.lemmas.Cmp.{nat_list_cmp_total}
use Rattle.broadcast_core.proofs.Lawful.{same_by-lawful}
use Rattle.broadcast_core.proofs.Applying.{Applies-cleanup}
use Rattle.broadcast_world.proofs.Copied.{event_cleanup}
use Rattle.broadcast_world.proofs.Following.{NodeFollows-from}
use Rattle.broadcast_world.proofs.node.cleanup.Goals as goal

pub returns : goal.returns
returns g c = λ w n.
    let total = g.met.P.Ord.total in
    let lawful = same_by-lawful total nat_list_cmp_total in
    NodeFollows-from g.P.Ord.cmp total w n (event_cleanup c.args.gone.now) _ _ _ []
    (λ past has. Applies-cleanup refl lawful has c.args.gone.now c.cleanup.result c.cleanup.ensures.dropped c.cleanup.ensures.distinct c.cleanup.ensures.removed)

use Rattle.std.proofs.Common.{refl, ap}
use Rattle.std.proofs.lemmas.Cmp.{nat_list_cmp_total}
use Rattle.broadcast_core.proofs.Lawful.{same_by-lawful}
use Rattle.broadcast_core.specs.Answers.{answer_to_broadcast}
use Rattle.broadcast_core.specs.Happening.{broadcast}
use Rattle.broadcast_core.specs.declared.event.Event.TheVariants.{Broadcast}
use Rattle.broadcast_core.proofs.Applying.{Applies-taken}
use Rattle.broadcast_world.specs.World.{at}
use Rattle.broadcast_world.proofs.Copied.{event_broadcast}
use Rattle.broadcast_world.proofs.Following.{NodeFollows-from}
use Rattle.broadcast_world.proofs.node.broadcast.Goals as goal

pub returns-clause-ok : goal.returns-clause-ok
returns-clause-ok g c = λ w n r bytes encoded.
    let total = g.met.P.Ord.total in
    let lawful = same_by-lawful total nat_list_cmp_total in
    let s = at g.P.Ord.cmp w c.args.core.now.own in
    let m = c.args.message in
    let taken = c.in_ok-taken.ensures in
    NodeFollows-from g.P.Ord.cmp total w n (event_broadcast r m) _ _ _ _
    (λ past has. Applies-taken {s = s} refl lawful has refl {e = Broadcast r m} (broadcast r m) (record { key = c.args.core.now.own; carried = m }) refl refl (ap (λ b. answer_to_broadcast s r m b past) encoded) taken.ok taken.outcome taken.served)

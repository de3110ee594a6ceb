use Rattle.std.proofs.Common.{◌≡◌, [], refl, ap, ◌∙◌}
use Rattle.std.proofs.lemmas.Cmp.{nat_list_cmp_total}
use Rattle.broadcast_core.proofs.Applying.{Applies-taken}
use Rattle.broadcast_core.proofs.Lawful.{same_by-lawful}
use Rattle.broadcast_core.specs.Happening.{arrival}
use Rattle.broadcast_core.specs.Setting.{own_digested}
use Rattle.broadcast_core.specs.declared.event.Event.TheVariants.{Payload}
use Rattle.broadcast_world.specs.World.{at}
use Rattle.broadcast_world.proofs.Copied.{event_payload}
use Rattle.broadcast_world.proofs.Following.{NodeFollows-from}
use Rattle.broadcast_world.proofs.node.arrival.Goals as goal

pub returns-clause-ok : goal.returns-clause-ok
returns-clause-ok g c = λ w n p bytes equal read own.
    let total = g.met.P.Ord.total in
    let lawful = same_by-lawful total nat_list_cmp_total in
    let s = at g.P.Ord.cmp w c.args.core.now.own in
    let peer = c.args.peer.now in
    let m = c.args.message.now in
    let copy = c.in_ok-message.message in
    let carried : copy ≡ own_digested s m.message = c.in_ok-message.ensures.cases ∙ ap (λ d. record { message = m.message; digest = d }) own in
    let taken = c.in_ok-taken.ensures in
    NodeFollows-from g.P.Ord.cmp total w n (event_payload p peer equal bytes) _ _ _ []
    (λ past has. Applies-taken {s = s} refl lawful has refl {e = Payload peer bytes} (arrival peer copy) (record { key = peer; carried = copy }) (rw (read, carried) refl) refl (rw (read, carried) refl) taken.ok taken.outcome taken.served)

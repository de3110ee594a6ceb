use Rattle.std.proofs.Common.{◌≡◌, [], Ok, Err, is_ok, refl, ap, ◌∙◌}
use Rattle.std.proofs.lemmas.Cmp.{nat_list_cmp_total}
use Rattle.broadcast_core.proofs.Applying.{Applies-invalid, Applies-refused}
use Rattle.broadcast_core.proofs.Lawful.{same_by-lawful}
use Rattle.broadcast_core.specs.Setting.{whole}
use Rattle.broadcast_core.specs.TestMessage.{read_message}
use Rattle.broadcast_core.specs.declared.event.Event.TheVariants.{Payload}
use Rattle.broadcast_world.specs.World.{at}
use Rattle.broadcast_world.proofs.Copied.{event_payload}
use Rattle.broadcast_world.proofs.Following.{NodeFollows-from}
use Rattle.broadcast_world.proofs.node.delivery.Goals as goal

pub returns-in-Err : goal.returns-in-Err
returns-in-Err g c = λ w n p ranged equal.
    let total = g.met.P.Ord.total in
    let lawful = same_by-lawful total nat_list_cmp_total in
    let bytes = c.args.encoded.now.bytes in
    let read : whole (read_message w.range) bytes ≡ Err c.in-Err.refusal = ap (λ r. whole (read_message r) bytes) ranged ∙ c.in-Err.ensures.exact in
    NodeFollows-from g.P.Ord.cmp total w n (event_payload p c.args.peer.now equal bytes) _ _ _ []
    (λ past has. Applies-invalid refl lawful has c.args.peer.now bytes c.in-Err.refusal refl read)

pub returns-in-Ok-arrival : goal.returns-in-Ok-arrival
returns-in-Ok-arrival g c = λ w n p ranged equal.
    let bytes = c.args.encoded.now.bytes in
    let read : whole (read_message w.range) bytes ≡ Ok c.in-Ok.message.now.message = ap (λ r. whole (read_message r) bytes) ranged ∙ c.in-Ok.ensures.exact in
    c.in-Ok-arrival.ensures.ok w n p bytes equal read c.in-Ok.ensures.own_digest

pub returns-in-Err-arrival : goal.returns-in-Err-arrival
returns-in-Err-arrival g c = λ w n p ranged equal.
    let total = g.met.P.Ord.total in
    let lawful = same_by-lawful total nat_list_cmp_total in
    let bytes = c.args.encoded.now.bytes in
    let read : whole (read_message w.range) bytes ≡ Ok c.in-Ok.message.now.message = ap (λ r. whole (read_message r) bytes) ranged ∙ c.in-Ok.ensures.exact in
    NodeFollows-from g.P.Ord.cmp total w n (event_payload p c.args.peer.now equal bytes) _ _ _ []
    (λ past has. Applies-refused {s = at g.P.Ord.cmp w c.args.core.now.own} refl lawful has (Payload c.args.peer.now bytes) c.in-Err-arrival.ensures.err (ap is_ok read))

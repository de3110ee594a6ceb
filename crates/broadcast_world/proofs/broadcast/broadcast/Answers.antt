use Rattle.std.proofs.Common.{◌≡◌, true, Some, Err, arith, sym, ap, ◌∙◌, subst}
use Rattle.std.specs.Arc.{arc_value}
use Rattle.std.specs.Prelude.{is_some}
use Rattle.broadcast_core.specs.TestMessage.{encoding_of}
use Rattle.broadcast_core.specs.declared.event.Event.TheVariants.{Broadcast}
use Rattle.broadcast_world.specs.World.{node, event_at}
use Rattle.broadcast_world.specs.Steps.{AreCopies}
use Rattle.broadcast_world.specs.Nodes.{NodeFollows}
use Rattle.broadcast_world.proofs.OneNode.{AtNode-given, AtNode-refused, NodeFollows-cause, NodeFollows-refused, made_by-broadcast}
use Rattle.broadcast_world.proofs.Places.{key_read, read_at}
use Rattle.broadcast_world.proofs.broadcast.broadcast.Goals as goal

pub returns-in-Err-clause-node : goal.returns-in-Err-clause-node
returns-in-Err-clause-node g c = λ w is.
    let cmp = g.P.Ord.cmp in
    let x = c.in-Some.ensures.node.0 in
    let r = c.args.recipients.now in
    let m = c.args.message.now in
    AtNode-refused cmp w x c.in-Some.place c.args.nodes.now.cores.items (rw is c.in-Some.ensures.node.2) (rw is c.in-Some.ensures.node.1) c.in-Some.ensures.core
    (λ core. NodeFollows-cause cmp w x r m core c.in-Err.cause (λ h. c.in-Err.ensures.memory (ap Err h)) (λ h. c.in-Err.ensures.unencodable (ap Err h)))

pub index_mut-requires : goal.index_mut-requires
index_mut-requires g c = omega (arith, c.in-Some.ensures.core, c.args.nodes.now.cores.ok)

pub returns-in-Err-prepare-clause-node : goal.returns-in-Err-prepare-clause-node
returns-in-Err-prepare-clause-node g c = λ w is.
    let cmp = g.P.Ord.cmp in
    let x = c.in-Some.ensures.node.0 in
    let r = c.args.recipients.now in
    let m = c.args.message.now in
    let encoded : is_some (encoding_of m.message) ≡ true = ap is_some c.in-Ok.ensures.ok in
    AtNode-refused cmp w x c.in-Some.place c.args.nodes.now.cores.items (rw is c.in-Some.ensures.node.2) (rw is c.in-Some.ensures.node.1) c.in-Some.ensures.core (λ core. NodeFollows-refused cmp w x r m core encoded)

pub returns-in-Ok-prepare-clause-node : goal.returns-in-Ok-prepare-clause-node
returns-in-Ok-prepare-clause-node g c = λ w is.
    let cmp = g.P.Ord.cmp in
    let x = c.in-Some.ensures.node.0 in
    let r = c.args.recipients.now in
    let cores = c.args.nodes.now.cores.items in
    let copy = c.in-Ok-prepare.message in
    let same : copy ≡ c.args.message.now = c.in-Ok-prepare.ensures.message in
    let encoded : encoding_of copy.message ≡ Some c.in-Ok.encoded.bytes = ap (λ m. encoding_of m.message) same ∙ c.in-Ok.ensures.ok in
    AtNode-given cmp w x c.in-Some.place cores (rw is c.in-Some.ensures.node.2) (rw is c.in-Some.ensures.node.1) (read_at cores c.in-Some.place c.index_mut.result.now c.in-Some.ensures.core c.index_mut.ensures.value)
    (subst (λ m. NodeFollows cmp w x (Broadcast r m) c.index_mut.result.now c.take.new.core c.take.result) same (c.take.ensures.follows w x r c.in-Ok.encoded.bytes encoded))

pub returns-in-Ok-prepare-clause-packets : goal.returns-in-Ok-prepare-clause-packets
returns-in-Ok-prepare-clause-packets g c = λ w sent is has.
    let cmp = g.P.Ord.cmp in
    let x = c.in-Some.ensures.node.0 in
    let r = c.args.recipients.now in
    let m = c.args.message.now in
    let event = event_at cmp w c.args.key.now (Broadcast r m) in
    let read : c.index-as_slice-place.result ≡ x = key_read c.as_slice.result.now (arc_value c.args.nodes.now.keys) c.in-Some.place x c.index-as_slice-place.result c.in-Some.ensures.node.1 (c.as_slice.ensures.keys ∙ c.deref-keys.ensures) c.index-as_slice-place.is in
    let made = made_by-broadcast cmp w (node cmp w c.args.key.now) x r m c.in-Ok-prepare.made.items (rw is c.in-Some.ensures.node.2) read c.in-Ok.ensures.ok (c.in-Ok-prepare.ensures.made w (is ∙ sym c.deref-keys.ensures)) in
    c.take.ensures.packets w event sent made (subst (λ ps. AreCopies cmp ps sent) (sym c.in-Ok-prepare.ensures.kept) has)

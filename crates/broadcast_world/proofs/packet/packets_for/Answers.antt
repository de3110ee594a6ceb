use Rattle.std.proofs.Common.{◌≡◌, Some, arith, ap, ◌∙◌, subst}
use Rattle.std.specs.Cmp.{eq_by_cmp_equiv}
use Rattle.std.proofs.lemmas.List.{take_all}
use Rattle.broadcast_world.specs.Steps.{AreCopies}
use Rattle.broadcast_world.specs.World.{packets_to}
use Rattle.broadcast_world.proofs.Addressed.{packets-copied, packets-push}
use Rattle.broadcast_world.proofs.packet.packets_for.Goals as goal

pub loop-node-preserved : goal.loop-node-preserved
loop-node-preserved g c = λ w.
    let laws = eq_by_cmp_equiv g.met.P.Ord.total in
    let copies = g.met.P.PublicKey.copies in
    rw c.in_ok-push.ensures.items (packets-push g.P.Ord.cmp w c.args.sender.now c.in_ok-encoded.encoded.value.bytes c.args.nodes.now c.loop-node.node-index c.loop-node.packets.items _ c.loop-node-test.true c.node-item.is (c.loop-node.invariant w)
    ((laws.symm _ _ ∙ copies _ _ c.in_ok-clone.ensures.cases, laws.symm _ _ ∙ copies _ _ c.in_ok-clone-2.ensures.cases, ap (λ e. e.bytes) c.in_ok-try_clone.ensures), tt))

pub returns : goal.returns
returns g c = λ w to is.
    let cmp = g.P.Ord.cmp in
    let total = g.met.P.Ord.total in
    let end = take_all c.loop-node.node-index c.args.nodes.now (omega arith) in
    let same : c.in_ok-encoded.encoded.value ≡ c.args.encoded = c.in_ok-encoded.ensures.ok in
    packets-copied cmp w total c.args.sender.now c.args.encoded.bytes c.loop-node.packets.items c.args.nodes.now to
    (subst (λ e. AreCopies cmp c.loop-node.packets.items (packets_to cmp w c.args.sender.now c.args.nodes.now (Some e.bytes))) same
    (subst (λ ns. AreCopies cmp c.loop-node.packets.items (packets_to cmp w c.args.sender.now ns (Some c.in_ok-encoded.encoded.value.bytes))) end (c.loop-node.invariant w))) is

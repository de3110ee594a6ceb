use Rattle.std.proofs.Common.{sym, ap, ◌∙◌, subst}
use Rattle.std.specs.Cmp.{eq_by_cmp_equiv}
use Rattle.std.specs.Ordering.{eq_by_cmp}
use Rattle.broadcast_core.specs.declared.event.Event.TheVariants as event
use Rattle.broadcast_world.specs.World.{delivery, event_at}
use Rattle.broadcast_world.specs.Nodes.{AtNode}
use Rattle.broadcast_world.specs.declared.step.WorldAnswer.TheVariants.{NoSuch}
use Rattle.broadcast_world.proofs.Places.{AllZip-none, AllZip-some, read_at, slice_get-past}
use Rattle.broadcast_world.proofs.apply.deliver.Goals as goal

pub returns-in_default-clause-node : goal.returns-in_default-clause-node
returns-in_default-clause-node g c = λ w sent is ranged copies.
    let cores = c.args.nodes.now.cores.items in
    let none = slice_get-past c.args.packets.now c.args.number c.in_default.ensures.lookup.3 in
    subst (λ p. AtNode g.P.Ord.cmp w (delivery g.P.Ord.cmp w p) cores cores NoSuch) (sym (AllZip-none _ c.args.packets.now sent c.args.number copies none)) (λ i. NoSuch, λ i. cores)

pub returns-clause-node : goal.returns-clause-node
returns-clause-node g c = λ w sent is ranged copies.
    let cmp = g.P.Ord.cmp in
    let laws = eq_by_cmp_equiv g.met.P.Ord.total in
    let there = read_at c.args.packets.now c.args.number c.in-Some.packet.now c.in-Some.ensures.lookup.3.0 c.in-Some.ensures.lookup.1 in
    let meant = AllZip-some _ c.args.packets.now sent c.args.number c.in-Some.packet.now copies there in
    let p = meant.0 in
    let packet = c.in-Some.packet.now in
    let at = c.delivery.ensures.node w p.addressee p.sender is ranged
    (ap (eq_by_cmp cmp p.addressee) c.addressee.ensures ∙ laws.symm p.addressee packet.addressee ∙ meant.2.1)
    (ap (eq_by_cmp cmp p.sender) c.sender.ensures ∙ laws.symm p.sender packet.sender ∙ meant.2.0) in
    subst (λ o. AtNode cmp w (delivery cmp w o) c.args.nodes.now.cores.items c.delivery.new.self.cores.items c.delivery.result) (sym meant.1)
    (subst (λ b. AtNode cmp w (event_at cmp w p.addressee (event.Payload p.sender b)) c.args.nodes.now.cores.items c.delivery.new.self.cores.items c.delivery.result) (c.encoded.ensures ∙ meant.2.2) at)

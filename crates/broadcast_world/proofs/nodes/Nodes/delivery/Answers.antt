use Rattle.std.proofs.Common.{arith, sym, subst}
use Rattle.std.specs.Prelude.{slice_set}
use Rattle.broadcast_core.specs.declared.event.Event.TheVariants as event
use Rattle.broadcast_world.specs.Nodes.{AtNode}
use Rattle.broadcast_world.specs.declared.step.WorldAnswer.TheVariants.{Given, NoSuch}
use Rattle.broadcast_world.proofs.OneNode.{AtNode-given, AtNode-none, event_at-equal}
use Rattle.broadcast_world.proofs.Places.{read_at}
use Rattle.broadcast_world.proofs.nodes.Nodes.delivery.Goals as goal

pub returns-in_default-clause-node : goal.returns-in_default-clause-node
returns-in_default-clause-node g c = λ w n p is ranged named from.
    let total = g.met.P.Ord.total in
    subst (λ e. AtNode g.P.Ord.cmp w e c.args.self.now.cores.items c.args.self.now.cores.items NoSuch) (sym (event_at-equal g.P.Ord.cmp w total n c.args.key.now (event.Payload p c.args.encoded.now.bytes) named))
    (AtNode-none g.P.Ord.cmp w _ _ _ (rw is c.in_default.ensures.node))

pub index_mut-requires : goal.index_mut-requires
index_mut-requires g c = omega (arith, c.in-Some.ensures.core, c.args.self.now.cores.ok)

pub returns-clause-node : goal.returns-clause-node
returns-clause-node g c = λ w n p is ranged named from.
    let total = g.met.P.Ord.total in
    let cores = c.args.self.now.cores.items in
    subst (λ e. AtNode g.P.Ord.cmp w e cores (slice_set cores c.in-Some.place c.delivery.new.core) (Given c.delivery.result)) (sym (event_at-equal g.P.Ord.cmp w total n c.args.key.now (event.Payload p c.args.encoded.now.bytes) named))
    (AtNode-given g.P.Ord.cmp w c.in-Some.ensures.node.0 c.in-Some.place cores (rw is c.in-Some.ensures.node.2) (rw is c.in-Some.ensures.node.1) (read_at cores c.in-Some.place c.index_mut.result.now c.in-Some.ensures.core c.index_mut.ensures.value)
    (c.delivery.ensures w c.in-Some.ensures.node.0 p ranged from))

use Rattle.std.proofs.Common.{arith}
use Rattle.broadcast_world.proofs.OneNode.{AtNode-given, AtNode-none}
use Rattle.broadcast_world.proofs.Places.{read_at}
use Rattle.broadcast_world.proofs.nodes.Nodes.subscribe.Goals as goal

pub returns-in_default-clause-node : goal.returns-in_default-clause-node
returns-in_default-clause-node g c = λ w is. AtNode-none g.P.Ord.cmp w _ _ _ (rw is c.in_default.ensures.node)

pub index_mut-requires : goal.index_mut-requires
index_mut-requires g c = omega (arith, c.in-Some.ensures.core, c.args.self.now.cores.ok)

pub returns-clause-node : goal.returns-clause-node
returns-clause-node g c = λ w is.
    let cores = c.args.self.now.cores.items in
    AtNode-given g.P.Ord.cmp w c.in-Some.ensures.node.0 c.in-Some.place cores (rw is c.in-Some.ensures.node.2) (rw is c.in-Some.ensures.node.1) (read_at cores c.in-Some.place c.index_mut.result.now c.in-Some.ensures.core c.index_mut.ensures.value)
    (c.subscribe.ensures w c.in-Some.ensures.node.0)

use Rattle.std.proofs.Common.{arith}
use Rattle.broadcast_world.proofs.OneNode.{AtNode-kept, AtNode-none}
use Rattle.broadcast_world.proofs.Places.{read_at}
use Rattle.broadcast_world.proofs.nodes.Nodes.get.Goals as goal

pub returns-in_default : goal.returns-in_default
returns-in_default g c = λ w is. AtNode-none g.P.Ord.cmp w _ _ _ (rw is c.in_default.ensures.node)

pub index-requires : goal.index-requires
index-requires g c = omega (arith, c.in-Some.ensures.core, c.args.self.now.cores.ok)

pub returns : goal.returns
returns g c = λ w is.
    let cores = c.args.self.now.cores.items in
    let x = c.in-Some.ensures.node.0 in
    let core = c.index.result.now in
    let was = read_at cores c.in-Some.place core c.in-Some.ensures.core c.index.ensures in
    AtNode-kept g.P.Ord.cmp w x c.in-Some.place cores (rw is c.in-Some.ensures.node.2) (rw is c.in-Some.ensures.node.1) was (c.get.ensures w x)

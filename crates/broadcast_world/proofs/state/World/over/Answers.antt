use Rattle.std.proofs.Common.{sym, subst}
use Rattle.std.specs.Arc.{arc_value}
use Rattle.broadcast_world.specs.Nodes.{AreEmpty}
use Rattle.broadcast_world.specs.Scene.{Scene}
use Rattle.broadcast_world.proofs.OneNode.{contents-empty}
use Rattle.broadcast_world.proofs.state.World.over.Goals as goal

pub returns-clause-empty : goal.returns-clause-empty
returns-clause-empty g c =
    let made = c.in_ok-new.field-0 in
    let nodes = arc_value made.keys in
    let w : Scene g.row.P.Denot = record { nodes = nodes; hostile = arc_value c.args.hostile; deque_size = c.args.deque_size; byte_budget = c.args.byte_budget; range = c.args.range } in
    record {
      cores = contents-empty g.P.Ord.cmp w nodes made.cores.items
          (subst (λ ks. AreEmpty g.P.Ord.cmp c.args.deque_size c.args.byte_budget (arc_value ks) made.cores.items) (sym c.in_ok-new.ensures.keys) c.in_ok-new.ensures.empty);
      packets = rw c.new-2.ensures.items tt;
    }

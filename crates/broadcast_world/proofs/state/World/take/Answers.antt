use Rattle.std.proofs.Common.{refl, sym, subst}
use Rattle.std.proofs.lemmas.Map.Keys.{IsDistinct-from_sorted}
use Rattle.std.specs.Arc.{arc_value}
use Rattle.std.specs.List.{IsDistinct}
use Rattle.std.specs.Ordering.{eq_by_cmp}
use Rattle.broadcast_world.specs.Scene.{Scene}
use Rattle.broadcast_world.specs.World.{event_of, packets}
use Rattle.broadcast_world.specs.Steps.{HasWorld}
use Rattle.broadcast_world.specs.Nodes.{TakesStep}
use Rattle.broadcast_world.proofs.Stepped.{TakesStep-at}
use Rattle.broadcast_world.proofs.state.World.take.Goals as goal

pub returns : goal.returns
returns g c = λ log has.
    let cmp = g.P.Ord.cmp in
    let total = g.met.P.Ord.total in
    let w : Scene g.row.P.Denot = record { nodes = arc_value c.self.inside.nodes.keys; hostile = arc_value c.self.inside.hostile; deque_size = c.self.inside.deque_size; byte_budget = c.self.inside.byte_budget; range = c.self.inside.range } in
    let step = c.args.step.now in
    let was = subst (λ now. HasWorld cmp log now) (sym c.self.view_is) has in
    subst (λ ks. TakesStep cmp log step c.apply.result c.args.self.now (record { scene = record { nodes = arc_value ks; hostile = arc_value c.self.inside.hostile; deque_size = c.self.inside.deque_size; byte_budget = c.self.inside.byte_budget; range = c.self.inside.range }; cores = c.apply.new.nodes.cores.items; packets = c.apply.new.packets.items })) (sym c.apply.ensures.keys)
    (subst (λ old. TakesStep cmp log step c.apply.result old (record { scene = w; cores = c.apply.new.nodes.cores.items; packets = c.apply.new.packets.items })) c.self.view_is
    (TakesStep-at cmp w total (subst (λ ns. IsDistinct (eq_by_cmp cmp) ns) c.deref-nodes.ensures (IsDistinct-from_sorted cmp c.deref-nodes.result.now c.as_slice-sorted.ensures.sorted)) log step c.apply.result (event_of cmp w step (packets cmp w log))
    refl (c.apply.ensures.node w (packets cmp w log) refl (sym c.deref-hostile.ensures) refl was.packets) (c.apply.ensures.packets w (packets cmp w log) refl (sym c.deref-hostile.ensures) refl was.packets) was))

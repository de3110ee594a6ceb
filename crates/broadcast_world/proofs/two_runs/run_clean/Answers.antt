use Rattle.std.proofs.Common.{map, subst, ap, ◌∙◌}
use Rattle.std.specs.Prelude.{IfOk}
use Rattle.broadcast_world.specs.World.{Log}
use Rattle.broadcast_world.specs.Steps.{HasWorld, TakesSteps}
use Rattle.broadcast_world.proofs.two_runs.run_clean.Goals as goal

pub returns : goal.returns
returns g c = record {
  ok = subst (λ l. IfOk c.run_each.result (λ run. (log : Log g.row.P.Denot) → HasWorld g.P.Ord.cmp log c.args.world.now → TakesSteps g.P.Ord.cmp log l run.answers c.args.world.now c.run_each.new.world))
      (ap (λ l. map (λ s. s.now) l) c.deref.ensures.value ∙ c.in_ok-clean.ensures) c.run_each.ensures;
}

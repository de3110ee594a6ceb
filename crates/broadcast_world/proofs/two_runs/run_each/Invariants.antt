use Rattle.std.proofs.Common.{◌+◌, ◌-◌, ◌≤◌, map, take, length}
use Rattle.std.specs.Prelude.{vec_len, vec_capacity}
use Rattle.broadcast_world.specs.World.{Log}
use Rattle.broadcast_world.specs.Steps.{HasWorld, TakesSteps}
use Rattle.broadcast_world.proofs.two_runs.run_each.Given as goal

abbrev pub invariant-loop-step : goal.invariant-loop-step
invariant-loop-step g l = record {
  room : vec_len l.answers + (length l.steps - l.step-index) ≤ vec_capacity l.answers;
  taken : (log : Log g.row.P.Denot) → HasWorld g.P.Ord.cmp log l.initial.world → TakesSteps g.P.Ord.cmp log (map (λ s. s.now) (take l.step-index l.steps)) l.answers.items l.initial.world l.world;
}

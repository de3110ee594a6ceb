use Rattle.std.proofs.Common.{◌≡◌, map, take}
use Rattle.broadcast_world.specs.TwoRuns.{without_hostile}
use Rattle.broadcast_world.proofs.two_runs.without_hostile.Given as goal

abbrev pub invariant-loop-step : goal.invariant-loop-step
invariant-loop-step g l = map (λ s. s.now) l.clean.items ≡ without_hostile (take l.step-index l.steps)

use Rattle.std.proofs.Common.{◌++◌, ◌∷◌, [], map, take, arith, sym, subst}
use Rattle.std.proofs.lemmas.List.{take_all}
use Rattle.broadcast_world.specs.Steps.{TakesSteps}
use Rattle.broadcast_world.proofs.Places.{map_next}
use Rattle.broadcast_world.proofs.TakenSteps.{TakesSteps-push}
use Rattle.broadcast_world.proofs.two_runs.run_each.Goals as goal

pub loop-step-preserved : goal.loop-step-preserved
loop-step-preserved g c =
    let cmp = g.P.Ord.cmp in
    let at = c.loop-step in
    let before = map (λ s. s.now) (take at.step-index c.args.steps.now) in
    let step = c.step-item.result in
    let more = map_next (λ s. s.now) c.args.steps.now at.step-index step c.loop-step-test.true c.step-item.is in
    record {
      room = omega (arith, c.push_reserved.ensures.len, c.push_reserved.ensures.capacity, at.invariant.room, c.loop-step-test.true);
      taken = λ log has.
          subst (λ steps. TakesSteps cmp log steps c.push_reserved.new.self.items c.args.world.now c.take.new.self) (sym more)
          (subst (λ answers. TakesSteps cmp log (before ++ step.now ∷ []) answers c.args.world.now c.take.new.self) (sym c.push_reserved.ensures.items)
          (TakesSteps-push cmp (at.invariant.taken log has) c.take.ensures));
    }

pub returns : goal.returns
returns g c = λ log has.
    let at = c.loop-step in
    let all = take_all at.step-index c.args.steps.now (omega arith) in
    subst (λ answers. TakesSteps g.P.Ord.cmp log (map (λ s. s.now) c.args.steps.now) answers c.args.world.now at.world) (sym c.from_vec.ensures)
    (subst (λ steps. TakesSteps g.P.Ord.cmp log (map (λ s. s.now) steps) at.answers.items c.args.world.now at.world) all (at.invariant.taken log has))

use Rattle.std.proofs.Common.{◌++◌, arith, sym, subst}
use Rattle.std.proofs.lemmas.List.{take_all}
use Rattle.broadcast_world.specs.Steps.{TakesSteps}
use Rattle.broadcast_world.specs.World.{log_of}
use Rattle.broadcast_world.proofs.Origins.{HasOrigins-from}
use Rattle.broadcast_world.proofs.TakenSteps.{TakesSteps-next}
use Rattle.broadcast_world.proofs.run.run_world.Goals as goal

pub loop-step-preserved : goal.loop-step-preserved
loop-step-preserved g c =
    let at = c.loop-step in
    record {
      room = omega (arith, c.push_reserved.ensures.len, c.push_reserved.ensures.capacity, at.invariant.room, c.loop-step-test.true);
      taken = λ log has. TakesSteps-next g.P.Ord.cmp c.args.steps.now at.step-index c.loop-step-test.true c.step-item.is c.push_reserved.ensures.items (at.invariant.taken log has) c.take.ensures;
    }

pub returns-clause-ok : goal.returns-clause-ok
returns-clause-ok g c = λ log has.
    let at = c.loop-step in
    let all = take_all at.step-index c.args.steps.now (omega arith) in
    subst (λ answers. TakesSteps g.P.Ord.cmp log c.args.steps.now answers c.args.world.now at.world) (sym c.from_vec.ensures)
    (subst (λ steps. TakesSteps g.P.Ord.cmp log steps at.answers.items c.args.world.now at.world) all (at.invariant.taken log has))

pub returns-clause-origins : goal.returns-clause-origins
returns-clause-origins g c = λ log has.
    let total = g.met.P.Ord.total in
    HasOrigins-from g.P.Ord.cmp total c.loop-step.world.scene (log_of c.args.steps.now c.from_vec.result ++ log) c.loop-step.world.cores (returns-clause-ok g c log has).world.cores

use Rattle.std.proofs.Common.{arith}
use Rattle.std.proofs.lemmas.Grind.{common_steps}
use Rattle.broadcast_world.proofs.relay.answers.relay_answers.Goals as goal

pub loop-answer-preserved : goal.loop-answer-preserved
loop-answer-preserved g c = record {
  rest = grind (arith, common_steps);
  relayed = c.in_ok-add_told.ensures c.loop-answer.yielded c.loop-answer.invariant.relayed;
}

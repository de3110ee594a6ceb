use Rattle.std.proofs.Common.{◌≡◌, ◌++◌}
use Rattle.std.specs.Ordering.{eq_by_cmp}
use Rattle.std.specs.Vec.Iter.{into_iter_items}
use Rattle.broadcast_world.specs.Relayed.{relayed}
use Rattle.broadcast_world.proofs.relay.answers.relay_answers.Given as goal

abbrev pub invariant-loop-answer : goal.invariant-loop-answer
invariant-loop-answer g l = record {
  rest : l.yielded ++ into_iter_items l.answer-iterator ≡ into_iter_items l.initial.answer-iterator;
  relayed : l.firsts ≡ relayed (eq_by_cmp g.M.Digest.Ord.cmp) l.yielded;
}

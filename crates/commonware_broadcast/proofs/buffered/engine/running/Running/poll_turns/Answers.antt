use Rattle.commonware_broadcast.proofs.Polls.{SomePolls-none, SomePolls-one}
use Rattle.commonware_broadcast.proofs.buffered.engine.running.Running.poll_turns.Goals as goal

pub loop-init : goal.loop-init
loop-init g c = record {
  took = SomePolls-none;
  kept = λ fact h. h;
}

pub returns-in-Some-clause-took : goal.returns-in-Some-clause-took
returns-in-Some-clause-took g c = SomePolls-one c.loop.invariant.took c.poll.ensures.polled

pub returns-in-Pending-clause-took : goal.returns-in-Pending-clause-took
returns-in-Pending-clause-took g c = SomePolls-one c.loop.invariant.took c.poll.ensures.polled

pub loop-preserved : goal.loop-preserved
loop-preserved g c = record {
  took = SomePolls-one c.loop.invariant.took c.poll.ensures.polled;
  kept = λ fact h. c.poll.ensures.kept fact (c.loop.invariant.kept fact h);
}

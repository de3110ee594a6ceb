use Rattle.commonware_broadcast.proofs.buffered.engine.running.Running.poll_asked.Goals as goal

pub returns-in-Ready-clause-kept : goal.returns-in-Ready-clause-kept
returns-in-Ready-clause-kept g c = λ fact h. c.poll_turns.ensures.kept fact (c.answer_asked.ensures fact h)

pub returns-then-is_asked-clause-kept : goal.returns-then-is_asked-clause-kept
returns-then-is_asked-clause-kept g c = λ fact h. c.yield_now.ensures.kept fact (c.poll_turns.ensures.kept fact (c.answer_asked.ensures fact h))

pub returns-else-is_asked-clause-kept : goal.returns-else-is_asked-clause-kept
returns-else-is_asked-clause-kept g c = λ fact h. c.poll_turns.ensures.kept fact (c.answer_asked.ensures fact h)

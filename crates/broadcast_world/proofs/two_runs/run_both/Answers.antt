use Rattle.broadcast_world.proofs.two_runs.run_both.Goals as goal

pub returns-clause-with_run : goal.returns-clause-with_run
returns-clause-with_run g c = c.in_ok-with_log.ensures.ok

pub returns-clause-without_run : goal.returns-clause-without_run
returns-clause-without_run g c = c.in_ok-without_log.ensures.ok

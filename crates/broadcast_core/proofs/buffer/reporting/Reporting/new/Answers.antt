use Rattle.broadcast_core.proofs.buffer.reporting.Reporting.new.Goals as goal

pub returns-clause-core : goal.returns-clause-core
returns-clause-core g c = c.new.ensures.core c.args.own

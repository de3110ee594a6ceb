use Rattle.broadcast_core.proofs.buffer.Core.new.Goals as goal

pub returns : goal.returns
returns g c = c.new.ensures.core c.args.own

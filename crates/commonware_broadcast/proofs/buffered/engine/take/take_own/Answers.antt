use Rattle.std.proofs.Common.{map, ap, ◌∙◌}
use Rattle.broadcast_core.specs.Handed.{to_subscribe}
use Rattle.commonware_broadcast.proofs.buffered.engine.take.take_own.Goals as goal

pub returns-clause-serves : goal.returns-clause-serves
returns-clause-serves g c =
    let served = c.respond_waiters.ensures c.args.message.now c.in_ok-copies.ensures.equal in
    record {
      replies = served.0;
      takes = c.in_ok-taken.ensures.ok;
      due = served.1 ∙ ap (λ ws. map (λ w. to_subscribe w c.args.message.now) ws) c.in_ok-taken.ensures.served;
      hands = served.2;
    }

use Rattle.std.proofs.Common.{refl}
use Rattle.broadcast_core.proofs.Lawful.{same_by-lawful}
use Rattle.broadcast_core.proofs.Stepping.{HasContent-clear_waiters}
use Rattle.commonware_broadcast.proofs.Composing.{told-same}
use Rattle.commonware_broadcast.proofs.buffered.engine.handler.drop_waiters.Goals as goal

pub returns-clause-ended : goal.returns-clause-ended
returns-clause-ended g c = λ s e past has cause.
    let lawful = same_by-lawful g.met.P.Ord.total (g.met.M.Digest.Ord g.world.𝓛 g.world.𝓜 g.world.𝓡 (λ s x. x, λ x. x, λ x. x, λ x. x)).total in
    record {
      lawful = tt;
      content = HasContent-clear_waiters e lawful has c.clear_waiters.ensures.store c.clear_waiters.ensures.none_waits;
      counted = refl;
      replied = told-same g.O.Outlet.told c.args.node.now.outlet;
    }

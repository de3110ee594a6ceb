use Rattle.std.specs.Ordering.{eq_by_cmp}
use Rattle.std.proofs.Common.{sym, subst}
use Rattle.broadcast_core.specs.Concerns.{AreEqual}
use Rattle.broadcast_world.specs.World.{addressed}
use Rattle.broadcast_world.proofs.broadcast.prepare.Goals as goal

pub returns-clause-made : goal.returns-clause-made
returns-clause-made g c = λ w is.
    let to = addressed g.P.Ord.cmp w c.args.sender.now c.args.recipients.now in
    c.in_ok-made.ensures w to (subst (λ ns. AreEqual (eq_by_cmp g.P.Ord.cmp) ns to) (sym c.deref.ensures.value) (c.in_ok-to.ensures w is))

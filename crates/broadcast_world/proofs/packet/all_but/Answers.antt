use Rattle.std.proofs.Common.{arith, sym, subst}
use Rattle.std.specs.Ordering.{eq_by_cmp}
use Rattle.std.proofs.lemmas.List.{take_all}
use Rattle.broadcast_core.specs.Concerns.{AreEqual}
use Rattle.broadcast_core.specs.Content.{without}
use Rattle.broadcast_world.proofs.Addressed.{without-next}
use Rattle.broadcast_world.proofs.packet.all_but.Goals as goal

pub loop-key-preserved : goal.loop-key-preserved
loop-key-preserved g c =
    let same = eq_by_cmp g.P.Ord.cmp in
    let n = c.args.sender.now in
    subst (λ ps. AreEqual same c.push_other.new.to.items ps) (sym (without-next same n c.key-item.result c.args.keys.now c.loop-key.key-index c.loop-key-test.true c.key-item.is))
    (c.in_ok-push_other.ensures _ c.loop-key.invariant)

pub returns : goal.returns
returns g c =
    let same = eq_by_cmp g.P.Ord.cmp in
    subst (λ ps. AreEqual same c.loop-key.to.items (without same c.args.sender.now ps)) (take_all c.loop-key.key-index c.args.keys.now (omega arith)) c.loop-key.invariant

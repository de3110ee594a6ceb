use Rattle.std.proofs.Common.{◌≡◌, [], sym, ◌∙◌, ap, subst}
use Rattle.std.specs.Ordering.{eq_by_cmp}
use Rattle.std.specs.List.{IsDistinct}
use Rattle.std.proofs.lemmas.Map.Keys.{IsDistinct-from_sorted}
use Rattle.broadcast_core.specs.Concerns.{AreEqual}
use Rattle.broadcast_core.specs.Content.{without}
use Rattle.std.specs.Prelude.{IfOk}
use Rattle.broadcast_world.specs.World.{addressed}
use Rattle.broadcast_world.proofs.Addressed.{addressed-all}
use Rattle.broadcast_world.proofs.packet.addressees.Goals as goal

pub returns-in_ok-address-in-One : goal.returns-in_ok-address-in-One
returns-in_ok-address-in-One g c = λ w is. rw c.in-One.is (c.in_ok-address-in-One.ensures w is [] (rw c.new-to.ensures.items tt))

pub returns-in-All : goal.returns-in-All
returns-in-All g c = λ w is.
    let cmp = g.P.Ord.cmp in
    let total = g.met.P.Ord.total in
    let n = c.args.sender.now in
    let apart = subst (λ ns. IsDistinct (eq_by_cmp cmp) ns) (sym is) (IsDistinct-from_sorted cmp c.args.nodes.now c.as_slice.ensures.sorted) in
    let all : without (eq_by_cmp cmp) n c.as_slice.result.now ≡ addressed cmp w n c.args.recipients.now =
    ap (without (eq_by_cmp cmp) n) (c.as_slice.ensures.keys ∙ sym is) ∙ sym (addressed-all cmp w total apart n) ∙ ap (addressed cmp w n) (sym c.in-All.is) in
    subst (λ ps. IfOk c.all_but.result (λ to. AreEqual (eq_by_cmp cmp) to.items ps)) all c.all_but.ensures

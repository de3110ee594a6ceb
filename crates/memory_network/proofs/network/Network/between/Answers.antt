use Rattle.std.proofs.Common.{◌≡◌, true, ◌∙◌, subst}
use Rattle.std.specs.List.{AllZip}
use Rattle.std.specs.Ordering.{eq_by_cmp}
use Rattle.std.proofs.lemmas.Cmp.{eq_by_cmp_equiv}
use Rattle.std.proofs.lemmas.List.{take_all}
use Rattle.std.proofs.lemmas.List.Elements.{all_zip_more}
use Rattle.std.proofs.lemmas.Result.{IfOk-weaker}
use Rattle.memory_network.proofs.Growing.{has_node-alike, any-copies}
use Rattle.memory_network.proofs.network.Network.between.Goals as goal

pub loop-key-preserved : goal.loop-key-preserved
loop-key-preserved g c =
    let copy = c.in_ok-clone.field-0 in
    let copied = g.met.P.PublicKey.copies _ _ c.in_ok-clone.ensures.cases in
    rw c.in_ok-push.ensures.items
    (all_zip_more _ _ c.loop-key.copies.items c.loop-key.key-index c.key-item.result copy c.loop-key-test.true c.key-item.is c.loop-key.invariant copied)

pub returns : goal.returns
returns g c =
    let cmp = g.P.Ord.cmp in
    let laws = eq_by_cmp_equiv g.met.P.Ord.total in
    IfOk-weaker c.new-2.result _ _
    (λ network nodes key. has_node-alike cmp laws key _ network nodes ∙ c.in_ok-from_iter_dedup.ensures.members key ∙ any-copies cmp laws key _ _ (subst (λ keys. AllZip (λ x y. eq_by_cmp cmp x y ≡ true) keys c.loop-key.copies.items) (take_all _ c.args.keys.now c.loop-key-test.false) c.loop-key.invariant))
    c.new-2.ensures

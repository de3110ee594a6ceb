use Rattle.std.proofs.Common.{◌≡◌, ◌+◌, true, ◌∷◌, [], ◌++◌, take, arith, refl, sym, ap, ◌∙◌, subst}
use Rattle.std.specs.Ordering.{eq_by_cmp}
use Rattle.std.proofs.lemmas.List.{take_all, take_more}
use Rattle.broadcast_world.specs.Nodes.{AreEmpty}
use Rattle.broadcast_core.specs.Empty.{empty}
use Rattle.broadcast_world.proofs.Places.{AllZip-append}
use Rattle.broadcast_world.proofs.made.cores_for.Goals as goal

pub loop-node-preserved : goal.loop-node-preserved
loop-node-preserved g c =
    let cmp = g.P.Ord.cmp in
    let i = c.loop-node.node-index in
    let node = c.node-item.result in
    let copy = c.in_ok-clone.field-0 in
    let copied : eq_by_cmp cmp node copy ≡ true = g.met.P.PublicKey.copies _ _ c.in_ok-clone.ensures.cases in
    let more : take (i + 1) c.args.nodes.now ≡ take i c.args.nodes.now ++ node ∷ [] = take_more c.args.nodes.now i node c.loop-node-test.true ∙ ap (λ n. take i c.args.nodes.now ++ n ∷ []) (sym c.node-item.is) in
    subst (λ ns. AreEmpty cmp c.args.deque_size c.args.byte_budget ns c.push.new.self.items) (sym more)
    (subst (λ cs. AreEmpty cmp c.args.deque_size c.args.byte_budget (take i c.args.nodes.now ++ node ∷ []) cs) (sym (c.in_ok-push.ensures.items ∙ ap (λ core. c.loop-node.cores.items ++ core ∷ []) c.new.ensures))
    (AllZip-append _ (take i c.args.nodes.now) c.loop-node.cores.items (node ∷ []) (empty copy c.args.deque_size c.args.byte_budget ∷ []) c.loop-node.invariant ((copied, refl), tt)))

pub returns : goal.returns
returns g c = subst (λ ns. AreEmpty g.P.Ord.cmp c.args.deque_size c.args.byte_budget ns c.loop-node.cores.items) (take_all c.loop-node.node-index c.args.nodes.now (omega arith)) c.loop-node.invariant

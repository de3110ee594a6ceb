use Rattle.std.proofs.Common.{sym, ap, ◌∙◌, arith}
use Rattle.broadcast_core.proofs.OrderedLemmas.{none_between, same_place}
use Rattle.broadcast_core.proofs.ordered.seek.Goals as goal

pub returns-in-Greater : goal.returns-in-Greater
returns-in-Greater g c =
    sym (none_between g.met.K.Ord.total c.args.keys.now c.requires c.args.key.now c.loop-at.at c.loop-at.invariant
    (λ d inside. ap (λ x. g.K.Ord.cmp x c.args.key.now) (same_place c.args.keys.now c.loop-at.at d c.index-keys-at.result inside ∙ sym c.index-keys-at.is) ∙ sym c.cmp.ensures ∙ c.in-Greater.is))

pub returns : goal.returns
returns g c =
    sym (none_between g.met.K.Ord.total c.args.keys.now c.requires c.args.key.now c.loop-at.at c.loop-at.invariant
    (λ d inside. absurd (omega (arith, inside, c.loop-at-test.false))))

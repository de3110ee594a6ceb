use Rattle.std.proofs.Common.{◌∙◌, ap, sym}
use Rattle.std.specs.List.{list_any}
use Rattle.std.specs.Ordering.{eq_by_cmp, is_eq}
use Rattle.std.proofs.lemmas.Cmp.{eq_by_cmp_equiv}
use Rattle.std.proofs.lemmas.List.Folds.{list_any_at}
use Rattle.commonware_broadcast.proofs.buffered.engine.closed.Closed.insert.Goals as goal

-- what a search finds is one of them
pub returns-in_default-clause-kept : goal.returns-in_default-clause-kept
returns-in_default-clause-kept g c = λ _.
    let same = eq_by_cmp g.M.Digest.Ord.cmp in
    let total = (g.met.M.Digest.Ord g.world.𝓛 g.world.𝓜 g.world.𝓡 (λ s x. x, λ x. x, λ x. x, λ x. x)).total in
    sym (ap (list_any (same c.args.digest)) c.deref.ensures.value)
    ∙ list_any_at (same c.args.digest) c.deref.result.now c.in_default.field-0 c.args.digest c.in_default.ensures.bound
    ((eq_by_cmp_equiv total).symm c.args.digest _ ∙ ap is_eq (c.in_default.ensures.ok c.args.digest))

use Rattle.std.proofs.Common.{sym, subst}
use Rattle.std.specs.Cmp.{IsEquivalence}
use Rattle.broadcast_core.specs.Content.{same_by}
use Rattle.examples.proofs.Finding.{found_was_taken}
use Rattle.examples.proofs.store.find.Goals as goal

pub returns : goal.returns
returns g c s past is has =
    let same = same_by g.P.Ord.cmp g.M.Digest.Ord.cmp in
    let keys = subst (λ eqs. IsEquivalence eqs.key) (sym is) c.same_law.ensures.key in
    let digests = subst (λ eqs. IsEquivalence eqs.digest) (sym is) c.same_law.ensures.digest in
    found_was_taken s same past c.args.core.now is has c.args.digest.now (c.cache_law.ensures.was_taken s keys digests past c.args.digest.now) c.get.result c.get.ensures.message

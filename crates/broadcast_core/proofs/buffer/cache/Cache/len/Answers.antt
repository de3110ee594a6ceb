use Rattle.std.proofs.Common.{◌*◌, ◌≤◌, length, sym, subst}
use Rattle.std.specs.Cmp.{eq_by_cmp_equiv}
use Rattle.broadcast_core.specs.Content.{same_by}
use Rattle.broadcast_core.specs.Numbered.{named_of}
use Rattle.broadcast_core.proofs.CachedCount.{length-cached}
use Rattle.broadcast_core.proofs.buffer.cache.Cache.len.Goals as goal

pub returns-clause-bounded : goal.returns-clause-bounded
returns-clause-bounded g c =
    let same = same_by g.P.Ord.cmp g.M.Digest.Ord.cmp in
    let shelf = c.self.inside.shelf in
    let key_laws = eq_by_cmp_equiv g.met.P.Ord.total in
    let laws = eq_by_cmp_equiv (g.met.M.Digest.Ord g.world.𝓛 g.world.𝓜 g.world.𝓡 (λ s x. x, λ x. x, λ x. x, λ x. x)).total in
    let few = length-cached {same = same} key_laws laws shelf.deque_size shelf.byte_budget c.self.inside.primary (named_of c.self.inside.numbers shelf.stored) c.self.invariant.1 c.len.ensures.distinct in
    rw (← c.self.view_is) (subst (λ n. n ≤ length c.self.inside.primary * shelf.deque_size) (sym c.len.ensures.len) few)

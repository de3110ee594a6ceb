use Rattle.std.specs.Cmp.{eq_by_cmp_equiv}
use Rattle.broadcast_core.specs.Content.{same_by}
use Rattle.broadcast_core.specs.Numbered.{named_of}
use Rattle.broadcast_core.proofs.Taking.{kept, IsCached-kept}
use Rattle.broadcast_core.proofs.buffer.cache.Cache.update_primary_peers.Goals as goal

pub drop_lists-requires-after_bounds : goal.drop_lists-requires-after_bounds
drop_lists-requires-after_bounds g c κs within = c.self.invariant.0

pub invariant_of-self : goal.invariant_of-self
invariant_of-self g c =
    let same = same_by g.P.Ord.cmp g.M.Digest.Ord.cmp in
    let laws = eq_by_cmp_equiv g.met.P.Ord.total in
    let shelf = c.self.inside.shelf in
    let old = named_of c.self.inside.numbers shelf.stored in
    let new = named_of c.drop_lists.new.numbers c.drop_lists.new.shelf.stored in
    let keeps = kept same laws shelf.deque_size shelf.byte_budget c.args.peers c.self.inside.primary old new c.self.invariant.1 (rw c.as_slice.ensures.keys at c.drop_lists.ensures.dropped) in (
      c.drop_lists.ensures.numbered,
      rw (c.drop_lists.ensures.sheds.deque_size, c.drop_lists.ensures.sheds.byte_budget) (IsCached-kept same laws shelf.deque_size shelf.byte_budget c.args.peers c.self.inside.primary old new c.self.invariant.1 keeps),
    )

pub returns-clause-lawful : goal.returns-clause-lawful
returns-clause-lawful g c = rw (← c.self.view_is) c.self.invariant.1

pub returns-clause-dropped : goal.returns-clause-dropped
returns-clause-dropped g c = rw (← c.self.view_is) (rw c.as_slice.ensures.keys at c.drop_lists.ensures.dropped)

pub returns-clause-sheds : goal.returns-clause-sheds
returns-clause-sheds g c = rw (← c.self.view_is) (record { deque_size = c.drop_lists.ensures.sheds.deque_size; byte_budget = c.drop_lists.ensures.sheds.byte_budget; left = c.drop_lists.ensures.sheds.left })

use Rattle.std.specs.Cmp.{eq_by_cmp_equiv}
use Rattle.broadcast_core.specs.Content.{same_by}
use Rattle.broadcast_core.proofs.Taking.{kept, Unawaited-kept, TakesPeers-kept}
use Rattle.broadcast_core.proofs.buffer.state.State.update_primary_peers.Goals as goal

pub invariant_of-self : goal.invariant_of-self
invariant_of-self g c =
    let same = same_by g.P.Ord.cmp g.M.Digest.Ord.cmp in
    let cache = c.self.inside.cache in
    let shelf = cache.shelf in
    let new = c.update_primary_peers.new.self.shelf.stored in
    let laws = eq_by_cmp_equiv g.met.P.Ord.total in
    let lawful = c.update_primary_peers.ensures.lawful in
    let keeps = kept same laws shelf.deque_size shelf.byte_budget c.args.peers cache.primary shelf.stored new lawful c.update_primary_peers.ensures.dropped in
    Unawaited-kept same laws shelf.deque_size shelf.byte_budget c.args.peers cache.primary shelf.stored new lawful keeps c.self.inside.waiters c.self.invariant

pub returns-clause-taken : goal.returns-clause-taken
returns-clause-taken g c = λ own.
    let same = same_by g.P.Ord.cmp g.M.Digest.Ord.cmp in
    let cache = c.self.inside.cache in
    let shelf = cache.shelf in
    let new = c.update_primary_peers.new.self in
    let laws = eq_by_cmp_equiv g.met.P.Ord.total in
    let lawful = c.update_primary_peers.ensures.lawful in
    let keeps = kept same laws shelf.deque_size shelf.byte_budget c.args.peers cache.primary shelf.stored new.shelf.stored lawful c.update_primary_peers.ensures.dropped in
    rw (← c.self.view_is, c.update_primary_peers.ensures.primary, c.update_primary_peers.ensures.sheds.deque_size, c.update_primary_peers.ensures.sheds.byte_budget)
    (TakesPeers-kept same laws shelf.deque_size shelf.byte_budget c.args.peers cache.primary shelf.stored new.shelf.stored lawful keeps c.self.inside.waiters own)

pub returns-clause-sheds : goal.returns-clause-sheds
returns-clause-sheds g c = rw (← c.self.view_is) c.update_primary_peers.ensures.sheds

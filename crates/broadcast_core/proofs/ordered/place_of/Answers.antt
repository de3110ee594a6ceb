use Rattle.broadcast_core.proofs.OrderedLemmas.{place_found, place_decides}
use Rattle.broadcast_core.proofs.ordered.place_of.Goals as goal

pub returns-clause-place : goal.returns-clause-place
returns-clause-place g c =
    rw c.ok.ensures.value (place_found g.met.K.Ord.total c.args.keys.now c.args.key.now c.binary_search.result c.binary_search.ensures.bound c.binary_search.ensures.ok)

pub returns-clause-some : goal.returns-clause-some
returns-clause-some g c =
    rw c.ok.ensures.value (place_decides g.met.K.Ord.total c.args.keys.now c.args.key.now c.binary_search.result c.requires c.binary_search.ensures.bound c.binary_search.ensures.position)

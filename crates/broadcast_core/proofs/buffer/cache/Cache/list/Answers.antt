use Rattle.std.proofs.Common.{rules, sym}
use Rattle.std.specs.List.{IsDistinct}
use Rattle.std.specs.Ordering.{eq_by_cmp}
use Rattle.broadcast_core.proofs.Numbering.{named_there, named_nowhere}
use Rattle.broadcast_core.proofs.buffer.cache.Cache.list.Goals as goal

pub returns-in-Some-clause-digests : goal.returns-in-Some-clause-digests
returns-in-Some-clause-digests g c = rw (← c.self.view_is, named_there (eq_by_cmp g.P.Ord.cmp) c.self.inside.numbers c.self.inside.shelf.stored.lists c.args.peer.now c.in-Some.list.now (sym c.in-Some.ensures.value)) c.list.ensures.digests

pub returns-in-Some-clause-succeeds_on_empty : goal.returns-in-Some-clause-succeeds_on_empty
returns-in-Some-clause-succeeds_on_empty g c = rw (← c.self.view_is, named_there (eq_by_cmp g.P.Ord.cmp) c.self.inside.numbers c.self.inside.shelf.stored.lists c.args.peer.now c.in-Some.list.now (sym c.in-Some.ensures.value)) c.list.ensures.succeeds_on_empty

pub returns-in-Some-clause-distinct : goal.returns-in-Some-clause-distinct
returns-in-Some-clause-distinct g c = rw (← c.self.view_is, named_there (eq_by_cmp g.P.Ord.cmp) c.self.inside.numbers c.self.inside.shelf.stored.lists c.args.peer.now c.in-Some.list.now (sym c.in-Some.ensures.value)) c.list.ensures.distinct

pub returns-in-None-clause-digests : goal.returns-in-None-clause-digests
returns-in-None-clause-digests g c = rw (← c.self.view_is, named_nowhere (eq_by_cmp g.P.Ord.cmp) c.self.inside.numbers c.self.inside.shelf.stored.lists c.args.peer.now (sym c.in-None.ensures.value)) (search rules)

pub returns-in-None-clause-distinct : goal.returns-in-None-clause-distinct
unfolding IsDistinct
returns-in-None-clause-distinct g c = rw (← c.self.view_is, named_nowhere (eq_by_cmp g.P.Ord.cmp) c.self.inside.numbers c.self.inside.shelf.stored.lists c.args.peer.now (sym c.in-None.ensures.value)) tt

pub returns-in-Some-clause-lawful : goal.returns-in-Some-clause-lawful
returns-in-Some-clause-lawful g c = rw (← c.self.view_is) c.self.invariant.1

pub returns-in-None-clause-lawful : goal.returns-in-None-clause-lawful
returns-in-None-clause-lawful g c = rw (← c.self.view_is) c.self.invariant.1

use Rattle.std.proofs.Common.{length, sym, ap, ◌∙◌}
use Rattle.std.specs.Ordering.{eq_by_cmp}
use Rattle.entries.specs.Overlaid.{overlaid}
use Rattle.broadcast_core.specs.Content.{digests_of}
use Rattle.broadcast_core.proofs.Numbering.{named_there, named_nowhere}
use Rattle.broadcast_core.proofs.buffer.cache.Cache.list_into.Goals as goal

pub returns-in-Some-clause-len : goal.returns-in-Some-clause-len
returns-in-Some-clause-len g c = rw (← c.self.view_is) (c.list_into.ensures.len ∙ sym (ap length (named_there (eq_by_cmp g.P.Ord.cmp) c.self.inside.numbers c.self.inside.shelf.stored.lists c.args.peer.now c.in-Some.list.now (sym c.in-Some.ensures.value))))

pub returns-in-Some-clause-digests : goal.returns-in-Some-clause-digests
returns-in-Some-clause-digests g c = rw (← c.self.view_is) (c.list_into.ensures.digests ∙ sym (ap (λ cs. overlaid (digests_of cs) c.args.out.now) (named_there (eq_by_cmp g.P.Ord.cmp) c.self.inside.numbers c.self.inside.shelf.stored.lists c.args.peer.now c.in-Some.list.now (sym c.in-Some.ensures.value))))

pub returns-in-None-clause-len : goal.returns-in-None-clause-len
returns-in-None-clause-len g c = rw (← c.self.view_is) (sym (ap length (named_nowhere (eq_by_cmp g.P.Ord.cmp) c.self.inside.numbers c.self.inside.shelf.stored.lists c.args.peer.now (sym c.in-None.ensures.value))))

pub returns-in-None-clause-digests : goal.returns-in-None-clause-digests
returns-in-None-clause-digests g c = rw (← c.self.view_is) (sym (ap (λ cs. overlaid (digests_of cs) c.args.out.now) (named_nowhere (eq_by_cmp g.P.Ord.cmp) c.self.inside.numbers c.self.inside.shelf.stored.lists c.args.peer.now (sym c.in-None.ensures.value))))

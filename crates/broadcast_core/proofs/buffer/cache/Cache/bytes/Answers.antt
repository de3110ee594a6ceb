use Rattle.std.proofs.Common.{sym, ap, ◌∙◌, arith}
use Rattle.std.specs.Ordering.{eq_by_cmp}
use Rattle.broadcast_core.specs.Content.{bytes_of}
use Rattle.broadcast_core.proofs.Numbering.{named_there, named_nowhere}
use Rattle.broadcast_core.proofs.buffer.cache.Cache.bytes.Goals as goal

pub returns-in-Some-clause-sum : goal.returns-in-Some-clause-sum
returns-in-Some-clause-sum g c = rw (← c.self.view_is) (c.bytes.ensures ∙ sym (ap bytes_of (named_there (eq_by_cmp g.P.Ord.cmp) c.self.inside.numbers c.self.inside.shelf.stored.lists c.args.peer.now c.in-Some.list.now (sym c.in-Some.ensures.value))))

pub returns-in-Some-clause-bounded : goal.returns-in-Some-clause-bounded
returns-in-Some-clause-bounded g c =
    let is = c.bytes.ensures ∙ sym (ap bytes_of (named_there (eq_by_cmp g.P.Ord.cmp) c.self.inside.numbers c.self.inside.shelf.stored.lists c.args.peer.now c.in-Some.list.now (sym c.in-Some.ensures.value))) in
    rw (← c.self.view_is) (omega (arith, is, c.self.invariant.1.affordable c.args.peer.now))

pub overflow_cast-result : goal.overflow_cast-result
overflow_cast-result g c =
    let is = c.bytes.ensures ∙ sym (ap bytes_of (named_there (eq_by_cmp g.P.Ord.cmp) c.self.inside.numbers c.self.inside.shelf.stored.lists c.args.peer.now c.in-Some.list.now (sym c.in-Some.ensures.value))) in
    omega (arith, is, c.self.invariant.1.affordable c.args.peer.now, c.self.invariant.1.budget_fits)

pub returns-in-None-clause-sum : goal.returns-in-None-clause-sum
returns-in-None-clause-sum g c = rw (← c.self.view_is) (sym (ap bytes_of (named_nowhere (eq_by_cmp g.P.Ord.cmp) c.self.inside.numbers c.self.inside.shelf.stored.lists c.args.peer.now (sym c.in-None.ensures.value))))

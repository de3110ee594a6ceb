use Rattle.std.proofs.Common.{rules, refl, arith, ◌-◌}
use Rattle.std.specs.Cmp.{eq_by_cmp_equiv}
use Rattle.broadcast_core.specs.Waiters.{DropsClosed}
use Rattle.broadcast_core.proofs.WaitersLemmas.{Kept-from_retain, length-DropsClosed, waiting-fewer, AreAwaited-kept, lists-kept, digests_apart}
use Rattle.broadcast_core.proofs.buffer.waiters.Waiters.cleanup_by.Goals as goal

pub overflow_sub-before : goal.overflow_sub-before
overflow_sub-before g c =
    let kept = Kept-from_retain _ (DropsClosed g.W.Closable.may_answer) _ (λ k v b w f' t. search rules) c.self.inside.by_digest.entries c.retain.new.self.entries c.retain.ensures.filtered in
    omega (arith, waiting-fewer (DropsClosed g.W.Closable.may_answer) (length-DropsClosed g.W.Closable.may_answer) c.self.inside.by_digest.entries c.retain.new.self.entries kept, c.total.ensures, c.total-before.ensures)

pub invariant_of-self : goal.invariant_of-self
invariant_of-self g c =
    let kept = Kept-from_retain _ (DropsClosed g.W.Closable.may_answer) _ (λ k v b w f' t. search rules) c.self.inside.by_digest.entries c.retain.new.self.entries c.retain.ensures.filtered in
    AreAwaited-kept (DropsClosed g.W.Closable.may_answer) c.self.inside.by_digest.entries c.retain.new.self.entries kept c.retain.ensures.ordered

pub returns-clause-kept : goal.returns-clause-kept
returns-clause-kept g c =
    let kept = Kept-from_retain _ (DropsClosed g.W.Closable.may_answer) _ (λ k v b w f' t. search rules) c.self.inside.by_digest.entries c.retain.new.self.entries c.retain.ensures.filtered in
    rw (← c.self.view_is) (λ e. lists-kept (DropsClosed g.W.Closable.may_answer) (eq_by_cmp_equiv g.met.D.Ord.total) refl e c.self.inside.by_digest.entries c.retain.new.self.entries (digests_apart c.self.inside.by_digest.entries c.self.invariant) kept)

pub returns-clause-removed : goal.returns-clause-removed
returns-clause-removed g c =
    let kept = Kept-from_retain _ (DropsClosed g.W.Closable.may_answer) _ (λ k v b w f' t. search rules) c.self.inside.by_digest.entries c.retain.new.self.entries c.retain.ensures.filtered in
    let fewer = waiting-fewer (DropsClosed g.W.Closable.may_answer) (length-DropsClosed g.W.Closable.may_answer) c.self.inside.by_digest.entries c.retain.new.self.entries kept in
    rw (← c.self.view_is) (c.total-before.result - c.total.result, omega (arith, fewer, c.total.ensures, c.total-before.ensures), c.clamped.ensures)

pub returns-clause-distinct : goal.returns-clause-distinct
returns-clause-distinct g c = rw (← c.self.view_is) (digests_apart c.self.inside.by_digest.entries c.self.invariant)

pub returns-clause-distinct_left : goal.returns-clause-distinct_left
returns-clause-distinct_left g c =
    let kept = Kept-from_retain _ (DropsClosed g.W.Closable.may_answer) _ (λ k v b w f' t. search rules) c.self.inside.by_digest.entries c.retain.new.self.entries c.retain.ensures.filtered in
    digests_apart c.retain.new.self.entries (AreAwaited-kept (DropsClosed g.W.Closable.may_answer) c.self.inside.by_digest.entries c.retain.new.self.entries kept c.retain.ensures.ordered)

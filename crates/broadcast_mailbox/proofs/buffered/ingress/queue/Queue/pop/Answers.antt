use Rattle.std.proofs.Common.{◌≡◌, [], refl, sym, ◌∙◌}
use Rattle.broadcast_mailbox.proofs.Queues.{IsSound-refilled, nobody_waits}
use Rattle.broadcast_mailbox.proofs.buffered.ingress.queue.Queue.pop.Goals as goal

pub invariant_of-self : goal.invariant_of-self
invariant_of-self g c = rw (← c.in_default.ensures.items) c.self.invariant

pub returns-in_default-clause-step : goal.returns-in_default-clause-step
returns-in_default-clause-step g c =
    rw (← c.self.view_is) ([], (nobody_waits _ c.self.invariant (sym c.self.inside.ready.ok.0 ∙ c.in_default.ensures.cases.0), refl, rw (← c.in_default.ensures.items) refl), rw c.none.ensures (record { all = refl; counted = refl }))

pub returns-then-is_empty-clause-step : goal.returns-then-is_empty-clause-step
returns-then-is_empty-clause-step g c =
    let none : c.self.inside.overflow ≡ [] = c.if-is_empty.ensures.0 refl in
    rw (← c.self.view_is) ([], (_, c.in-Some.ensures.items, rw none (refl, refl, refl), refl), rw c.none-then-is_empty.ensures (record { all = refl; counted = refl }))

pub invariant_of-self-2 : goal.invariant_of-self-2
invariant_of-self-2 g c =
    IsSound-refilled (λ request answer. g.T.Closable.may_answer request.message answer) _ _ _ _ _ _ c.self.invariant c.in-Some.ensures.items c.refill-skipped.ensures.1

pub returns-clause-step : goal.returns-clause-step
returns-clause-step g c =
    let refill = c.refill-skipped.ensures in
    rw (← c.self.view_is) (refill.0, (_, c.in-Some.ensures.items, refill.1, refl), refill.2)

use Rattle.std.proofs.Common.{◌≡◌, [], ◌∷◌, length, arith}
use Rattle.std.proofs.lemmas.List.{nil_from_length}
use Rattle.broadcast_mailbox.proofs.Draining.{Drains-end, Drains-skip, Drains-push, Drains-back}
use Rattle.broadcast_mailbox.proofs.buffered.ingress.queue.drain_front.Goals as goal

pub loop-message-preserved-then-is_closed : goal.loop-message-preserved-then-is_closed
loop-message-preserved-then-is_closed g c =
    λ skipped new last d. c.loop-message.invariant (c.in-Some.message ∷ skipped) new last (Drains-skip g.T.Closable.may_answer (goal.F-step g) _ _ _ _ _ _ _ c.in-Some.ensures.items c.if-is_closed.ensures d)

pub returns-in-Some-push : goal.returns-in-Some-push
returns-in-Some-push g c =
    let all = c.loop-message.invariant [] _ _ (Drains-back g.T.Closable.may_answer (goal.F-step g) _ _ _ _ _ c.in-Some.ensures.items c.if-is_closed.ensures c.in-Some-push.ensures c.hand_back.ensures) in
    (all.0, _, all.1)

pub loop-message-preserved : goal.loop-message-preserved
loop-message-preserved g c =
    λ skipped new last d. c.loop-message.invariant skipped new last (Drains-push g.T.Closable.may_answer (goal.F-step g) _ _ _ _ _ _ c.in-Some.ensures.items c.if-is_closed.ensures c.in_default-push.ensures d)

pub returns : goal.returns
returns g c =
    let none : length c.loop-message.messages.items ≡ 0 = omega (arith, c.in_default.ensures.cases) in
    let nothing = nil_from_length _ none in
    let all = c.loop-message.invariant [] _ c.loop-message.push (Drains-end g.T.Closable.may_answer (goal.F-step g) _ _ _ nothing (cc)) in
    (all.0, _, all.1)

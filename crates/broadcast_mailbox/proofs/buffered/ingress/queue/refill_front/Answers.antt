use Rattle.std.proofs.Common.{◌≡◌, ◌≤◌, Bool, [], ◌∷◌, length, arith, refl}
use Rattle.std.proofs.lemmas.List.{nil_from_length}
use Rattle.broadcast_mailbox.specs.declared.buffered.ingress.message.Request.{Request}
use Rattle.broadcast_mailbox.specs.Overflow.{PutsWithin}
use Rattle.broadcast_mailbox.proofs.Skipping.{one_if-small}
use Rattle.broadcast_mailbox.proofs.Draining.{Drains-end, Drains-skip, Drains-back}
use Rattle.broadcast_mailbox.proofs.buffered.ingress.queue.refill_front.Goals as goal

pub loop-request-preserved-then-is_closed : goal.loop-request-preserved-then-is_closed
loop-request-preserved-then-is_closed g c = record {
  room = c.loop-request.invariant.room;
  skips = omega (arith, c.in-Some.ensures.len, c.count.ensures.all, c.loop-request.invariant.skips);
  counted = omega (arith, c.count.ensures.all, c.count.ensures.counted, c.loop-request.invariant.counted, one_if-small c.in-Some.request.counted);
  goes_on = λ skipped new last d.
      let all = c.loop-request.invariant.goes_on (c.in-Some.request ∷ skipped) new last (Drains-skip (λ (request : Request _) (answer : Bool). g.T.Closable.may_answer request.message answer) (PutsWithin c.args.size) _ _ _ _ _ _ _ c.in-Some.ensures.items c.if-is_closed.ensures d) in
      (all.0, all.1, omega (arith, all.2, c.count.ensures.all), omega (arith, all.3, c.count.ensures.counted));
}

pub returns-then-len-size : goal.returns-then-len-size
returns-then-len-size g c =
    let full : c.args.size ≤ length c.loop-request.ready.items = omega arith in
    let all = c.loop-request.invariant.goes_on [] _ _ (Drains-back (λ (request : Request _) (answer : Bool). g.T.Closable.may_answer request.message answer) (PutsWithin c.args.size) _ _ _ c.in-Some.request c.loop-request.ready.items c.in-Some.ensures.items c.if-is_closed.ensures (full, refl, refl) c.push_front_reserved.ensures.items) in
    (all.0, all.1, record { all = omega (arith, all.2); counted = omega (arith, all.3) })

pub returns : goal.returns
returns g c =
    let none : length c.loop-request.requests.items ≡ 0 = omega (arith, c.in_default.ensures.cases) in
    let nothing = nil_from_length _ none in
    let all = c.loop-request.invariant.goes_on [] _ c.loop-request.ready.items (Drains-end (λ (request : Request _) (answer : Bool). g.T.Closable.may_answer request.message answer) (PutsWithin c.args.size) _ _ _ nothing (cc)) in
    (all.0, all.1, record { all = omega (arith, all.2); counted = omega (arith, all.3) })

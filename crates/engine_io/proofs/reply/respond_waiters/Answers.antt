use Rattle.std.proofs.Common.{◌≡◌, [], length, arith, refl, sym, ap, ◌∙◌, subst, eqb-true}
use Rattle.std.proofs.lemmas.List.{nil_from_length}
use Rattle.std.proofs.lemmas.List.Elements.{All-pop}
use Rattle.std.specs.Vec.Iter.{into_iter_items}
use Rattle.broadcast_core.proofs.Running.{one_come, none_left}
use Rattle.engine_io.proofs.Handing.{AllHanded-none, AllHanded-more, AllHanded}
use Rattle.engine_io.proofs.reply.respond_waiters.Goals as goal

pub loop-waiter-init : goal.loop-waiter-init
loop-waiter-init g c =
    let gives = c.into_iter-waiter-iterator.ensures.into_iter_gives in
    record {
      rest = refl;
      left = omega (arith, ap length gives.0, gives.1, c.into_vec-waiter-items.result.ok);
      enough = c.requires ∙ ap length (sym c.into_vec-waiter-items.ensures) ∙ ap length (sym gives.0);
      equal = λ message all. all;
      handed = λ message all. AllHanded-none g.O.Outlet.told message c.args.outlet.now c.args.metrics.now;
    }

pub loop-waiter-preserved : goal.loop-waiter-preserved
loop-waiter-preserved g c =
    let at = c.loop-waiter in
    let steps = c.in-Some.ensures.steps in
    record {
      rest = one_come at.yielded c.in-Some.waiter (into_iter_items at.waiter-iterator) (into_iter_items c.next.new.self) _ steps.0 at.invariant.rest;
      left = omega (arith, ap length steps.0, steps.1, at.invariant.left);
      enough = omega (arith, c.in-Some-pop.ensures.cases, at.copies.ok, c.pop.new.self.ok, ap length steps.0, at.invariant.enough);
      equal = λ message all. (All-pop (λ copy. copy ≡ message) at.copies.items c.pop.new.self.items c.pop.result c.pop.ensures.items (at.invariant.equal message all)).0;
      handed = λ message all. AllHanded-more g.O.Outlet.told message at.yielded c.in-Some.waiter c.args.outlet.now c.respond_subscribe.new.outlet c.args.metrics.now c.respond_subscribe.new.metrics
          (rw c.in-Some-pop.is at (All-pop (λ copy. copy ≡ message) at.copies.items c.pop.new.self.items c.pop.result c.pop.ensures.items (at.invariant.equal message all))).1 (at.invariant.handed message all) c.respond_subscribe.ensures;
    }

pub returns-then-is_empty : goal.returns-then-is_empty
returns-then-is_empty g c = λ message all.
    let none : c.args.waiters ≡ [] = nil_from_length c.args.waiters (eqb-true _ _ (sym c.is_empty.ensures ∙ c.if-is_empty.true)) in
    let handed = subst (λ ws. AllHanded g.O.Outlet.told message ws c.args.outlet.now c.args.metrics.now c.args.outlet.now c.args.metrics.now) (sym none) (AllHanded-none g.O.Outlet.told message c.args.outlet.now c.args.metrics.now) in
    (handed.replies, handed.due, handed.hands)

pub returns : goal.returns
returns g c = λ message all.
    let at = c.loop-waiter in
    let done : at.yielded ≡ c.args.waiters =
    none_left at.yielded (into_iter_items at.waiter-iterator) _ (sym at.invariant.left ∙ c.in-None.ensures.steps.0) at.invariant.rest ∙ c.into_iter-waiter-iterator.ensures.into_iter_gives.0 ∙ c.into_vec-waiter-items.ensures in
    let handed = subst (λ ws. AllHanded g.O.Outlet.told message ws c.args.outlet.now c.args.metrics.now at.outlet at.metrics) done (at.invariant.handed message all) in
    (handed.replies, handed.due, handed.hands)

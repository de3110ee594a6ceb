use Rattle.std.proofs.Common.{◌≡◌, length, arith, refl, sym, ap, ◌∙◌, length-append}
use Rattle.std.specs.Vec.Iter.{into_iter_items}
use Rattle.broadcast_core.proofs.Lawful.{same_by-lawful}
use Rattle.broadcast_core.proofs.Running.{HasRun-same, HasRun-follows, one_come, none_left}
use Rattle.broadcast_core.proofs.runner.run_each.Goals as goal

pub loop-event-init : goal.loop-event-init
loop-event-init g c =
    let gives = c.into_iter-event-iterator.ensures.into_iter_gives in
    record {
      rest = refl;
      left = omega (arith, ap length gives.0, gives.1, c.args.events.ok);
      answers_fit = omega (arith, ap length gives.0, c.requires.answers_fit);
      sent_fit = omega (arith, ap length gives.0, c.requires.sent_fit);
      has_run = c.requires.none_run;
    }

pub loop-event-preserved : goal.loop-event-preserved
loop-event-preserved g c =
    let lawful = same_by-lawful g.met.P.Ord.total (g.met.M.Digest.Ord g.world.𝓛 g.world.𝓜 g.world.𝓡 (λ s x. x, λ x. x, λ x. x, λ x. x)).total in
    let at = c.loop-event in
    let e = c.in-Some.event in
    let steps = c.in-Some.ensures.steps in
    let gives = c.into_iter-event-iterator.ensures.into_iter_gives in
    let answers_push = c.push_reserved.ensures in
    let sent_push = c.push_sent.ensures in
    record {
      rest = one_come at.yielded e (into_iter_items at.event-iterator) (into_iter_items c.next.new.self) _ steps.0 at.invariant.rest;
      left = omega (arith, ap length steps.0, steps.1, at.invariant.left);
      answers_fit = omega (arith, answers_push.len, answers_push.capacity, ap length steps.0, at.invariant.answers_fit);
      sent_fit = omega (arith, sent_push.len, sent_push.capacity, ap length steps.0, at.invariant.sent_fit);
      has_run = HasRun-same _ (HasRun-follows _ lawful
          (omega (arith, ap length at.invariant.rest, length-append at.yielded (into_iter_items at.event-iterator), ap length gives.0, gives.1, gives.2, c.args.events.ok))
          at.invariant.has_run c.apply-answer.ensures.follows) refl answers_push.items sent_push.items;
    }

pub returns : goal.returns
returns g c =
    let at = c.loop-event in
    let all : at.yielded ≡ c.args.events.items =
    none_left at.yielded (into_iter_items at.event-iterator) _ (sym at.invariant.left ∙ c.in-None.ensures.steps.0) at.invariant.rest ∙ c.into_iter-event-iterator.ensures.into_iter_gives.0 in
    HasRun-same _ at.invariant.has_run all c.from_vec.ensures c.from_vec-2.ensures

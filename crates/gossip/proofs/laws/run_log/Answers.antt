use Rattle.std.proofs.Common.{◌≡◌, arith, ◌∙◌}
use Rattle.std.proofs.lemmas.Grind.{common_steps}
use Rattle.gossip.specs.Held.{in_time, after_all, listed, history}
use Rattle.gossip.proofs.Arriving.{once}
use Rattle.gossip.proofs.Fitting.{are_newest, is_floor}
use Rattle.gossip.proofs.Running.{empty_held, final, all_held, delivered}
use Rattle.gossip.proofs.laws.run_log.Goals as goal

pub returns-clause-newest : goal.returns-clause-newest
returns-clause-newest c =
    let e : c.loop-it.log ≡ after_all c.args.log.now (in_time c.args.arrivals.now) = grind (arith, common_steps) in
    let f = e ∙ final c.args.log.now (in_time c.args.arrivals.now) c.requires.new c.requires.empty in
    rw f (are_newest c.args.log.now.budget (history c.args.arrivals.now))

pub returns-clause-floor : goal.returns-clause-floor
returns-clause-floor c =
    let e : c.loop-it.log ≡ after_all c.args.log.now (in_time c.args.arrivals.now) = grind (arith, common_steps) in
    let f = e ∙ final c.args.log.now (in_time c.args.arrivals.now) c.requires.new c.requires.empty in
    rw f (is_floor c.args.log.now.budget (history c.args.arrivals.now))

pub returns-clause-rises : goal.returns-clause-rises
returns-clause-rises c =
    let e : c.loop-it.log ≡ after_all c.args.log.now (in_time c.args.arrivals.now) = grind (arith, common_steps) in
    rw e (all_held c.args.log.now (in_time c.args.arrivals.now) (empty_held c.args.log.now c.requires.new c.requires.empty)).rises

pub returns-clause-once : goal.returns-clause-once
returns-clause-once c =
    let e : c.loop-it.all.items ≡ listed c.args.log.now (in_time c.args.arrivals.now) = grind (arith, common_steps) in
    rw e (once c.args.log.now (in_time c.args.arrivals.now) (empty_held c.args.log.now c.requires.new c.requires.empty))

pub returns-clause-delivered : goal.returns-clause-delivered
returns-clause-delivered c = λ m h.
    let e : c.loop-it.log ≡ after_all c.args.log.now (in_time c.args.arrivals.now) = grind (arith, common_steps) in
    let g : c.loop-it.all.items ≡ listed c.args.log.now (in_time c.args.arrivals.now) = grind (arith, common_steps) in
    rw g (delivered c.args.log.now (in_time c.args.arrivals.now) m c.requires.new c.requires.empty (rw e at h))

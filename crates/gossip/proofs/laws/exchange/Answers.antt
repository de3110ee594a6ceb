use Rattle.std.proofs.Common.{◌≡◌, ◌≤◌, ◌<◌, ◌∙◌, sym, refl, arith}
use Rattle.std.specs.Prelude.{nat_lt, false}
use Rattle.std.proofs.lemmas.Bool.{le-ltb}
use Rattle.gossip.specs.declared.message.Arrived.TheVariants.{Oversize}
use Rattle.gossip.specs.Spans.{top_of}
use Rattle.gossip.specs.Held.{after, answer}
use Rattle.gossip.proofs.Exchanging.{none_sent, all_covered, listed_sound, fits, more_sent, same_sent, less_later, less_unknown, same_budget, IsCoveredUpTo}
use Rattle.gossip.proofs.laws.exchange.Goals as goal
use Rattle.gossip.proofs.laws.exchange.Goals.{then-top-message, else-top-message}

pub loop-message-init : goal.loop-message-init
loop-message-init c = record {
  budget = refl;
  upto = rw c.floor-sent.ensures.floor (none_sent c.args.from.now c.args.to.now c.floor-sent.ensures.held);
}

pub returns-in_default-clause-all : goal.returns-in_default-clause-all
returns-in_default-clause-all c = λ done.
    all_covered c.report-report.result c.loop-message.to c.args.from.now.list c.loop-message.sent c.report-report.ensures.within c.loop-message.invariant.upto
    (c.in_default.ensures.none (omega arith))

pub returns-in-Oversize-clause-ends : goal.returns-in-Oversize-clause-ends
returns-in-Oversize-clause-ends c = λ le.
    let it = c.in-Some.message in
    let now : nat_lt it.stamp it.stamp ≡ false = le-ltb it.stamp it.stamp (omega arith) in
    let said : c.in_ok-arrive.field-0 ≡ answer c.loop-message.to it = rw now at c.in_ok-arrive.ensures.answer in
    let sound = listed_sound c.args.from.now it c.floor-sent.ensures.held c.in-Some.ensures.next.is_listed in
    absurd (fits c.args.from.now.budget c.loop-message.to it sound (rw c.loop-message.invariant.budget le) (sym said ∙ c.in-Oversize.is))

pub loop-message-smaller : goal.loop-message-smaller
loop-message-smaller c =
    let it = c.in-Some.message in
    let to = c.loop-message.to in
    let list = c.args.from.now.list in
    let now : nat_lt it.stamp it.stamp ≡ false = le-ltb it.stamp it.stamp (omega arith) in
    let said : c.in_ok-arrive.field-0 ≡ answer to it = rw now at c.in_ok-arrive.ensures.answer in
    let new : c.arrive.new.self ≡ after to it = rw now at c.in_ok-arrive.ensures.after in
    let ok : answer to it ≡ Oversize → ⊥ = (λ over. (let e : c.in_ok-arrive.field-0 ≡ Oversize = said ∙ over in let none : ⊥ = grind (arith, c.in-Listed.is) in none)) in
    let sound = listed_sound c.args.from.now it c.floor-sent.ensures.held c.in-Some.ensures.next.is_listed in
    let report = c.report-report.result in
    let within = c.report-report.ensures.within in
    let upto = c.loop-message.invariant.upto in
    elim c.if-top-message.branch [
      | then-top-message w ↦ (
          let up : top_of report < it.stamp = rw (← c.top.ensures.top) w.if-top-message.true in
          rw (new, w.sent-is) (less_later report to list c.loop-message.sent within upto c.report-report.ensures.held c.args.from.now.budget it c.in-Some.ensures.next sound ok up))
      | else-top-message w ↦ (
          let low : it.stamp ≤ top_of report = rw (← c.top.ensures.top) w.if-top-message.false in
          let less = less_unknown report to list c.loop-message.sent within upto c.report-report.ensures.held c.args.from.now.budget it c.in-Some.ensures.next sound ok c.report-report.ensures.news low in
          rw (new, w.sent-is) (omega (arith, less)))
    ]

pub loop-message-preserved : goal.loop-message-preserved
loop-message-preserved c =
    let it = c.in-Some.message in
    let to = c.loop-message.to in
    let list = c.args.from.now.list in
    let now : nat_lt it.stamp it.stamp ≡ false = le-ltb it.stamp it.stamp (omega arith) in
    let said : c.in_ok-arrive.field-0 ≡ answer to it = rw now at c.in_ok-arrive.ensures.answer in
    let new : c.arrive.new.self ≡ after to it = rw now at c.in_ok-arrive.ensures.after in
    let ok : answer to it ≡ Oversize → ⊥ = (λ over. (let e : c.in_ok-arrive.field-0 ≡ Oversize = said ∙ over in let none : ⊥ = grind (arith, c.in-Listed.is) in none)) in
    let sound = listed_sound c.args.from.now it c.floor-sent.ensures.held c.in-Some.ensures.next.is_listed in
    let report = c.report-report.result in
    let within = c.report-report.ensures.within in
    let upto = c.loop-message.invariant.upto in
    let covered : IsCoveredUpTo c.if-top-message.sent (after to it) list = elim c.if-top-message.branch [
      | then-top-message w ↦ rw w.sent-is (more_sent report to list c.loop-message.sent within upto c.report-report.ensures.held c.args.from.now.budget it c.in-Some.ensures.next sound ok)
      | else-top-message w ↦ rw w.sent-is (same_sent report to list c.loop-message.sent within upto c.report-report.ensures.held c.args.from.now.budget it c.in-Some.ensures.next sound ok)
    ] in
    record { budget = rw new (same_budget to it ∙ c.loop-message.invariant.budget); upto = rw new covered }

use Rattle.std.proofs.Common.{◌≡◌, length, drop, refl, subst}
use Rattle.entries.specs.Overlaid.{overlaid}
use Rattle.gossip.specs.Held.{Held}
use Rattle.gossip.specs.Spans.{floor_of}
use Rattle.broadcast_c.specs.Logs.{Reports}
use Rattle.broadcast_c.proofs.Reporting.{reports}
use Rattle.broadcast_c.proofs.exports.log.broadcast_log_report.Goals as goal

pub returns-clause-reported : goal.returns-clause-reported
returns-clause-reported c = λ ok.
    let kept = c.report-report.ensures in
    let whole = reports c.deref.result.now.log c.report-report.result c.args.out.now kept.coverage kept.within kept.listed kept.up_to_floor in
    let same : c.deref.result.now.log ≡ c.in-Some.held.value.log = cc in
    let above = drop 1 c.report-report.result in
    let made = subst (λ (h : Held). Reports h (floor_of c.report-report.result) (length above) c.args.out.now (overlaid above c.args.out.now)) same whole in
    rw (c.in-Some.ensures.was, c.put.ensures) (refl, rw (c.floor.ensures, c.copy_front.ensures, c.above_floor-above.ensures) made)

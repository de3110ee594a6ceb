use Rattle.std.proofs.Common.{◌+◌, ◌<◌, ◌≤◌, length, take, get_or, ap, ◌∙◌, arith, rules}
use Rattle.programs.specs.Loopback.{broadcasts_by, broadcasts_in}
use Rattle.programs.proofs.Loopbacks.{set-same, broadcasts_in-more, broadcasts_in-take, passed-more, IsIdle-passed}
use Rattle.programs.proofs.replay.loopback.loop_back.Goals as goal

pub returns-in_err-pass_back-clause-idle_lacks_memory_alone : goal.returns-in_err-pass_back-clause-idle_lacks_memory_alone
returns-in_err-pass_back-clause-idle_lacks_memory_alone c = λ idle.
    let events = c.loop-i.events in
    let i = c.loop-i.i in
    let event = get_or events i c.index-events-i.result in
    let inside : i < length events = omega arith in
    let more = broadcasts_in-more events i c.index-events-i.result inside in
    let most = broadcasts_in-take events (i + 1) in
    let all = ap broadcasts_in c.loop-i.invariant.same in
    let fits : broadcasts_in (take i events) + broadcasts_by event ≤ broadcasts_in c.args.events.now = omega (arith, more, most, all) in
    let lacks = c.in_err-pass_back.ensures.idle_lacks_memory_alone (IsIdle-passed _ _ _ _ _ c.loop-i.invariant.passed fits idle) in
    search rules

pub loop-i-preserved : goal.loop-i-preserved
loop-i-preserved c =
    let events = c.loop-i.events in
    let i = c.loop-i.i in
    let inside : i < length events = omega arith in
    let back = set-same events i c.pass_back.new.event c.index-events-i.result c.in_ok-pass_back.ensures.event_stays in
    let more = broadcasts_in-more events i c.index-events-i.result inside in
    let all = ap (λ es. broadcasts_in (take (i + 1) es)) back in
    record {
      same = back ∙ c.loop-i.invariant.same;
      passed = passed-more _ _ _ _ _ _ c.loop-i.invariant.passed c.in_ok-pass_back.ensures.counts_each (omega (arith, all, more));
    }

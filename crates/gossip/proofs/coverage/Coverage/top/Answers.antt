use Rattle.std.proofs.Common.{◌≡◌, sym, arith}
use Rattle.gossip.specs.Spans.{top_of}
use Rattle.gossip.proofs.Covering.{last_is_top, had_up_to_top, top_had}
use Rattle.gossip.proofs.coverage.Coverage.top.Goals as goal

pub returns-in-Some-clause-top : goal.returns-in-Some-clause-top
returns-in-Some-clause-top c =
    rw (← c.self.view_is, ← c.as_slice.ensures.value) (sym (last_is_top c.as_slice.result.now c.in-Some.last.now (sym c.in-Some.ensures.value)))

pub returns-in-Some-clause-greatest : goal.returns-in-Some-clause-greatest
returns-in-Some-clause-greatest c = λ s h.
    let top : top_of c.self.inside.spans.items ≡ c.in-Some.last.now.to =
    rw (← c.as_slice.ensures.value) (last_is_top c.as_slice.result.now c.in-Some.last.now (sym c.in-Some.ensures.value)) in
    let below = had_up_to_top s _ c.self.invariant.apart (rw (← c.self.view_is) at h) in
    omega (arith, top, below)

pub returns-in-Some-clause-had : goal.returns-in-Some-clause-had
returns-in-Some-clause-had c = λ h.
    let top : top_of c.self.inside.spans.items ≡ c.in-Some.last.now.to =
    rw (← c.as_slice.ensures.value) (last_is_top c.as_slice.result.now c.in-Some.last.now (sym c.in-Some.ensures.value)) in
    rw (← top, ← c.self.view_is) (top_had 64 _ c.self.invariant (omega (arith, top, h)))

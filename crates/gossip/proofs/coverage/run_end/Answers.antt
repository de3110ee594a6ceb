use Rattle.std.proofs.lemmas.List.{drop_more, drop_all}
use Rattle.gossip.specs.Spans.{nothing}
use Rattle.gossip.proofs.Lacking.{goes_on, stands, runs, none_left}
use Rattle.gossip.proofs.coverage.run_end.Goals as goal

pub loop-span-preserved : goal.loop-span-preserved
loop-span-preserved c =
    let e = drop_more c.args.spans.now c.loop-span.span-index nothing c.loop-span-test.true in
    let same = rw e at c.loop-span.invariant.same in
    let apart = rw e at c.loop-span.invariant.apart in
    record { same = goes_on _ _ _ _ same apart c.if-at-span-2.false; apart = apart.2 }

pub returns-then-at-span : goal.returns-then-at-span
returns-then-at-span c =
    let e = drop_more c.args.spans.now c.loop-span.span-index nothing c.loop-span-test.true in
    stands _ _ _ _ (rw e at c.loop-span.invariant.same) (rw e at c.loop-span.invariant.apart) c.if-at-span.true

pub returns-then-at-span-2 : goal.returns-then-at-span-2
returns-then-at-span-2 c =
    let e = drop_more c.args.spans.now c.loop-span.span-index nothing c.loop-span-test.true in
    runs _ _ _ _ (rw e at c.loop-span.invariant.same) (rw e at c.loop-span.invariant.apart) c.if-at-span.false c.if-at-span-2.true

pub returns : goal.returns
returns c =
    let e = drop_all c.loop-span.span-index c.args.spans.now c.loop-span-test.false in
    none_left _ _ (rw e at c.loop-span.invariant.same)

use Rattle.std.proofs.Common.{inl, inr}
use Rattle.std.proofs.lemmas.List.{drop_more}
use Rattle.gossip.specs.Spans.{nothing}
use Rattle.gossip.proofs.Lacking.{part_of, moves_on, finds}
use Rattle.gossip.proofs.coverage.first_missing.Goals as goal
use Rattle.gossip.proofs.coverage.first_missing.Goals.{else-end-span-via-then-end-span+else-end-upto, else-end-span-via-else-end-span}

pub loop-span-preserved : goal.loop-span-preserved
loop-span-preserved c =
    let e = drop_more c.args.theirs.now c.loop-span.span-index nothing c.loop-span-test.true in
    let left = rw e at c.loop-span.invariant.left in
    let part = rw e at c.loop-span.invariant.part in
    let apart = rw e at c.loop-span.invariant.apart in
    let run = rw c.max.ensures at c.run_end-end.ensures in
    record {
      left = elim c.else-end-span.branch [
        | else-end-span-via-then-end-span+else-end-upto w ↦ moves_on _ _ _ _ _ _ _ left part run (inr w.if-end-upto.false)
        | else-end-span-via-else-end-span w ↦ moves_on _ _ _ _ _ _ _ left part run (inl w.if-end-span.false)
      ];
      part = part_of _ _ _ _ _ _ _ left part run;
      apart = apart.2;
    }

pub returns-then-end-upto-clause-first : goal.returns-then-end-upto-clause-first
returns-then-end-upto-clause-first c =
    let e = drop_more c.args.theirs.now c.loop-span.span-index nothing c.loop-span-test.true in
    let run = rw c.max.ensures at c.run_end-end.ensures in
    finds _ _ _ _ _ _ _ (rw e at c.loop-span.invariant.left) (rw e at c.loop-span.invariant.part) run
    (rw e at c.loop-span.invariant.apart) c.if-end-span.true c.if-end-upto.true

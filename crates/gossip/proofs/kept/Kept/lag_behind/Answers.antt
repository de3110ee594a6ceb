use Rattle.std.proofs.Common.{arith}
use Rattle.std.proofs.lemmas.List.{drop_more, drop_all}
use Rattle.gossip.specs.Spans.{nothing}
use Rattle.gossip.proofs.Lagging.{parts, none_had, first_span, up_to_rises}
use Rattle.gossip.proofs.kept.Kept.lag_behind.Goals as goal

pub loop-span-init : goal.loop-span-init
loop-span-init c =
    record { apart = c.requires.apart; so_far = omega (arith, c.requires.total, c.bytes-bytes.ensures) }

pub loop-span-preserved : goal.loop-span-preserved
loop-span-preserved c =
    let list = c.args.self.now.list.items in
    let e = drop_more c.args.spans.now c.loop-span.span-index nothing c.loop-span-test.true in
    let apart = rw e at c.loop-span.invariant.apart in
    let so_far = rw e at c.loop-span.invariant.so_far in
    let first = first_span _ _ list apart in
    let rises = up_to_rises _ _ list apart.0 in
    let all = parts c.args.spans.now list in
    record {
      apart = apart.2;
      so_far = omega (
        arith,
        so_far,
        first,
        rises,
        all,
        c.charge_up_to-before.ensures,
        c.charge_up_to.ensures,
        c.saturating_sub-had.ensures,
        c.saturating_sub-bytes.ensures,
      );
    }

pub returns : goal.returns
returns c =
    let list = c.args.self.now.list.items in
    let e = drop_all c.loop-span.span-index c.args.spans.now c.loop-span-test.false in
    let so_far = rw e at c.loop-span.invariant.so_far in
    let all = parts c.args.spans.now list in
    let none = none_had list in
    omega (arith, so_far, all, none)

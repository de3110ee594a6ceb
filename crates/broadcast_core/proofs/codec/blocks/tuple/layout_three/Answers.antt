use Rattle.std.proofs.Common.{◌≤◌, length, arith, length-drop}
use Rattle.broadcast_core.specs.BlockLaws.{layout_fits, both_within}
use Rattle.broadcast_core.proofs.codec.blocks.tuple.layout_three.Goals as goal

pub slice_bounds-layout_both-count : goal.slice_bounds-layout_both-count
slice_bounds-layout_both-count g c =
    let fits : c.in_ok-used.used ≤ length c.args.buf.now = layout_fits _ c.in_ok-used.used (length c.args.buf.now) (g.met.A.Read.within c.args.first.now c.args.buf.now) c.in_ok-used.ensures in
    omega arith

pub slice_bounds-layout_both-start : goal.slice_bounds-layout_both-start
slice_bounds-layout_both-start g c =
    let fits : c.in_ok-used.used ≤ length c.args.buf.now = layout_fits _ c.in_ok-used.used (length c.args.buf.now) (g.met.A.Read.within c.args.first.now c.args.buf.now) c.in_ok-used.ensures in
    omega arith

pub overflow_add-result : goal.overflow_add-result
overflow_add-result g c =
    let fits : c.in_ok-used.used ≤ length c.args.buf.now = layout_fits _ c.in_ok-used.used (length c.args.buf.now) (g.met.A.Read.within c.args.first.now c.args.buf.now) c.in_ok-used.ensures in
    let rest = layout_fits _ c.in_ok-more.more _ (both_within (g.B.Read.reading c.args.second.now) (g.C.Read.reading c.args.third.now) (g.met.B.Read.within c.args.second.now) (g.met.C.Read.within c.args.third.now) _) c.in_ok-more.ensures in
    omega (arith, fits, rest, length-drop c.in_ok-used.used c.args.buf.now)

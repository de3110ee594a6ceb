use Rattle.std.proofs.Common.{◌≤◌, length, arith, length-drop}
use Rattle.broadcast_core.specs.BlockLaws.{both_within, gives_fits}
use Rattle.broadcast_core.proofs.codec.blocks.tuple.read_three_laid_out.Goals as goal

pub overflow_add-result : goal.overflow_add-result
overflow_add-result g c =
    let fits : c.in_ok-one.used ≤ length c.args.buf.now = gives_fits _ c.in_ok-one.one c.in_ok-one.used (length c.args.buf.now) (g.met.A.Read.within c.args.first.now c.args.buf.now) c.in_ok-one.ensures in
    let rest = gives_fits _ (c.in_ok-two.two, c.in_ok-two.three) c.in_ok-two.more _ (both_within (g.B.Read.reading c.args.second.now) (g.C.Read.reading c.args.third.now) (g.met.B.Read.within c.args.second.now) (g.met.C.Read.within c.args.third.now) _) c.in_ok-two.ensures in
    omega (arith, fits, rest, length-drop c.in_ok-one.used c.args.buf.now)

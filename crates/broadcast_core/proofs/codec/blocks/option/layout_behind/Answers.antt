use Rattle.std.proofs.Common.{◌≤◌, length, arith}
use Rattle.broadcast_core.specs.BlockLaws.{layout_fits}
use Rattle.broadcast_core.proofs.codec.blocks.option.layout_behind.Goals as goal

pub overflow_add-result : goal.overflow_add-result
overflow_add-result g c =
    let fits : c.in_ok-used.used ≤ length c.args.rest.now = layout_fits _ c.in_ok-used.used (length c.args.rest.now) (g.met.A.Read.within c.args.cfg.now c.args.rest.now) c.in_ok-used.ensures in
    omega arith

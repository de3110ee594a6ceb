use Rattle.std.proofs.Common.{◌++◌, length, drop, ap, ◌∙◌, arith}
use Rattle.broadcast_c.proofs.Overlaying.{overlaid-front, overlaid-cut}
use Rattle.broadcast_c.proofs.exports.buffer.copy_front.Goals as goal

pub returns-then-from-out : goal.returns-then-from-out
returns-then-from-out g c =
    ap (λ l. l ++ drop (length c.args.from.now) c.args.out.now) c.copy_from_slice.ensures.after
    ∙ overlaid-front c.args.from.now c.args.out.now (omega (arith, c.if-from-out.true))

pub returns-else-from-out : goal.returns-else-from-out
returns-else-from-out g c =
    c.copy_from_slice-else-from-out.ensures.after
    ∙ overlaid-cut c.args.from.now c.args.out.now (omega (arith, c.if-from-out.false))

use Rattle.std.proofs.lemmas.List.Sorted.{non_decreasing_from_is_sorted}
use Rattle.broadcast_core.proofs.Gone.{if_true}
use Rattle.broadcast_core.proofs.buffer.gone.Gone.new.Goals as goal

pub invariant_of-result : goal.invariant_of-result
invariant_of-result c = (
  if_true _ c.is_sorted.result (non_decreasing_from_is_sorted c.args.tickets.now c.is_sorted.result c.is_sorted.ensures.cases),
  c.low_bits.ensures,
)

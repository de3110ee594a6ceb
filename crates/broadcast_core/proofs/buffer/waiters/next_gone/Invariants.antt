use Rattle.std.proofs.Common.{◌≡◌}
use Rattle.std.specs.BTreeMap.Range.{entries_between}
use Rattle.std.specs.declared.ops.Bound.TheVariants.{Unbounded}
use Rattle.broadcast_core.specs.Waiters.{is_gone}
use Rattle.broadcast_core.specs.Awaited.{first_with}
use Rattle.broadcast_core.proofs.buffer.waiters.next_gone.Given as goal

abbrev pub invariant-loop-digest : goal.invariant-loop-digest
invariant-loop-digest g l = first_with (is_gone g.W.Ticketed.ticket_of l.gone) l.digest-iterator ≡ first_with (is_gone g.W.Ticketed.ticket_of l.gone) (entries_between g.D.Ord.cmp l.fn.after Unbounded l.by_digest.entries)

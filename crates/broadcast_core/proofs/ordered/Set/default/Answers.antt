use Rattle.std.proofs.Common.{sym, subst}
use Rattle.std.specs.List.Sorted.{IsStrictlySortedBy}
use Rattle.broadcast_core.proofs.ordered.Set.default.Goals as goal

pub invariant_of-result : goal.invariant_of-result
unfolding IsStrictlySortedBy
invariant_of-result g c = subst (IsStrictlySortedBy g.P.Ord.cmp) (sym c.new.ensures) tt

use Rattle.std.proofs.Common.{◌≡◌, drop}
use Rattle.std.specs.Map.{lookup}
use Rattle.std.specs.Ordering.{eq_by_cmp}
use Rattle.entries.proofs.bucket.value_among.Given as goal

abbrev pub invariant-loop-other : goal.invariant-loop-other
invariant-loop-other g l = lookup (eq_by_cmp g.K.Ord.cmp l.key) l.entries ≡ lookup (eq_by_cmp g.K.Ord.cmp l.key) (drop l.other-index l.entries)

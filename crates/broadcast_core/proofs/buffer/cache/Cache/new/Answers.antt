use Rattle.std.proofs.Common.{◌<◌, ℕ, [], refl, arith}
use Rattle.std.specs.Prelude.{◌^◌}
use Rattle.std.specs.List.{IsDistinct}
use Rattle.broadcast_core.specs.Content.{Same, same_by}
use Rattle.broadcast_core.specs.Stored.{IsCached}
use Rattle.broadcast_core.proofs.Numbering.{IsNumbered-empty}
use Rattle.broadcast_core.proofs.buffer.cache.Cache.new.Goals as goal

empty : {P M D : Type 0} (same : Same P D) (size budget : ℕ) → budget < 2 ^ 64 → IsCached same {M = M} size budget [] (record { lists = []; messages = [] })
unfolding IsDistinct
empty same size budget small = record {
  budget_fits = small;
  bounded = λ p. omega arith;
  affordable = λ p. omega arith;
  primary_only = λ p h. cc;
  distinct = tt;
  messages = λ d. refl;
}

pub invariant_of-result : goal.invariant_of-result
invariant_of-result g c = rw (c.default.ensures, c.new.ensures, c.new-2.ensures)
    (IsNumbered-empty g.P.Ord.cmp g.M.Digest.Ord.cmp, empty (same_by g.P.Ord.cmp g.M.Digest.Ord.cmp) c.args.deque_size c.args.byte_budget c.ranges.byte_budget.fits)

use Rattle.std.proofs.Common.{ℕ, Option, refl, []}
use Rattle.std.specs.List.{IsDistinct}
use Rattle.broadcast_core.specs.Content.{Same}
use Rattle.broadcast_core.specs.Numbered.{same_listed}
use Rattle.broadcast_core.specs.Indexed.{IsShelved}
use Rattle.broadcast_core.proofs.Parting.{room-none}
use Rattle.broadcast_core.proofs.buffer.shelf.Shelf.new.Goals as goal

empty : {P M D : Type 0} (same : Same P D) (names : ℕ → Option D) → IsShelved {M = M} same names [] []
unfolding IsDistinct
empty same names = record {
  indexed = record {
    finds = λ d p. refl;
    distinct = λ p. tt;
    named = λ d x h. cc;
    placed = λ d h. cc;
    apart = tt;
  };
  named = λ p. tt;
}

pub invariant_of-result : goal.invariant_of-result
invariant_of-result g c = rw (c.new.ensures, c.new-2.ensures) (empty (same_listed g.M.Digest.Ord.cmp) _, room-none c.new-3.result c.args.reports c.new-3.ensures)

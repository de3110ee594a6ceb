use Rattle.std.proofs.Common.{sym, subst}
use Rattle.std.specs.List.{IsDistinct}
use Rattle.std.specs.Ordering.{eq_by_cmp}
use Rattle.entries.specs.Table.{items_of}
use Rattle.std.proofs.lemmas.Map.Made.{keys_of-map_values}
use Rattle.broadcast_core.proofs.buffer.shelf.Shelf.len.Goals as goal

pub returns-clause-distinct : goal.returns-clause-distinct
returns-clause-distinct g c =
    rw (← c.self.view_is) (subst (IsDistinct (eq_by_cmp g.M.Digest.Ord.cmp)) (sym (keys_of-map_values (λ i. i.message) (items_of c.self.inside.table))) c.len.ensures.distinct)

use Rattle.std.proofs.Common.{sym, ◌∙◌}
use Rattle.std.proofs.lemmas.Map.Keys.{IsDistinct-from_sorted}
use Rattle.entries.proofs.Tabled.{sorted-items, length-items}
use Rattle.entries.proofs.table.Table.len.Goals as goal

pub returns-clause-len : goal.returns-clause-len
returns-clause-len g c = rw (← c.self.view_is) (c.len.ensures.len ∙ sym (length-items g.met.T.Name.Ord.total _ c.self.invariant c.len.ensures.ordered))

pub returns-clause-distinct : goal.returns-clause-distinct
returns-clause-distinct g c = rw (← c.self.view_is) (IsDistinct-from_sorted g.T.Name.Ord.cmp _ (sorted-items g.met.T.Name.Ord.total _ c.self.invariant c.len.ensures.ordered))

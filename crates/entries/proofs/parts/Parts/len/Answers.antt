use Rattle.entries.proofs.Gathered.{sorted-gathered}
use Rattle.entries.proofs.parts.Parts.len.Goals as goal

pub returns-clause-ordered : goal.returns-clause-ordered
returns-clause-ordered g c = rw (← c.self.view_is) (sorted-gathered g.met.K.Ord.total c.self.inside.more.entries c.self.inside.buckets.items c.self.invariant.are.ordered)

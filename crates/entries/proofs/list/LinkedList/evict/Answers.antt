use Rattle.entries.specs.Places.{get}
use Rattle.entries.proofs.Lists.{trims}
use Rattle.entries.proofs.list.LinkedList.evict.Goals as goal

pub invariant_of-self : goal.invariant_of-self
invariant_of-self c = (trims (get c.self.inside.places) (get c.trim.new.places) c.self.inside.chain c.trim.new.chain 0 c.trim.result c.self.invariant c.trim.ensures).0

pub returns : goal.returns
returns c = rw (← c.self.view_is) (trims (get c.self.inside.places) (get c.trim.new.places) c.self.inside.chain c.trim.new.chain 0 c.trim.result c.self.invariant c.trim.ensures).1

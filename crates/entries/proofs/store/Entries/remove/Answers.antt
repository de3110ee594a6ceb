use Rattle.std.proofs.Common.{None}
use Rattle.slab.specs.Slab.{entries}
use Rattle.entries.specs.Overlaid.{same_number}
use Rattle.entries.proofs.Slots.{distinct_slots, updated_slot}
use Rattle.entries.proofs.Stores.{removes}
use Rattle.entries.proofs.store.Entries.remove.Goals as goal

pub returns : goal.returns
returns c =
    rw (← c.self.view_is) (removes same_number (entries c.self.inside.lists) (entries c.try_remove.new.self) c.args.list
    (updated_slot c.self.inside.lists c.try_remove.new.self c.args.list None c.try_remove.ensures.updates) (distinct_slots c.try_remove.new.self))

use Rattle.std.proofs.Common.{Some, ap, ◌∙◌}
use Rattle.std.specs.Prelude.{is_some}
use Rattle.slab.specs.Slab.{entries}
use Rattle.entries.specs.Overlaid.{same_number}
use Rattle.entries.proofs.Slots.{distinct_slots, found_slot, updated_slot}
use Rattle.entries.proofs.Stores.{none_listed, some_listed, puts}
use Rattle.entries.proofs.store.Entries.open.Goals as goal

pub returns-clause-fresh : goal.returns-clause-fresh
returns-clause-fresh c =
    rw (← c.self.view_is) (none_listed same_number (entries c.self.inside.lists) c.in-Ok.list (found_slot c.self.inside.lists c.in-Ok.list ∙ c.in-Ok.ensures.was_vacant))

pub returns-clause-ok : goal.returns-clause-ok
returns-clause-ok c =
    let put = puts same_number (entries c.self.inside.lists) (entries c.insert.new.self) c.in-Ok.list c.new.result
    (updated_slot c.self.inside.lists c.insert.new.self c.in-Ok.list (Some c.new.result) c.in-Ok.ensures.updates) (distinct_slots c.insert.new.self) in
    rw (← c.self.view_is) (rw c.new.ensures at put)

pub returns-clause-there : goal.returns-clause-there
returns-clause-there c =
    some_listed same_number (entries c.insert.new.self) c.in-Ok.list ∙ ap is_some (found_slot c.insert.new.self c.in-Ok.list ∙ c.in-Ok.ensures.updates.changed)

use Rattle.std.proofs.Common.{sym, ◌∙◌}
use Rattle.slab.specs.Slab.{entries}
use Rattle.entries.specs.Overlaid.{same_number}
use Rattle.entries.proofs.Slots.{found_slot}
use Rattle.entries.proofs.Stores.{vacant_at-row, vacant_at-none}
use Rattle.entries.proofs.store.Entries.vacant.Goals as goal

pub returns-in-Some : goal.returns-in-Some
returns-in-Some c =
    rw (← c.self.view_is, vacant_at-row same_number (entries c.self.inside.lists) c.args.list c.in-Some.found.now (found_slot c.self.inside.lists c.args.list ∙ sym c.in-Some.ensures)) c.vacant.ensures

pub returns-in-None : goal.returns-in-None
returns-in-None c =
    rw (← c.self.view_is) (sym (vacant_at-none same_number (entries c.self.inside.lists) c.args.list (found_slot c.self.inside.lists c.args.list ∙ sym c.in-None.ensures)))

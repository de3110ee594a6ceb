use Rattle.std.proofs.Common.{sym, ap, length, ◌∙◌}
use Rattle.slab.specs.Slab.{entries}
use Rattle.entries.specs.Overlaid.{same_number}
use Rattle.entries.proofs.Slots.{found_slot}
use Rattle.entries.proofs.Stores.{items_at-row, items_at-none}
use Rattle.entries.proofs.store.Entries.count.Goals as goal

pub returns-in-Some : goal.returns-in-Some
returns-in-Some c =
    rw (← c.self.view_is, items_at-row same_number (entries c.self.inside.lists) c.args.list c.in-Some.found.now (found_slot c.self.inside.lists c.args.list ∙ sym c.in-Some.ensures)) c.count.ensures

pub returns-in-None : goal.returns-in-None
returns-in-None c =
    rw (← c.self.view_is) (sym (ap length (items_at-none same_number (entries c.self.inside.lists) c.args.list (found_slot c.self.inside.lists c.args.list ∙ sym c.in-None.ensures))))

use Rattle.std.proofs.Common.{refl, sym, ap, ◌∙◌}
use Rattle.std.specs.Option.{option_copied_mut}
use Rattle.slab.specs.Slab.{entries, with_value}
use Rattle.entries.specs.Overlaid.{same_number}
use Rattle.entries.proofs.Slots.{number_laws, found_slot, set_slot, distinct_slots}
use Rattle.entries.proofs.Stores.{items_at-none, evicts-any}
use Rattle.entries.proofs.store.Entries.evict.Goals as goal

pub returns-in_default : goal.returns-in_default
returns-in_default c =
    let none = items_at-none same_number (entries c.self.inside.lists) c.args.list (found_slot c.self.inside.lists c.args.list ∙ sym c.get_mut.follows ∙ ap option_copied_mut c.in_default.is) in
    rw (← c.self.view_is) (none, refl)

pub returns : goal.returns
returns c =
    let there = sym c.in-Some.ensures.value in
    rw (← c.self.view_is) (evicts-any number_laws (entries c.self.inside.lists) (entries (with_value c.self.inside.lists c.args.list c.evict.new.self)) c.args.list c.in-Some.found.now c.evict.new.self
    (found_slot c.self.inside.lists c.args.list ∙ there) (set_slot c.self.inside.lists c.args.list c.in-Some.found.now c.evict.new.self there) (distinct_slots c.self.inside.lists)
    c.evict.result c.evict.ensures)

use Rattle.std.proofs.Common.{sym, ap, ◌∙◌}
use Rattle.std.specs.Option.{option_copied_mut}
use Rattle.slab.specs.Slab.{entries, with_value}
use Rattle.entries.specs.Overlaid.{same_number}
use Rattle.entries.specs.Store.{bytes_of, moved}
use Rattle.entries.proofs.Slots.{number_laws, found_slot, set_slot, distinct_slots}
use Rattle.entries.proofs.Stores.{items_at-row, items_at-none, items_now, writes, same_puts}
use Rattle.entries.proofs.store.Entries.promote.Goals as goal

pub promote-requires : goal.promote-requires
promote-requires c =
    let items = items_at-row same_number (entries c.self.inside.lists) c.args.list c.in-Some.found.now (found_slot c.self.inside.lists c.args.list ∙ sym c.in-Some.ensures.value) in
    record { room = rw (← c.self.view_is, items) at c.requires.room }

pub returns-clause-bytes : goal.returns-clause-bytes
returns-clause-bytes c =
    let there = sym c.in-Some.ensures.value in
    let items = items_now number_laws (entries c.self.inside.lists) (entries (with_value c.self.inside.lists c.args.list c.promote.new.self)) c.args.list c.in-Some.found.now c.promote.new.self
    (found_slot c.self.inside.lists c.args.list ∙ there) (set_slot c.self.inside.lists c.args.list c.in-Some.found.now c.promote.new.self there) (distinct_slots c.self.inside.lists) in
    c.bytes.ensures ∙ sym (ap bytes_of items)

pub returns-clause-moved : goal.returns-clause-moved
returns-clause-moved c =
    let there = sym c.in-Some.ensures.value in
    let items = items_at-row same_number (entries c.self.inside.lists) c.args.list c.in-Some.found.now (found_slot c.self.inside.lists c.args.list ∙ there) in
    let puts = writes number_laws (entries c.self.inside.lists) (entries (with_value c.self.inside.lists c.args.list c.promote.new.self)) c.args.list c.in-Some.found.now c.promote.new.self
    (found_slot c.self.inside.lists c.args.list ∙ there) (set_slot c.self.inside.lists c.args.list c.in-Some.found.now c.promote.new.self there) (distinct_slots c.self.inside.lists) in
    rw (← c.self.view_is, items, ← c.promote.ensures.moved) puts

pub returns-clause-apart : goal.returns-clause-apart
returns-clause-apart c =
    let items = items_at-row same_number (entries c.self.inside.lists) c.args.list c.in-Some.found.now (found_slot c.self.inside.lists c.args.list ∙ sym c.in-Some.ensures.value) in
    rw (← c.self.view_is, items) c.promote.ensures.apart

pub returns-in_default-clause-bytes : goal.returns-in_default-clause-bytes
returns-in_default-clause-bytes c =
    sym (ap bytes_of (items_at-none same_number (entries c.self.inside.lists) c.args.list (found_slot c.self.inside.lists c.args.list ∙ sym c.get_mut.follows ∙ ap option_copied_mut c.in_default.is)))

pub returns-in_default-clause-moved : goal.returns-in_default-clause-moved
returns-in_default-clause-moved c =
    let none = items_at-none same_number (entries c.self.inside.lists) c.args.list (found_slot c.self.inside.lists c.args.list ∙ sym c.get_mut.follows ∙ ap option_copied_mut c.in_default.is) in
    rw (← c.self.view_is) (same_puts number_laws (entries c.self.inside.lists) c.args.list _ (distinct_slots c.self.inside.lists) (none ∙ sym (ap (moved c.args.place c.args.digest) none)))

pub returns-in_default-clause-apart : goal.returns-in_default-clause-apart
returns-in_default-clause-apart c =
    let none = items_at-none same_number (entries c.self.inside.lists) c.args.list (found_slot c.self.inside.lists c.args.list ∙ sym c.get_mut.follows ∙ ap option_copied_mut c.in_default.is) in
    rw (← c.self.view_is, none) tt

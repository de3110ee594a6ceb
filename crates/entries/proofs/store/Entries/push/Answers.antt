use Rattle.std.proofs.Common.{true, false, ◌≡◌, sym, ap, ◌∙◌}
use Rattle.std.specs.Prelude.{is_some}
use Rattle.std.specs.Option.{option_copied_mut}
use Rattle.slab.specs.Slab.{entries, with_value}
use Rattle.entries.specs.Overlaid.{same_number}
use Rattle.entries.specs.Store.{bytes_of}
use Rattle.entries.proofs.Slots.{number_laws, found_slot, set_slot, distinct_slots}
use Rattle.entries.proofs.Stores.{some_listed, items_at-row, vacant_at-row, items_now, extends}
use Rattle.entries.proofs.store.Entries.push.Goals as goal

pub unreachable-requires : goal.unreachable-requires
unreachable-requires c =
    let none = ap is_some (found_slot c.self.inside.lists c.args.list ∙ sym c.get_mut.follows ∙ ap option_copied_mut c.in_default.is) in
    let no : false ≡ true = sym none ∙ sym (some_listed same_number (entries c.self.inside.lists) c.args.list) ∙ (rw (← c.self.view_is) at c.requires.there) in
    cc

pub push-requires : goal.push-requires
push-requires c =
    let items = items_at-row same_number (entries c.self.inside.lists) c.args.list c.in-Some.found.now (found_slot c.self.inside.lists c.args.list ∙ sym c.in-Some.ensures.value) in
    record { room = rw (← c.self.view_is, items) at c.requires.room }

pub returns-clause-bytes : goal.returns-clause-bytes
returns-clause-bytes c =
    let there = sym c.in-Some.ensures.value in
    let items = items_now number_laws (entries c.self.inside.lists) (entries (with_value c.self.inside.lists c.args.list c.push.new.self)) c.args.list c.in-Some.found.now c.push.new.self
    (found_slot c.self.inside.lists c.args.list ∙ there) (set_slot c.self.inside.lists c.args.list c.in-Some.found.now c.push.new.self there) (distinct_slots c.self.inside.lists) in
    c.bytes.ensures ∙ sym (ap bytes_of items)

pub returns-clause-ok : goal.returns-clause-ok
returns-clause-ok c =
    let there = sym c.in-Some.ensures.value in
    let vacant = vacant_at-row same_number (entries c.self.inside.lists) c.args.list c.in-Some.found.now (found_slot c.self.inside.lists c.args.list ∙ there) in
    rw (← c.self.view_is, vacant) (extends number_laws (entries c.self.inside.lists) (entries (with_value c.self.inside.lists c.args.list c.push.new.self)) c.args.list c.in-Some.found.now c.push.new.self
    (found_slot c.self.inside.lists c.args.list ∙ there) (set_slot c.self.inside.lists c.args.list c.in-Some.found.now c.push.new.self there) (distinct_slots c.self.inside.lists)
    (c.in-Some.found.now.vacant, c.args.digest) c.args.size c.in_ok-stale.stale c.in_ok-stale.ensures.ok)

use Rattle.std.proofs.Common.{refl, sym, ap, ◌∙◌}
use Rattle.std.specs.Prelude.{is_some}
use Rattle.std.specs.Map.{remove_entry}
use Rattle.std.specs.BTreeMap.{insert_entry}
use Rattle.std.specs.Ordering.{eq_by_cmp}
use Rattle.entries.proofs.Tables.{remove-inserted}
use Rattle.entries.proofs.Tabled.{leads-there}
use Rattle.entries.proofs.Joining.{joins-again, adds-new, refuses}
use Rattle.entries.proofs.table.insert.Goals as goal

pub join-requires : goal.join-requires
join-requires g c =
    leads-there g.met.T.Name.Ord.total (record { index = c.args.index.now; slots = c.args.items.now.slots }) c.requires.tabled c.name-name.result c.in-Ok-Some.item (sym c.in-Ok-Some.ensures.found ∙ c.in-Ok-Some.field-0-is)

pub returns-in-Ok-Some : goal.returns-in-Ok-Some
returns-in-Ok-Some g c =
    joins-again g.met.T.Name.Ord.total (record { index = c.args.index.now; slots = c.args.items.now.slots }) c.requires.tabled c.len-names.ensures.ordered
    c.name-name.ensures (c.in-Ok-Some.ensures.stays (ap is_some c.in-Ok-Some.field-0-is)) (sym c.in-Ok-Some.ensures.found ∙ c.in-Ok-Some.field-0-is) c.join.ensures

pub returns-in-Ok : goal.returns-in-Ok
returns-in-Ok g c =
    adds-new g.met.T.Name.Ord.total (record { index = c.args.index.now; slots = c.args.items.now.slots }) c.requires.tabled c.len-names.ensures.ordered
    c.name-name.ensures (c.in-Ok-None.ensures.inserted c.in-Ok-None.field-0-is ∙ ap (insert_entry g.T.Name.Ord.cmp c.args.index.now c.name-name.result) (c.vacant_key.ensures.value ∙ sym c.in-Ok.ensures.number))
    (sym c.in-Ok-None.ensures.found ∙ c.in-Ok-None.field-0-is) c.in-Ok.ensures.ok c.requires.copies

pub returns-in-Err-add : goal.returns-in-Err-add
returns-in-Err-add g c =
    let none = sym c.in-Ok-None.ensures.found ∙ c.in-Ok-None.field-0-is in
    refuses g.met.T.Name.Ord.total (record { index = c.args.index.now; slots = c.args.items.now.slots }) c.requires.tabled
    (c.remove.ensures.removed ∙ ap (remove_entry (eq_by_cmp g.T.Name.Ord.cmp c.name-name.result)) (c.in-Ok-None.ensures.inserted c.in-Ok-None.field-0-is)
    ∙ remove-inserted g.met.T.Name.Ord.total c.name-name.result c.vacant_key.result c.args.index.now none) c.in-Err-add.ensures.err (rw c.name-name.ensures at none)

pub returns-in-Err : goal.returns-in-Err
returns-in-Err g c =
    refuses g.met.T.Name.Ord.total (record { index = c.args.index.now; slots = c.args.items.now.slots }) c.requires.tabled c.in-Err.ensures.err refl (rw c.name-name.ensures at c.in-Err.ensures.fails_for_new_keys)

use Rattle.std.proofs.Common.{refl, sym, ap, ◌∙◌}
use Rattle.slab.specs.Slab.{get}
use Rattle.entries.proofs.Joining.{had_one, takes-some, takes-last, takes-away}
use Rattle.entries.proofs.table.remove.Goals as goal

pub returns-in-Some-clause-taken : goal.returns-in-Some-clause-taken
returns-in-Some-clause-taken g c =
    takes-last g.met.T.Name.Ord.total (record { index = c.args.index.now; slots = c.args.items.now.slots }) c.requires c.len-names.ensures.ordered
    (had_one c.args.item c.args.list c.leave.new.items.slots (get c.args.items.now c.args.item) c.leave.result refl c.if-leave.true c.leave.ensures) (sym c.in-Some.ensures.value) (c.name.ensures ∙ ap g.T.Named.name_of c.message.ensures)
    c.in-Some.ensures.updates.changed c.in-Some.ensures.updates.others c.remove.ensures.removed

pub returns-in-None-clause-taken : goal.returns-in-None-clause-taken
returns-in-None-clause-taken g c =
    takes-away g.met.T.Name.Ord.total (record { index = c.args.index.now; slots = c.args.items.now.slots }) c.requires
    (had_one c.args.item c.args.list c.leave.new.items.slots (get c.args.items.now c.args.item) c.leave.result refl c.if-leave.true c.leave.ensures) (sym c.in-None.ensures.value)

pub returns-else-leave-clause-taken : goal.returns-else-leave-clause-taken
returns-else-leave-clause-taken g c =
    takes-some g.met.T.Name.Ord.total (record { index = c.args.index.now; slots = c.args.items.now.slots }) c.requires c.len-names.ensures.ordered
    (get c.args.items.now c.args.item) c.leave.result refl c.if-leave.false refl c.leave.ensures

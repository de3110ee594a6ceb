use Rattle.std.proofs.Common.{rules}
use Rattle.entries.proofs.Slots.{number_laws}
use Rattle.entries.proofs.Items.{added_between, added_behind}
use Rattle.entries.proofs.item.add_far.Goals as goal

pub returns-in_ok-push-clause-ok : goal.returns-in_ok-push-clause-ok
returns-in_ok-push-clause-ok c q =
    rw c.in_ok-push.ensures.items (added_between number_laws c.args.list c.args.place c.args.few.now.items c.args.others.now.entries c.requires q)

pub returns-in_ok-insert-clause-ok : goal.returns-in_ok-insert-clause-ok
returns-in_ok-insert-clause-ok c q =
    added_behind number_laws c.args.list c.args.place c.args.few.now.items c.args.others.now.entries c.insert.new.self.entries c.requires (search rules) q

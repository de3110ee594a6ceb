use Rattle.std.proofs.Common.{◌++◌}
use Rattle.entries.proofs.Slots.{number_laws}
use Rattle.entries.proofs.Items.{all_left}
use Rattle.entries.proofs.item.Item.remove.Goals as goal

pub returns-clause-places : goal.returns-clause-places
returns-clause-places g c q =
    rw (← c.self.view_is, c.drop_of.ensures, c.drop_of-2.ensures, c.drop_of-3.ensures, c.drop_of-4.ensures)
    (all_left number_laws c.args.list c.self.inside.first c.self.inside.second c.self.inside.third c.self.inside.fourth (c.self.inside.few.items ++ c.self.inside.others.entries)
    (c.drop_far.new.few.items ++ c.drop_far.new.others.entries) c.drop_far.ensures q)

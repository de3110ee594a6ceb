use Rattle.std.proofs.Common.{◌++◌, ap, ◌∙◌}
use Rattle.std.specs.Map.{lookup}
use Rattle.entries.specs.Overlaid.{same_number}
use Rattle.entries.proofs.Slots.{number_laws}
use Rattle.entries.proofs.Items.{adds_far}
use Rattle.entries.proofs.item.Item.add.Goals as goal

pub returns-clause-places : goal.returns-clause-places
returns-clause-places g c q =
    let none = ap (λ it. lookup (same_number c.args.list) it.places) c.self.view_is ∙ c.requires in
    rw (← c.self.view_is) (adds_far number_laws c.args.list c.args.place c.self.inside.first c.self.inside.second c.self.inside.third c.self.inside.fourth (c.self.inside.few.items ++ c.self.inside.others.entries) none
    (c.add_far.new.few.items ++ c.add_far.new.others.entries) c.in_ok-add_far.ensures.ok q)

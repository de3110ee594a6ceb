use Rattle.std.proofs.Common.{rules, ◌++◌, sym, ◌∙◌}
use Rattle.entries.specs.Overlaid.{same_number}
use Rattle.entries.proofs.Items.{lookup_all}
use Rattle.entries.proofs.item.Item.place.Goals as goal

pub returns-in-None : goal.returns-in-None
returns-in-None g c =
    let found = lookup_all (same_number c.args.list) c.self.inside.first c.self.inside.second c.self.inside.third c.self.inside.fourth (c.self.inside.few.items ++ c.self.inside.others.entries) in
    rw (← c.self.view_is, found, sym c.near_place.ensures ∙ c.in-None.is) (search rules)

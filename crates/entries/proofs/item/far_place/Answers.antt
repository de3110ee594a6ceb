use Rattle.std.proofs.Common.{rules, refl, sym, ◌∙◌}
use Rattle.entries.specs.Overlaid.{same_number}
use Rattle.entries.proofs.Items.{lookup_both}
use Rattle.entries.proofs.item.far_place.Goals as goal

pub returns-in-Some : goal.returns-in-Some
returns-in-Some c =
    rw (lookup_both (same_number c.args.list) c.args.few.now c.args.others.now.entries, sym c.place_among.ensures ∙ c.in-Some.is) refl

pub returns : goal.returns
returns c =
    rw (lookup_both (same_number c.args.list) c.args.few.now c.args.others.now.entries, sym c.place_among.ensures ∙ c.in_default.is) (search rules)

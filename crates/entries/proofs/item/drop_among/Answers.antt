use Rattle.std.proofs.Common.{rules, ◌∙◌, ap}
use Rattle.std.proofs.lemmas.Fn.{filter_same}
use Rattle.std.specs.Map.{lookup}
use Rattle.entries.specs.Overlaid.{same_number}
use Rattle.entries.proofs.Slots.{number_laws}
use Rattle.entries.proofs.Items.{kept_left}
use Rattle.entries.proofs.item.drop_among.Goals as goal

pub returns : goal.returns
returns c q = ap (λ es. lookup (same_number q) es) (filter_same _ _ _ (λ x b f' k. search rules) _ _ c.retain.ensures.filtered)
    ∙ kept_left number_laws c.args.list c.args.places.now.items q

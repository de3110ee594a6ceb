use Rattle.entries.specs.Overlaid.{same_number}
use Rattle.entries.proofs.Items.{both_left}
use Rattle.entries.proofs.item.drop_far.Goals as goal

pub returns : goal.returns
returns c q =
    both_left same_number c.args.list c.args.few.now.items c.args.others.now.entries c.drop_among.new.places.items c.remove.new.self.entries c.drop_among.ensures c.remove.ensures.updates.0 q

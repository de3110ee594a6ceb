use Rattle.std.proofs.Common.{refl}
use Rattle.examples.proofs.worked_examples.world_examples.Goals as goal

pub returns-clause-packets : goal.returns-clause-packets
returns-clause-packets c = record { made = refl; refused = refl }

pub returns-clause-events : goal.returns-clause-events
returns-clause-events c = record { delivered = refl; unsent = refl; hostile = refl; not_hostile = refl; unknown = refl }

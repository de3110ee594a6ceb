use Rattle.broadcast_core.proofs.Lawful.{same_by-lawful}
use Rattle.broadcast_core.proofs.laws.same_law.Goals as goal

pub returns-clause-key : goal.returns-clause-key
returns-clause-key g c = (same_by-lawful g.met.P.Ord.total g.met.D.Ord.total).key

pub returns-clause-digest : goal.returns-clause-digest
returns-clause-digest g c = (same_by-lawful g.met.P.Ord.total g.met.D.Ord.total).digest

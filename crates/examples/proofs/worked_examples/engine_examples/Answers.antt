use Rattle.std.proofs.Common.{refl}
use Rattle.examples.proofs.worked_examples.engine_examples.Goals as goal

pub returns-clause-served : goal.returns-clause-served
returns-clause-served c = record { turned = refl; replied = refl; counted = refl }

pub returns-clause-mixed : goal.returns-clause-mixed
returns-clause-mixed c = record { turned = refl; told = refl; counted = refl; sent = refl }

pub returns-clause-hung_up : goal.returns-clause-hung_up
returns-clause-hung_up c = record { before = refl; after = refl; counted = refl; nobody_waits = refl }

pub returns-clause-ends : goal.returns-clause-ends
returns-clause-ends c = record { turned = refl; cause = refl; counted = refl; nobody_waits = refl }

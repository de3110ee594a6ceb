use Rattle.broadcast_core.proofs.ListLaws.{list-whole, stayed-always}
use Rattle.broadcast_core.proofs.Listed.{list-affordable}
use Rattle.broadcast_core.proofs.laws.list_law.Goals as goal

pub returns-clause-within_budget : goal.returns-clause-within_budget
returns-clause-within_budget g c s laws p past = list-affordable s laws p past

pub returns-clause-whole_if_all_fit : goal.returns-clause-whole_if_all_fit
returns-clause-whole_if_all_fit g c s laws p past fit = list-whole s laws p past fit

pub returns-clause-stays_while_it_fits : goal.returns-clause-stays_while_it_fits
returns-clause-stays_while_it_fits g c same laws size budget x takings = stayed-always laws size budget x takings

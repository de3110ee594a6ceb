use Rattle.std.proofs.Common.{refl}
use Rattle.examples.proofs.worked_examples.core_examples.Goals as goal

pub returns-clause-repeats : goal.returns-clause-repeats
returns-clause-repeats c = record { answered = refl; listed = refl; with_no_place = refl }

pub returns-clause-broadcasts : goal.returns-clause-broadcasts
returns-clause-broadcasts c = record { answered = refl; listed = refl; sent = refl }

pub returns-clause-stays : goal.returns-clause-stays
returns-clause-stays c = record { answered = refl; listed = refl }

pub returns-clause-requests : goal.returns-clause-requests
returns-clause-requests c = record { answered = refl; waiting = refl }

pub returns-clause-budgets : goal.returns-clause-budgets
returns-clause-budgets c = record { bytes_evict = refl; two_listed = refl; oversize_serves = refl; oversize_listed = refl; longer_answered = refl; longer_listed = refl; shorter_answered = refl; shorter_listed = refl }

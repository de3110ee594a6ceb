use Rattle.broadcast_core.proofs.TakenLaws.{message-from, message-if_listed}
use Rattle.broadcast_core.proofs.laws.cache_law.Goals as goal

pub returns-clause-was_taken : goal.returns-clause-was_taken
returns-clause-was_taken g c s keys digests past d x h = message-from s keys digests d past x h

pub returns-clause-if_listed : goal.returns-clause-if_listed
returns-clause-if_listed g c s keys past d = message-if_listed s keys d past

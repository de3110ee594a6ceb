use Rattle.broadcast_core.proofs.TakenLaws.{get-from, reply-listed, reply-waits, answers-from}
use Rattle.broadcast_core.proofs.laws.answer_law.Goals as goal

pub returns-clause-to_get : goal.returns-clause-to_get
returns-clause-to_get g c s keys digests past v d x h = get-from s keys digests v d past x h

pub returns-clause-to_subscribe : goal.returns-clause-to_subscribe
returns-clause-to_subscribe g c s keys digests w past after r now h = reply-listed s keys digests w past after r now h

pub returns-clause-to_waiting : goal.returns-clause-to_waiting
returns-clause-to_waiting g c s keys digests w past after r not_yet = reply-waits s w past after r not_yet

pub returns-clause-found : goal.returns-clause-found
returns-clause-found g c s keys digests log h = answers-from s keys digests log h

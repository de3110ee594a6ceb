use Rattle.std.proofs.Common.{ap, ◌==◌}
use Rattle.std.specs.List.{count_by}
use Rattle.broadcast_core.specs.Content.{waiting_at}
use Rattle.broadcast_c.specs.Storing.{same_bytes}
use Rattle.broadcast_c.specs.Law.{history_of, store_after}
use Rattle.broadcast_c.proofs.Following.{s, follows, answers, by_concerns, cached_if_listed}
use Rattle.broadcast_c.proofs.Leaving.{gone_once}
use Rattle.broadcast_c.proofs.Moving.{moved_once}
use Rattle.broadcast_c.proofs.Serving.{served_once}
use Rattle.broadcast_c.proofs.laws.store_law.Goals as goal

pub returns-clause-content : goal.returns-clause-content
returns-clause-content c own deque_size byte_budget first calls new done = follows own deque_size byte_budget first new calls done

pub returns-clause-answered : goal.returns-clause-answered
returns-clause-answered c own deque_size byte_budget first calls new done = answers own deque_size byte_budget first new calls done

pub returns-clause-concerns : goal.returns-clause-concerns
returns-clause-concerns c own deque_size byte_budget first calls new done = by_concerns own deque_size byte_budget first new calls done

pub returns-clause-cached : goal.returns-clause-cached
returns-clause-cached c own deque_size byte_budget first calls new done = cached_if_listed own deque_size byte_budget (history_of (s own deque_size byte_budget) calls) (store_after first calls) (follows own deque_size byte_budget first new calls done)

pub returns-clause-served : goal.returns-clause-served
returns-clause-served c own deque_size byte_budget first calls new done = λ t d.
    served_once t d first (ap (λ core. count_by (λ x. x == t) (waiting_at same_bytes core d)) new.core) calls done

pub returns-clause-gone : goal.returns-clause-gone
returns-clause-gone c own deque_size byte_budget first calls new done = λ d. gone_once d own deque_size byte_budget first new calls done

pub returns-clause-moved : goal.returns-clause-moved
returns-clause-moved c own deque_size byte_budget first calls new done = moved_once first new.left calls done

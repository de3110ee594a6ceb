-- Believed.
-- What the replies that are handed out make of the counters.
use Rattle.std.specs.Prelude.{true, false, List, [], ◌∷◌, Option, None, Some}
use Rattle.engine_io.specs.declared.metrics.Status.TheVariants.{Success, Failure, Dropped}
use Rattle.engine_io.specs.Counters.{Totals, added}
use Rattle.engine_io.specs.Replies.{Replied, subscribed, got}

module _ {S G A C : Type 0} where
  -- a reply is counted by whether it was delivered, and a delivered one to a get by whether it
  -- has a message
  abbrev pub count_reply : Replied S G A (Option C) → Totals → Totals
  count_reply (subscribed w a true) t = record t { subscribe = added Success 1 t.subscribe }
  count_reply (subscribed w a false) t = record t { subscribe = added Dropped 1 t.subscribe }
  count_reply (got v (Some c) true) t = record t { get = added Success 1 t.get }
  count_reply (got v None true) t = record t { get = added Failure 1 t.get }
  count_reply (got v b false) t = record t { get = added Dropped 1 t.get }

  abbrev pub count_replies : List (Replied S G A (Option C)) → Totals → Totals
  count_replies [] t = t
  count_replies (h ∷ hs) t = count_replies hs (count_reply h t)

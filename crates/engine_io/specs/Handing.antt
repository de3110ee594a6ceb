-- Believed.
-- Replies are handed out, and counted.
use Rattle.std.specs.Prelude.{◌≡◌, List, ◌++◌, Option}
use Rattle.engine_io.specs.Counters.{Counters}
use Rattle.engine_io.specs.Replies.{Replied}
use Rattle.engine_io.specs.ReplyCounts.{count_replies}

module _ {P S G A C O : Type 0} (told : O → List (Replied S G A (Option C)) → Type 0) where
  pub record Hands (old : O) (old_counters : Counters P)
      (replies : List (Replied S G A (Option C))) (new : O)
      (new_counters : Counters P) : Type 0 where
    pub handed : (before : List (Replied S G A (Option C))) → told old before
        → told new (before ++ replies)
    pub counted : new_counters
        ≡ record old_counters { totals = count_replies replies old_counters.totals }

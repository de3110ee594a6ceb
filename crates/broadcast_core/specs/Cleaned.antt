-- Internal.
-- What a cleanup of the waiters that answer closed leaves.
use Rattle.std.specs.Prelude.{◌≡◌, ℕ, Bool, List, ◌∷◌}
use Rattle.std.specs.List.{count_by}
use Rattle.broadcast_core.specs.Content.{Content}
use Rattle.broadcast_core.specs.Setting.{Setting}
use Rattle.broadcast_core.specs.Happening.{History, cleanup}
use Rattle.broadcast_core.specs.Counted.{counted}
use Rattle.broadcast_core.specs.Waiting.{Awaiting, waiting}
use Rattle.broadcast_core.specs.HasContent.{HasContent, AnswersAs}

-- the number of subscribes that the test names
abbrev pub named_by : {W D : Type 0} → (ℕ → W → Bool) → List (Awaiting W D) → ℕ
named_by test ws = count_by (λ w. test w.place w.waiter) ws

module _ {P M D W V : Type 0} (s : Setting P M D) where
  -- a cleanup of the waiters that answered closed leaves the content, and returns how many they are
  pub record HasCleaned (may_answer : W → Bool → Type 0) (past : History P M D W V)
      (new : Content P M D W) (returned : ℕ) : Type 0 where
    pub test : ℕ → W → Bool
    pub content : HasContent s (cleanup test ∷ past) new
    pub answered : AnswersAs may_answer test (waiting s past)
    pub removed : returned ≡ counted (named_by test (waiting s past))

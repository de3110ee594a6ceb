-- Believed.
-- What a core contains after a history.
use Rattle.std.specs.Prelude.{◌≡◌, ℕ, Bool, List}
use Rattle.std.specs.List.{AllByRecursion}
use Rattle.broadcast_core.specs.Content.{Content, charged_at, message_at, waiting_at}
use Rattle.broadcast_core.specs.Setting.{Setting}
use Rattle.broadcast_core.specs.Happening.{History}
use Rattle.broadcast_core.specs.Peers.{primary}
use Rattle.broadcast_core.specs.Lists.{charged_list}
use Rattle.broadcast_core.specs.Cache.{message}
use Rattle.broadcast_core.specs.Waiting.{Awaiting, waiting_for}

module _ {P M D W V : Type 0} (s : Setting P M D) where
  -- the core has what the history gives
  pub record HasContent (past : History P M D W V) (core : Content P M D W) : Type 0 where
    pub own : core.own ≡ s.own
    pub deque_size : core.deque_size ≡ s.deque_size
    pub byte_budget : core.byte_budget ≡ s.byte_budget
    pub primary : core.primary ≡ primary s past
    pub lists : (p : P) → charged_at s.same core p ≡ charged_list s p past
    pub cached : (d : D) → message_at s.same core d ≡ message s d past
    pub waiters : (d : D) → waiting_at s.same core d ≡ waiting_for s d past

-- each waiter may have answered as the test says: closed if it names the subscribe, else open
abbrev pub AnswersAs : {W D : Type 0} → (W → Bool → Type 0) → (ℕ → W → Bool)
    → List (Awaiting W D) → Type 0
AnswersAs may_answer test ws = AllByRecursion (λ w. may_answer w.waiter (test w.place w.waiter)) ws

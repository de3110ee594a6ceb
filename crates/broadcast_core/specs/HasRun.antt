-- Believed.
-- What one event does to a core, and what a run of events leaves.
use Rattle.std.specs.Prelude.{◌≡◌, ℕ, List, [], ◌∷◌, ◌++◌, length, if◌then◌else◌, ◌⊎◌}
use Rattle.broadcast_core.specs.Content.{Content, list_at}
use Rattle.broadcast_core.specs.Setting.{Setting}
use Rattle.broadcast_core.specs.Happening.{History}
use Rattle.broadcast_core.specs.Lists.{list}
use Rattle.broadcast_core.specs.Concerns.{concerns, AreAlike, AreEqual}
use Rattle.broadcast_core.specs.Sent.{sent}
use Rattle.broadcast_core.specs.HasContent.{HasContent}
use Rattle.broadcast_core.specs.Log.{Log, is_refused, log_of, after, history, history_of}
use Rattle.broadcast_core.specs.Answers.{answer_to, IsAllocFailure, MayAnswer}
use Rattle.broadcast_core.specs.Counted.{counted}
use Rattle.broadcast_core.specs.declared.event.Event.{Event}
use Rattle.broadcast_core.specs.declared.event.Answer.{Answer}
use Rattle.broadcast_core.specs.declared.event.Answer.TheVariants.{Removed}
use Rattle.broadcast_core.specs.declared.event.Sent.{Sent}

-- the answer with its count as 64 bits count it
abbrev pub counted_in : {M D : Type 0} → Answer M D → Answer M D
counted_in (Removed n) = Removed (counted n)
counted_in a = a

module _ {P M D : Type 0} (s : Setting P M D) where
  -- each answer of the log is one that its event may be given after the history before it
  abbrev pub IsAnswered : Log P M D → Type 0
  IsAnswered [] = Unit {0}
  IsAnswered (x ∷ log) = MayAnswer s x.0 (history s log) x.1 × IsAnswered log

  -- after the history the event has an answer that it may be given, with its count as 64 bits count
  -- it; a refused event changes nothing, and nothing is sent
  pub record Applies (past : History P M D ℕ ℕ) (e : Event P M D) (new : Content P M D ℕ)
      (answer : Answer M D) (sending : List (Sent P)) : Type 0 where
    pub answered : (answer ≡ counted_in (answer_to s e past)) ⊎ IsAllocFailure s e past answer
    pub content : HasContent s (if is_refused answer then past else after s e past) new
    pub sent : sent s (if is_refused answer then past else after s e past) ≡ sent s past ++ sending

  -- the event is applied after any history of which the core had the content
  abbrev pub Follows : Event P M D → Content P M D ℕ → Content P M D ℕ → Answer M D
      → List (Sent P) → Type 0
  Follows e old new answer sending = (past : History P M D ℕ ℕ)
      → HasContent s past old → Applies past e new answer sending

  -- the events were run in order, gave these answers and sends, and left this core
  pub record HasRun (events : List (Event P M D)) (answers : List (Answer M D))
      (sends : List (Sent P)) (core : Content P M D ℕ) : Type 0 where
    -- each event has its answer
    pub one_each : length answers ≡ length events
    -- which it may be given after the events before it
    pub answered : IsAnswered (log_of events answers)
    -- the core has what the history gives
    pub content : HasContent s (history_of s events answers) core
    -- a key's list is that of any key in any history with the same concerns
    pub same_concerns_same_list : (p q : P) (other : History P M D ℕ ℕ)
        → concerns s q other ≡ concerns s p (history_of s events answers)
        → list s q other ≡ list_at s.same core p
    -- and equals that of any key in any history with alike concerns
    pub alike_concerns_equal_list : (p q : P) (other : History P M D ℕ ℕ)
        → AreAlike s.same.digest (concerns s q other) (concerns s p (history_of s events answers))
        → AreEqual s.same.digest (list s q other) (list_at s.same core p)
    -- what was sent is what the history sends
    pub sent : sends ≡ sent s (history_of s events answers)

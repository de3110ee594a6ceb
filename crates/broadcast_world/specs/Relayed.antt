-- Believed.
-- The relay of answers, and what a run gives of it.
use Rattle.std.specs.Prelude.{◌≡◌, ℕ, ◌+◌, ◌==◌, Bool, true, if◌then◌else◌, List, [], ◌∷◌, ◌++◌, length, reverse}
use Rattle.std.specs.List.{flat_map, list_any}
use Rattle.broadcast_core.specs.Carried.{Carried}
use Rattle.broadcast_core.specs.Content.{Content, first_places}
use Rattle.broadcast_core.specs.Setting.{Setting}
use Rattle.broadcast_core.specs.Happening.{History}
use Rattle.broadcast_core.specs.Log.{after, is_refused}
use Rattle.broadcast_core.specs.Answers.{may_allocate}
use Rattle.broadcast_core.specs.HasRun.{HasRun}
use Rattle.broadcast_core.specs.declared.event.Event.{Event}
use Rattle.broadcast_core.specs.declared.event.Event.TheVariants.{Broadcast}
use Rattle.broadcast_core.specs.declared.event.Answer.{Answer}
use Rattle.broadcast_core.specs.declared.event.Answer.TheVariants.{Taken, Answered}
use Rattle.broadcast_core.specs.declared.event.Sent.{Sent}
use Rattle.broadcast_world.specs.Relay.{same_digest, unless_empty}

-- the message with which an answer replies to subscribes, if it does
abbrev pub told : {M D : Type 0} → Answer M D → List (Carried M D)
told (Answered c) = c ∷ []
told (Taken outcome served c) = unless_empty (c ∷ []) served
told _ = []

-- the messages of answers, each digest at its first place only
abbrev pub relayed : {M D : Type 0} → (D → D → Bool) → List (Answer M D) → List (Carried M D)
relayed same answers = first_places (same_digest same) (flat_map told answers)

-- the places of the items that pass the test, where the first item is at place n
abbrev pub places_from : {X : Type 0} → (X → Bool) → ℕ → List X → List ℕ
places_from test n [] = []
places_from test n (x ∷ xs) =
    if test x then n ∷ places_from test (n + 1) xs else places_from test (n + 1) xs

-- the items but those at the places, where the first item is at place n
abbrev pub but_at : {X : Type 0} → List ℕ → ℕ → List X → List X
but_at places n [] = []
but_at places n (x ∷ xs) = if list_any (λ k. k == n) places
    then but_at places (n + 1) xs else x ∷ but_at places (n + 1) xs

module _ {P M D : Type 0} (s : Setting P M D) where
  -- the history after events, of which the newest is the first
  abbrev pub after_each : List (Event P M D) → History P M D ℕ ℕ
  after_each [] = []
  after_each (e ∷ older) = after s e (after_each older)

  -- the history of the events, in order, but those at the places
  abbrev pub history_but : List ℕ → List (Event P M D) → History P M D ℕ ℕ
  history_but places events = after_each (reverse (but_at places 0 events))

  -- whether the event may be refused after a history: it may allocate, or be a message without an
  -- encoding
  abbrev pub may_be_refused : Event P M D → History P M D ℕ ℕ → Bool
  may_be_refused (Broadcast r c) past = true
  may_be_refused e past = may_allocate s e past

  -- each event at one of the places may be refused after the events before it that are not
  abbrev pub AreRefusable : List (Event P M D) → List ℕ → Type 0
  AreRefusable events places = (before : List (Event P M D)) (e : Event P M D)
      (newer : List (Event P M D)) → events ≡ before ++ e ∷ newer
      → list_any (λ k. k == length before) places ≡ true
      → may_be_refused e (history_but places before) ≡ true

  -- the events were run, which gave these messages, and refused the events at these places
  pub record IsRelay (events : List (Event P M D)) (messages : List (Carried M D))
      (refused : List ℕ) : Type 0 where
    pub answers : List (Answer M D)
    pub sends : List (Sent P)
    pub core : Content P M D ℕ
    pub ran : HasRun s events answers sends core
    -- the messages are those of the answers
    pub relays : messages ≡ relayed s.same.digest answers
    -- the places are those of the answers that are refusals
    pub refuses : refused ≡ places_from is_refused 0 answers

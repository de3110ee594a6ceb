-- Believed.
-- What follows from the definitions of the cache and of the replies.
use Rattle.std.specs.Prelude.{◌≡◌, ◌+◌, ◌||◌, true, false, List, [], ◌∷◌, ◌++◌, length, Option, None, Some}
use Rattle.std.specs.List.{list_any}
use Rattle.broadcast_core.specs.Carried.{Carried}
use Rattle.broadcast_core.specs.Setting.{Setting}
use Rattle.broadcast_core.specs.Happening.{Happening, Future, carried_by, taken, takes}
use Rattle.broadcast_core.specs.Waiting.{Awaiting, Reply, cleans}
use Rattle.broadcast_core.specs.Log.{Log, history}
use Rattle.broadcast_core.specs.declared.event.Event.{Event}
use Rattle.broadcast_core.specs.declared.event.Event.TheVariants.{Subscribe, Get}
use Rattle.broadcast_core.specs.declared.event.Answer.{Answer}
use Rattle.broadcast_core.specs.declared.event.Answer.TheVariants as answer

module _ {P M D W V : Type 0} (s : Setting P M D) where
  -- one of the happenings takes the message, and the message goes by the digest
  pub record IsFrom (d : D) (happenings : List (Happening P M D W V)) (c : Carried M D)
      : Type 0 where
    pub before : List (Happening P M D W V)
    pub happening : Happening P M D W V
    pub after : List (Happening P M D W V)
    pub place : happenings ≡ before ++ happening ∷ after
    pub takes : carried_by s (taken s happening) ≡ Some c
    pub named : s.same.digest d c.digest ≡ true

  -- the reply is the message of the first happening that takes the subscribe's digest, and no
  -- cleanup before that names the subscribe
  abbrev pub IsFirst : Awaiting W D → Future P M D W V → Reply M D → Type 0
  IsFirst w es r = (x : IsFrom w.digest es r.1) × (r.0 ≡ length x.before + 1)
      × (list_any (λ e. takes s w.digest e || cleans s w e) x.before ≡ false)

-- the digest that an event asks for
abbrev pub asked : {P M D : Type 0} → Event P M D → Option D
asked (Subscribe k d) = Some d
asked (Get k d) = Some d
asked _ = None

-- the message that is found for it at once
abbrev pub found : {M D : Type 0} → Answer M D → Option (Carried M D)
found (answer.Answered c) = Some c
found (answer.Got message) = message
found _ = None

module _ {P M D : Type 0} (s : Setting P M D) where
  -- each message that is found was taken before, under the digest that was asked for
  abbrev pub FoundWasTaken : Log P M D → Type 0
  FoundWasTaken [] = Unit {0}
  FoundWasTaken (x ∷ log) = ((d : D) (c : Carried M D) → asked x.0 ≡ Some d → found x.1 ≡ Some c
      → IsFrom s d (history s log) c) × FoundWasTaken log

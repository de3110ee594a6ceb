-- Believed.
-- Polls of an engine, one after another.
use Rattle.std.specs.Prelude.{◌≡◌, ◌≤◌, ℕ, zero, suc, List, [], ◌++◌, None, ◌∷◌, Option, Some}
use Rattle.futures.specs.declared.task.Poll.{Poll}
use Rattle.engine_io.specs.declared.input.Turn.{Turn}
use Rattle.engine_io.specs.Sources.{given}
use Rattle.commonware_broadcast.specs.EngineState.{Moment}
use Rattle.commonware_broadcast.specs.Interfaces.{Format, Interfaces}
use Rattle.commonware_broadcast.specs.Polls.{IsPoll}
use Rattle.std.specs.List.{All}
use Rattle.engine_io.specs.declared.input.EndCause.{EndCause}
use Rattle.engine_io.specs.declared.input.Turn.TheVariants.{Ended}
use Rattle.commonware_broadcast.specs.EngineHistory.{end_told}
use Rattle.commonware_broadcast.specs.TakesSteps.{TakesSteps, Always}

-- the turns tell how the engine ended, if it did: the last of them, and no other
abbrev pub TellsEnd : {P D : Type 0} → Option EndCause → List (Turn P D) → Type 0
TellsEnd None listed = All (λ turn. end_told turn ≡ None) listed
TellsEnd {P} {D} (Some cause) listed = (before : List (Turn P D)) × (listed ≡ before ++ Ended cause ∷ [])
    × All (λ turn. end_told turn ≡ None) before

module _ {P M D S G O J N V B Q C T : Type 0} (f : Format P M D C)
    (i : Interfaces P M D S G O J N V B Q) where
  -- this many polls, one after another, and the turns that were ready
  abbrev pub Polls : ℕ → Moment P M S O D J B Q C T N V → Moment P M S O D J B Q C T N V
      → List (Turn P D) → Type 0
  Polls zero old new turns = (new ≡ old) × (turns ≡ [])
  Polls (suc count) old new turns =
      (mid : Moment P M S O D J B Q C T N V) × (result : Poll (Turn P D)) × IsPoll f i old mid result
      × (rest : List (Turn P D)) × (turns ≡ given result ++ rest) × Polls count mid new rest

  -- as many polls as were asked for, or fewer that ended the engine
  pub record Drives (limit : ℕ) (old new : Moment P M S O D J B Q C T N V)
      (turns : List (Turn P D)) : Type 0 where
    pub count : ℕ
    pub polls : Polls count old new turns
    pub at_most : count ≤ limit
    pub all_unless_ended : new.engine.end ≡ None → count ≡ limit

  -- the steps of some polls
  abbrev pub AlwaysTakes : Moment P M S O D J B Q C T N V → Moment P M S O D J B Q C T N V
      → List (Turn P D) → Type 0
  AlwaysTakes old new listed = Always f i old (λ s past before. TakesSteps s i past before old new listed)

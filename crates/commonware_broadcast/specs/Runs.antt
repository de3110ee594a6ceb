-- Internal.
-- Polls of an engine that runs, and what it leaves.
use Rattle.std.specs.Prelude.{◌≡◌, ℕ, List, Some, MatchOption}
use Rattle.engine_io.specs.declared.input.EndCause.{EndCause}
use Rattle.engine_io.specs.declared.input.EndCause.TheVariants.{WaitFailed}
use Rattle.engine_io.specs.declared.input.Turn.{Turn}
use Rattle.commonware_broadcast.specs.declared.buffered.engine.report.Report.{Report}
use Rattle.commonware_broadcast.specs.EngineState.{Moment}
use Rattle.commonware_broadcast.specs.Interfaces.{Format, Interfaces}
use Rattle.commonware_broadcast.specs.Drives.{Polls}

module _ {P M D S G O J N V B Q C T : Type 0} (f : Format P M D C)
    (i : Interfaces P M D S G O J N V B Q) where
  -- some polls, one after another
  pub record SomePolls (old new : Moment P M S O D J B Q C T N V) : Type 0 where
    pub count : ℕ
    pub turns : List (Turn P D)
    pub polls : Polls f i count old new turns

  -- some polls, of which the last one ended the engine for this cause
  abbrev pub PollsToEnd : Moment P M S O D J B Q C T N V → Moment P M S O D J B Q C T N V → EndCause
      → Type 0
  PollsToEnd old new cause = SomePolls old new × (new.engine.end ≡ Some cause)

  -- an engine took some polls, and left this report: the last poll ended it for the cause that the
  -- report names, or its thread could not wait, and no poll was taken
  pub record IsRun (old : Moment P M S O D J B Q C T N V) (report : Report P Q) : Type 0 where
    pub last : Moment P M S O D J B Q C T N V
    pub took : SomePolls old last
    pub counters : report.metrics ≡ last.engine.node.metrics
    pub caused : MatchOption report.failure
        ((last.engine.end ≡ Some report.cause) × (report.requests ≡ last.engine.requests))
        (λ failed. (report.cause ≡ WaitFailed) × (last ≡ old))

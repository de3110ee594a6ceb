-- Believed.
-- An engine.
use Rattle.std.specs.Prelude.{Bool, Option}
use Rattle.engine_io.specs.declared.input.EndCause.{EndCause}
use Rattle.commonware_broadcast.specs.declared.buffered.engine.node.Node.{Node}

-- what a caller reads of an engine
pub record EngineState (P M S O D J B Q C T : Type 0) : Type 0 where
  pub node : Node P M S O D
  pub provider : B
  pub requests : Q
  -- the job that is pending, with the sender of its message
  pub job : Option (P × J)
  -- why the engine ended, if it did
  pub end : Option EndCause
  pub priority : Bool
  pub codec_config : C
  pub strategy : T

-- an engine, and both ends of its network
pub record Moment (P M S O D J B Q C T N V : Type 0) : Type 0 where
  pub engine : EngineState P M S O D J B Q C T
  pub sender : N
  pub receiver : V

abbrev pub moment : {P M S O D J B Q C T N V : Type 0} → EngineState P M S O D J B Q C T → N × V
    → Moment P M S O D J B Q C T N V
moment engine network = record {
  engine = engine;
  sender = network.0;
  receiver = network.1;
}

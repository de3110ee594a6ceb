-- Believed.
-- An engine to which nothing has happened.
use Rattle.std.specs.Prelude.{None}
use Rattle.broadcast_core.specs.Empty.{empty}
use Rattle.commonware_broadcast.specs.declared.buffered.config.Config.{Config}
use Rattle.engine_io.specs.Counters.{zero_counters}
use Rattle.commonware_broadcast.specs.EngineState.{EngineState}

-- no primary peers, an empty cache, no waiters, all counters zero, no job, and no end
abbrev pub fresh : {P M S O D J B Q C T : Type 0} → Config P C B T → Q → O
    → EngineState P M S O D J B Q C T
fresh cfg requests outlet = record {
  node = record {
    core = empty cfg.public_key cfg.deque_size cfg.byte_budget;
    metrics = zero_counters;
    outlet = outlet;
  };
  provider = cfg.peer_provider;
  requests = requests;
  job = None;
  end = None;
  priority = cfg.priority;
  codec_config = cfg.codec_config;
  strategy = cfg.strategy;
}

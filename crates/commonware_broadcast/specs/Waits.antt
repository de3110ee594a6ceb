-- Believed.
-- What a pending poll of an engine has registered with.
use Rattle.std.specs.Prelude.{◌≡◌, ℕ, Option, None}
use Rattle.futures.specs.declared.task.context.Context.{Context}
use Rattle.broadcast_mailbox.specs.declared.buffered.ingress.message.Message.{Message}
use Rattle.engine_io.specs.declared.network.Provider.{Ghosts as Provider}
use Rattle.engine_io.specs.declared.network.Receiver.{Ghosts as Receiver}
use Rattle.engine_io.specs.declared.requests.Requests.{Ghosts as Requests}
use Rattle.engine_io.specs.Heard.{HearsAll, HearsJob}
use Rattle.commonware_broadcast.specs.EngineState.{Moment}

module _ {P M S G O D J N V B Q C T : Type 0} (job_needs : J → ℕ → Type 0)
    (receiver : Receiver V P) (provider : Provider B P)
    (requests : Requests Q (Message P M S G D) D) (cx : Context) where
  -- with each source that wakes it, as far as its sources tell which: always with the order to stop
  pub record Waits (old_job : Option (P × J)) (new : Moment P M S O D J B Q C T N V)
      : Type 0 where
    pub for_stop : HearsAll cx (requests.needs_stop new.engine.requests)
    -- with the job, if one is pending
    pub for_job : HearsJob job_needs cx new.engine.job
    -- with all others, if none was pending before; with the network unless it gave a payload
    pub for_peers : old_job ≡ None → HearsAll cx (provider.needs new.engine.provider)
    pub for_requests : old_job ≡ None → HearsAll cx (requests.needs new.engine.requests)
    pub for_network : old_job ≡ None → new.engine.job ≡ None
        → HearsAll cx (receiver.needs new.receiver)

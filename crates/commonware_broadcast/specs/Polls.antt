-- Believed.
-- One poll of an engine.
use Rattle.std.specs.Prelude.{◌≡◌, ◌⊎◌, None, Some}
use Rattle.futures.specs.Poll.{IfReady, OnPending}
use Rattle.futures.specs.declared.task.Poll.{Poll}
use Rattle.futures.specs.declared.task.Poll.TheVariants.{Ready}
use Rattle.broadcast_mailbox.specs.declared.buffered.ingress.message.Message.{Message}
use Rattle.engine_io.specs.declared.input.EndCause.{EndCause}
use Rattle.engine_io.specs.declared.input.EndCause.TheVariants.{Stopped, PeersClosed, NetworkFailed}
use Rattle.engine_io.specs.declared.input.Turn.{Turn}
use Rattle.engine_io.specs.declared.input.Turn.TheVariants.{Ended}
use Rattle.engine_io.specs.declared.network.Provider.{Ghosts as Provider}
use Rattle.engine_io.specs.declared.network.Receiver.{Ghosts as Receiver}
use Rattle.engine_io.specs.declared.requests.Requests.{Ghosts as Requests}
use Rattle.engine_io.specs.Causes.{HasCause}
use Rattle.commonware_broadcast.specs.EngineState.{Moment}
use Rattle.commonware_broadcast.specs.Interfaces.{Format, Interfaces}
use Rattle.commonware_broadcast.specs.Order.{UnlessPeers, IfNetwork}
use Rattle.commonware_broadcast.specs.TakesSteps.{TakesPoll, Always}

module _ {P M S G O D J N V B Q C T : Type 0} (provider : Provider B P) (receiver : Receiver V P)
    (requests : Requests Q (Message P M S G D) D) where
  -- what a poll of an engine that has not ended does with its sources, as far as they tell
  pub record KeepsOrder (old new : Moment P M S O D J B Q C T N V) (result : Poll (Turn P D))
      : Type 0 where
    -- a stop comes first
    pub stop_first : requests.stops old.engine.requests → result ≡ Ready (Ended Stopped)
    -- an end has its cause, and closes the requests
    pub has_cause : (cause : EndCause) → result ≡ Ready (Ended cause)
        → HasCause cause (requests.may_stop old.engine.requests) (provider.may_end old.engine.provider)
        (receiver.may_fail old.receiver)
    pub closes : (cause : EndCause) → result ≡ Ready (Ended cause)
        → requests.closed new.engine.requests
    -- if no job is pending, a peer set comes before a request, and both come before a payload
    pub peers_first : old.engine.job ≡ None → UnlessPeers result (provider.quiet old.engine.provider)
    pub requests_first : old.engine.job ≡ None → IfNetwork result (requests.quiet old.engine.requests)
    pub network_last : (new.receiver ≡ old.receiver)
        ⊎ (provider.quiet old.engine.provider × requests.quiet old.engine.requests)
    -- a pending poll has started a job, or the network had nothing to give either
    pub network_looked_at : old.engine.job ≡ None
        → OnPending result (new.engine.job ≡ None → receiver.quiet old.receiver)
    -- once no job is pending the end of the peer sets ends the engine, and so does a failed
    -- network, unless something else came first
    pub ends_with_peers : old.engine.job ≡ None → provider.ends old.engine.provider
        → (result ≡ Ready (Ended Stopped)) ⊎ (result ≡ Ready (Ended PeersClosed))
    pub ends_with_network : old.engine.job ≡ None → receiver.fails old.receiver
        → (result ≡ Ready (Ended NetworkFailed))
        ⊎ ((new.receiver ≡ old.receiver) × OnPending result ⊥)
    -- it takes one input at most, so a turn leaves no job behind
    pub idle_if_ready : IfReady result (λ turn. new.engine.job ≡ None)

module _ {P M D S G O J N V B Q C T : Type 0} (f : Format P M D C)
    (i : Interfaces P M D S G O J N V B Q) where
  -- a poll of an engine, whatever happened to it before
  pub record IsPoll (old new : Moment P M S O D J B Q C T N V) (result : Poll (Turn P D))
      : Type 0 where
    pub took : Always f i old (λ s past before. TakesPoll s i past before old new result)
    pub attends : old.engine.end ≡ None → KeepsOrder i.provider i.receiver i.requests old new result
    -- once it has ended, every poll returns that end, and changes nothing
    pub same_after_end : (cause : EndCause) → old.engine.end ≡ Some cause
        → (result ≡ Ready (Ended cause)) × (new ≡ old)
    -- the engine has ended if and only if the turn is its end
    pub tells_its_end : (cause : EndCause) → new.engine.end ≡ Some cause
        → result ≡ Ready (Ended cause)
    pub ends_as_told : (cause : EndCause) → result ≡ Ready (Ended cause)
        → new.engine.end ≡ Some cause
    pub keeps_priority : new.engine.priority ≡ old.engine.priority
    pub keeps_codec_config : new.engine.codec_config ≡ old.engine.codec_config
    pub keeps_strategy : new.engine.strategy ≡ old.engine.strategy

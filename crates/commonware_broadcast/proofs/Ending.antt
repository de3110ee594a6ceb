-- The causes of ends.
use Rattle.std.proofs.Common.{◌≡◌, Bool, true, false, List, None, Some, Result, Ok, Err, refl, sym, ap, ◌∙◌, subst}
use Rattle.futures.specs.Poll.{OnPending}
use Rattle.futures.specs.declared.task.Poll.{Poll}
use Rattle.futures.specs.declared.task.Poll.TheVariants.{Ready, Pending}
use Rattle.engine_io.specs.declared.input.EndCause.{EndCause}
use Rattle.engine_io.specs.declared.input.EndCause.TheVariants.{Stopped, PeersClosed, NetworkFailed, WaitFailed}
use Rattle.engine_io.specs.declared.input.Input.{Input}
use Rattle.engine_io.specs.declared.input.Input.TheVariants as input
use Rattle.engine_io.specs.declared.input.Turn.{Turn}
use Rattle.engine_io.specs.declared.input.Turn.TheVariants as turn
use Rattle.engine_io.specs.Causes.{HasCause}
use Rattle.commonware_broadcast.specs.declared.buffered.engine.first.First.{First}
use Rattle.commonware_broadcast.specs.declared.buffered.engine.first.First.TheVariants.{Stop, Sources}
use Rattle.commonware_broadcast.specs.EngineHistory.{end_told}
use Rattle.commonware_broadcast.specs.EngineState.{EngineState, Moment}
use Rattle.commonware_broadcast.specs.Interfaces.{Format, Interfaces}
use Rattle.commonware_broadcast.specs.FirstSource.{UnlessPeerSet}
use Rattle.commonware_broadcast.specs.Order.{UnlessPeers, IfNetwork}
use Rattle.commonware_broadcast.specs.Arrives.{end_in}
use Rattle.commonware_broadcast.specs.Polls.{KeepsOrder, IsPoll}
use Rattle.commonware_broadcast.specs.TakesSteps.{TakesPoll, Always}

module _ {asked before ended closed : Type 0} (stop : before → asked) (peers : closed → ended) where
  -- a cause of the node's own sources is a cause
  pub HasCause-map : (failed : Type 0) (cause : EndCause) → HasCause cause before closed ⊥ → HasCause cause asked ended failed
  HasCause-map failed Stopped h = stop h
  HasCause-map failed PeersClosed h = peers h
  HasCause-map failed NetworkFailed h = absurd h
  HasCause-map failed WaitFailed h = h

-- what can't be
pub no_true : {A : Type 0} → false ≡ true → A
no_true h = absurd (let no : false ≡ true = h in cc)

pub no_ready : {A X : Type 0} {x : X} → Pending ≡ Ready x → A
no_ready {A} {X} {x} h = absurd (let no : Pending ≡ Ready x = h in cc)

pub no_error : {A X E : Type 0} {x : X} {e : E} → Ready (Ok x) ≡ Ready (Err e) → A
no_error {A} {X} {E} {x} {e} h = absurd (let no : ◌≡◌ {A = Poll (Result X E)} (Ready (Ok x)) (Ready (Err e)) = h in cc)

pub no_stop : {A P J : Type 0} {heard : Bool} → ◌≡◌ {A = First P J} (Sources heard) Stop → A
no_stop {A} {P} {J} {heard} h = absurd (let no : ◌≡◌ {A = First P J} (Sources heard) Stop = h in cc)

-- what is the same
pub same_error : {X E : Type 0} {e f : E} → ◌≡◌ {A = Poll (Result X E)} (Ready (Err e)) (Ready (Err f)) → e ≡ f
same_error {X} {E} {e} {f} h = let same : ◌≡◌ {A = Poll (Result X E)} (Ready (Err e)) (Ready (Err f)) = h in cc

pub same_cause : {P D : Type 0} {cause other : EndCause} → ◌≡◌ {A = Poll (Turn P D)} (Ready (turn.Ended cause)) (Ready (turn.Ended other)) → cause ≡ other
same_cause {P} {D} {cause} {other} h = let same : ◌≡◌ {A = Poll (Turn P D)} (Ready (turn.Ended cause)) (Ready (turn.Ended other)) = h in cc

module _ {P D : Type 0} where
  -- a poll that tells no end is that of none
  pub not_ended : {holds : Type 0} (result : Poll (Turn P D)) (cause : EndCause) → end_in result ≡ None → result ≡ Ready (turn.Ended cause) → holds
  not_ended result cause none is = absurd (let no : Some cause ≡ None = sym (ap end_in is) ∙ none in cc)

  turn_of_end : (t : Turn P D) (cause : EndCause) → end_told t ≡ Some cause → t ≡ turn.Ended cause
  turn_of_end turn.Peers cause h = absurd (let no : None ≡ Some cause = h in cc)
  turn_of_end (turn.Broadcast d out) cause h = absurd (let no : None ≡ Some cause = h in cc)
  turn_of_end turn.Subscribe cause h = absurd (let no : None ≡ Some cause = h in cc)
  turn_of_end turn.Get cause h = absurd (let no : None ≡ Some cause = h in cc)
  turn_of_end (turn.Payload p d out) cause h = absurd (let no : None ≡ Some cause = h in cc)
  turn_of_end (turn.Invalid p error) cause h = absurd (let no : None ≡ Some cause = h in cc)
  turn_of_end (turn.Refused peer why) cause h = absurd (let no : None ≡ Some cause = h in cc)
  turn_of_end (turn.Ended why) cause h = let same : Some why ≡ Some cause = h in cc

  -- a poll that tells an end is that of this end
  pub as_ended : (result : Poll (Turn P D)) (cause : EndCause) → end_in result ≡ Some cause → result ≡ Ready (turn.Ended cause)
  as_ended (Ready t) cause h = ap Ready (turn_of_end t cause h)
  as_ended Pending cause h = absurd (let no : None ≡ Some cause = h in cc)

-- these stay
pub record Keeps {P M S O D J B Q C T : Type 0} (old new : EngineState P M S O D J B Q C T) : Type 0 where
  pub priority : new.priority ≡ old.priority
  pub codec_config : new.codec_config ≡ old.codec_config
  pub strategy : new.strategy ≡ old.strategy

module _ {P M D S G O J N V B Q C T : Type 0} {f : Format P M D C} {i : Interfaces P M D S G O J N V B Q}
    {old new : Moment P M S O D J B Q C T N V} {result : Poll (Turn P D)} where
  -- a poll of an engine that had not ended
  pub IsPoll-open : old.engine.end ≡ None → new.engine.end ≡ end_in result → Always f i old (λ s past before. TakesPoll s i past before old new result)
      → KeepsOrder i.provider i.receiver i.requests old new result → Keeps old.engine new.engine → IsPoll f i old new result
  IsPoll-open lives ends took attends keeps = record {
    took = took;
    attends = λ _. attends;
    same_after_end = λ cause ended. absurd (let no : None ≡ Some cause = sym lives ∙ ended in cc);
    tells_its_end = λ cause ended. as_ended result cause (sym ends ∙ ended);
    ends_as_told = λ cause is. ends ∙ ap end_in is;
    keeps_priority = keeps.priority;
    keeps_codec_config = keeps.codec_config;
    keeps_strategy = keeps.strategy;
  }

module _ {P D : Type 0} {holds : Type 0} where
  UnlessPeers-turn : (t : Turn P D) → holds → UnlessPeers (Ready t) holds
  UnlessPeers-turn turn.Peers h = tt
  UnlessPeers-turn (turn.Broadcast d out) h = h
  UnlessPeers-turn turn.Subscribe h = h
  UnlessPeers-turn turn.Get h = h
  UnlessPeers-turn (turn.Payload p d out) h = h
  UnlessPeers-turn (turn.Invalid p error) h = h
  UnlessPeers-turn (turn.Refused peer why) h = h
  UnlessPeers-turn (turn.Ended why) h = tt

  -- what holds of any poll holds of this one
  pub UnlessPeers-holds : (result : Poll (Turn P D)) → holds → UnlessPeers result holds
  UnlessPeers-holds (Ready t) h = UnlessPeers-turn t h
  UnlessPeers-holds Pending h = h

  pub IfNetwork-holds : (result : Poll (Turn P D)) → holds → IfNetwork result holds
  IfNetwork-holds (Ready t) h = λ is. h
  IfNetwork-holds Pending h = h

pub OnPending-map : {A : Type 0} {holds more : Type 0} (result : Poll A) → (holds → more) → OnPending result holds → OnPending result more
OnPending-map (Ready a) then h = tt
OnPending-map Pending then h = then h

-- the turn of an input is that of a peer set if the input is one
pub UnlessPeers-input : {P M S G D : Type 0} (it : Input P M S G D) (t : Turn P D) (holds : Type 0) → ((ps : List P) → it ≡ input.Peers ps → t ≡ turn.Peers) → UnlessPeerSet (Ready (Ok it)) holds → UnlessPeers (Ready t) holds
UnlessPeers-input (input.Peers ps) t holds of_peers h = subst (λ u. UnlessPeers (Ready u) holds) (sym (of_peers ps refl)) tt
UnlessPeers-input (input.Request r) t holds of_peers h = UnlessPeers-turn t h
UnlessPeers-input (input.Arrived p m) t holds of_peers h = UnlessPeers-turn t h
UnlessPeers-input (input.Invalid p e) t holds of_peers h = UnlessPeers-turn t h

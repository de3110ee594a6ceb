-- Believed.
-- What an engine did: a list of steps, the newest first, and what is read off it.
use Rattle.std.specs.Prelude.{◌≡◌, ℕ, ◌+◌, Bool, true, false, List, [], ◌∷◌, ◌++◌, Option, None, Some}
use Rattle.broadcast_core.specs.Carried.{Carried}
use Rattle.broadcast_core.specs.Setting.{Setting}
use Rattle.broadcast_core.specs.Happening.{Happening, History, peers, broadcast, arrival, subscribe, get, cleanup}
use Rattle.broadcast_core.specs.Lists.{outcome}
use Rattle.broadcast_core.specs.declared.event.Cause.{Cause}
use Rattle.broadcast_core.specs.declared.event.Cause.TheVariants.{Memory}
use Rattle.broadcast_mailbox.specs.declared.buffered.ingress.message.Message.{Message}
use Rattle.broadcast_mailbox.specs.declared.buffered.ingress.message.Message.TheVariants.{Broadcast, Subscribe, Get}
use Rattle.engine_io.specs.declared.input.EndCause.{EndCause}
use Rattle.engine_io.specs.declared.input.Input.{Input}
use Rattle.engine_io.specs.declared.input.Input.TheVariants.{Peers, Request, Arrived, Invalid}
use Rattle.engine_io.specs.declared.input.Turn.{Turn}
use Rattle.engine_io.specs.declared.input.Turn.TheVariants as turn
use Rattle.engine_io.specs.Replies.{Asker, Replies}

pub data Step (P M D S G : Type 0) : Type 0 where
  -- the waiters that the test names answered closed, and were dropped
  swept : (ℕ → Asker S → Bool) → Step P M D S G
  -- the input was applied, and these replies were handed out
  applied : Input P M S G D → Replies S G M D → Step P M D S G
  -- the input was refused, and changed nothing
  refused : Input P M S G D → Cause → Step P M D S G
  -- a payload of the peer was decoded
  decoded : P → Step P M D S G
  -- a payload of the peer is this message, and was refused for memory before it was counted
  uncounted : P → Carried M D → Step P M D S G
  -- the engine ended for this cause, and dropped all waiters
  ended : EndCause → Step P M D S G

module _ {P M D S G : Type 0} where
  -- a request, under its ticket
  abbrev pub asked : ℕ → Message P M S G D → Happening P M D (Asker S) (Asker G)
  asked ticket (Broadcast r c) = broadcast r c
  asked ticket (Subscribe d responder) =
      subscribe (record { ticket = ticket; responder = responder }) d
  asked ticket (Get d responder) = get (record { ticket = ticket; responder = responder }) d

  -- what happens at an input; a payload that is no message is no happening
  abbrev pub happening_of : Input P M S G D → History P M D (Asker S) (Asker G)
  happening_of (Peers ps) = peers ps ∷ []
  happening_of (Request request) = asked request.ticket request.message ∷ []
  happening_of (Arrived p c) = arrival p c ∷ []
  happening_of (Invalid p error) = []

  abbrev pub happenings_at : Step P M D S G → History P M D (Asker S) (Asker G)
  happenings_at (swept test) = cleanup test ∷ []
  happenings_at (applied input replies) = happening_of input
  happenings_at (ended cause) = cleanup (λ n w. true) ∷ []
  happenings_at _ = []

  -- the happenings of the steps, the newest first
  abbrev pub happenings : List (Step P M D S G) → History P M D (Asker S) (Asker G)
  happenings [] = []
  happenings (step ∷ steps) = happenings_at step ++ happenings steps

  abbrev pub inputs_at : Step P M D S G → List (Input P M S G D)
  inputs_at (applied input replies) = input ∷ []
  inputs_at (refused input cause) = input ∷ []
  inputs_at (uncounted p c) = Arrived p c ∷ []
  inputs_at _ = []

  -- the inputs of the steps, refused ones too, the oldest first
  abbrev pub inputs : List (Step P M D S G) → List (Input P M S G D)
  inputs [] = []
  inputs (step ∷ steps) = inputs steps ++ inputs_at step

  abbrev pub outcomes_at : Step P M D S G → List Bool
  outcomes_at (applied (Request request) replies) = false ∷ []
  outcomes_at (refused (Request request) cause) = true ∷ []
  outcomes_at _ = []

  -- whether each request was refused, the oldest first
  abbrev pub outcomes : List (Step P M D S G) → List Bool
  outcomes [] = []
  outcomes (step ∷ steps) = outcomes steps ++ outcomes_at step

  abbrev pub handed_out_at : Step P M D S G → Replies S G M D
  handed_out_at (applied input replies) = replies
  handed_out_at _ = []

  -- the replies that were handed out, the oldest first
  abbrev pub handed_out : List (Step P M D S G) → Replies S G M D
  handed_out [] = []
  handed_out (step ∷ steps) = handed_out steps ++ handed_out_at step

  abbrev pub read_from_at : Step P M D S G → List P
  read_from_at (decoded p) = p ∷ []
  read_from_at (uncounted p c) = p ∷ []
  read_from_at _ = []

  -- the senders of the payloads that are messages, counted or not, the oldest first
  abbrev pub read_from : List (Step P M D S G) → List P
  read_from [] = []
  read_from (step ∷ steps) = read_from steps ++ read_from_at step

  -- the peer of a payload
  abbrev pub peer_of : Input P M S G D → Option P
  peer_of (Arrived p c) = Some p
  peer_of (Invalid p error) = Some p
  peer_of _ = None

  -- why the newest step ended the engine, if it did
  abbrev pub end_of : List (Step P M D S G) → Option EndCause
  end_of (ended cause ∷ steps) = Some cause
  end_of _ = None

  abbrev pub sweeps_at : Step P M D S G → ℕ
  sweeps_at (swept test) = 1
  sweeps_at _ = 0

  -- how often the waiters that answered closed were dropped
  abbrev pub sweeps : List (Step P M D S G) → ℕ
  sweeps [] = 0
  sweeps (step ∷ steps) = sweeps steps + sweeps_at step

  -- the oldest step is a cleanup of the waiters that answered closed, and there is no other
  pub record IsSweptOnce (steps : List (Step P M D S G)) : Type 0 where
    pub test : ℕ → Asker S → Bool
    pub later : List (Step P M D S G)
    pub first : steps ≡ later ++ swept test ∷ []
    pub once : sweeps steps ≡ 1

module _ {P M D S G : Type 0} (s : Setting P M D) where
  abbrev pub turn_of_request : Message P M S G D → History P M D (Asker S) (Asker G) → Turn P D
  turn_of_request (Broadcast r c) past = turn.Broadcast c.digest (outcome s s.own c past)
  turn_of_request (Subscribe d responder) past = turn.Subscribe
  turn_of_request (Get d responder) past = turn.Get

  -- the turn of a message names its digest, that of a payload its peer
  abbrev pub turn_of_input : Input P M S G D → History P M D (Asker S) (Asker G) → Turn P D
  turn_of_input (Peers ps) past = turn.Peers
  turn_of_input (Request request) past = turn_of_request request.message past
  turn_of_input (Arrived p c) past = turn.Payload p c.digest (outcome s p c past)
  turn_of_input (Invalid p error) past = turn.Invalid p error

  abbrev pub turns_at : Step P M D S G → History P M D (Asker S) (Asker G) → List (Turn P D)
  turns_at (applied input replies) past = turn_of_input input past ∷ []
  turns_at (refused input cause) past = turn.Refused (peer_of input) cause ∷ []
  turns_at (uncounted p c) past = turn.Refused (Some p) Memory ∷ []
  turns_at (ended cause) past = turn.Ended cause ∷ []
  turns_at _ past = []

  -- the turns of the steps after a history, the oldest first
  abbrev pub turns : List (Step P M D S G) → History P M D (Asker S) (Asker G) → List (Turn P D)
  turns [] past = []
  turns (step ∷ steps) past = turns steps past ++ turns_at step (happenings steps ++ past)

-- why the engine ended, if the turn tells that
abbrev pub end_told : {P D : Type 0} → Turn P D → Option EndCause
end_told (turn.Ended cause) = Some cause
end_told _ = None

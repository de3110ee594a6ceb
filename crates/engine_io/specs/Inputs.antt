-- Believed.
-- What the inputs of an engine are.
use Rattle.std.specs.Prelude.{List, [], ◌∷◌}
use Rattle.broadcast_mailbox.specs.declared.buffered.ingress.message.Message.{Message}
use Rattle.broadcast_mailbox.specs.declared.buffered.ingress.message.Request.{Request}
use Rattle.engine_io.specs.declared.input.Input.{Input}
use Rattle.engine_io.specs.declared.input.Input.TheVariants as input

module _ {P M D S G : Type 0} where
  -- the peer sets among inputs
  abbrev pub sets_in : List (Input P M S G D) → List (List P)
  sets_in [] = []
  sets_in (input.Peers ps ∷ is) = ps ∷ sets_in is
  sets_in (_ ∷ is) = sets_in is

  -- the requests
  abbrev pub requests_in : List (Input P M S G D) → List (Request (Message P M S G D))
  requests_in [] = []
  requests_in (input.Request request ∷ is) = request ∷ requests_in is
  requests_in (_ ∷ is) = requests_in is

  -- the inputs that payloads are
  abbrev pub payloads_in : List (Input P M S G D) → List (Input P M S G D)
  payloads_in [] = []
  payloads_in (input.Arrived p c ∷ is) = input.Arrived p c ∷ payloads_in is
  payloads_in (input.Invalid p error ∷ is) = input.Invalid p error ∷ payloads_in is
  payloads_in (_ ∷ is) = payloads_in is

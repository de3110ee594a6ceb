-- Believed.
-- What an engine takes before it looks at other sources.
use Rattle.std.specs.Prelude.{◌≡◌, Bool, true, false, Some, ⊤}
use Rattle.futures.specs.declared.task.Poll.{Poll}
use Rattle.futures.specs.declared.task.Poll.TheVariants.{Ready, Pending}
use Rattle.engine_io.specs.declared.input.Turn.{Turn}
use Rattle.engine_io.specs.declared.input.Turn.TheVariants as turn

module _ {P D : Type 0} where
  -- unless the turn is that of a peer set or of an end, this holds
  abbrev pub UnlessPeers : Poll (Turn P D) → Type 0 → Type 0
  UnlessPeers (Ready turn.Peers) holds = ⊤
  UnlessPeers (Ready (turn.Ended cause)) holds = ⊤
  UnlessPeers _ holds = holds

  -- whether the turn is that of a payload
  abbrev pub of_network : Turn P D → Bool
  of_network (turn.Payload p d out) = true
  of_network (turn.Invalid p error) = true
  of_network (turn.Refused (Some p) cause) = true
  of_network _ = false

  -- if the turn is that of a payload, or there is none, this holds
  abbrev pub IfNetwork : Poll (Turn P D) → Type 0 → Type 0
  IfNetwork (Ready turn) holds = of_network turn ≡ true → holds
  IfNetwork Pending holds = holds

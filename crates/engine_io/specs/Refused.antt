-- Believed.
-- Whether an input was refused, and what is told of that.
use Rattle.std.specs.Prelude.{ℕ, ◌+◌, Bool, true, false, List, [], ◌∷◌}
use Rattle.broadcast_mailbox.specs.Account.{one_if}
use Rattle.engine_io.specs.declared.input.Turn.{Turn}
use Rattle.engine_io.specs.declared.input.Turn.TheVariants as turn
use Rattle.engine_io.specs.declared.input.Input.{Input}
use Rattle.engine_io.specs.declared.input.Input.TheVariants as input

abbrev pub refuses : {P D : Type 0} → Turn P D → Bool
refuses (turn.Refused peer cause) = true
refuses _ = false

-- whether the input is a request
abbrev pub is_request : {P M S G D : Type 0} → Input P M S G D → Bool
is_request (input.Request request) = true
is_request _ = false

-- how many of these outcomes are refusals
abbrev pub refusals : List Bool → ℕ
refusals [] = 0
refusals (refused ∷ outcomes) = one_if refused + refusals outcomes

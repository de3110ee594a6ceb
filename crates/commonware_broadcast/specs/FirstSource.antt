-- Internal.
-- What is taken before other sources are looked at.
use Rattle.std.specs.Prelude.{Result, Ok, Err, ⊤}
use Rattle.futures.specs.declared.task.Poll.{Poll}
use Rattle.futures.specs.declared.task.Poll.TheVariants.{Ready, Pending}
use Rattle.engine_io.specs.declared.input.EndCause.{EndCause}
use Rattle.engine_io.specs.Causes.{HasCause}
use Rattle.engine_io.specs.declared.input.Input.{Input}
use Rattle.engine_io.specs.declared.input.Input.TheVariants as input

-- unless the input is a peer set, or there is an end, this holds
abbrev pub UnlessPeerSet : {P M S G D : Type 0} → Poll (Result (Input P M S G D) EndCause)
    → Type 0 → Type 0
UnlessPeerSet (Ready (Ok (input.Peers ps))) holds = ⊤
UnlessPeerSet (Ready (Err cause)) holds = ⊤
UnlessPeerSet _ holds = holds

-- if the poll tells an end, its cause is there
abbrev pub EndsBy : {A : Type 0} → Poll (Result A EndCause) → (asked ended failed : Type 0) → Type 0
EndsBy (Ready (Err cause)) asked ended failed = HasCause cause asked ended failed
EndsBy (Ready (Ok value)) asked ended failed = ⊤
EndsBy Pending asked ended failed = ⊤

-- Believed.
-- What a poll of an inbox takes.
use Rattle.std.specs.Prelude.{Option, None, Some}
use Rattle.futures.specs.declared.task.Poll.{Poll}
use Rattle.futures.specs.declared.task.Poll.TheVariants.{Ready, Pending}

-- the value of a poll that is ready
abbrev pub ready : {T : Type 0} → Poll T → Option T
ready (Ready x) = Some x
ready Pending = None

-- Believed.
-- Why an engine ends.
use Rattle.engine_io.specs.declared.input.EndCause.{EndCause}
use Rattle.engine_io.specs.declared.input.EndCause.TheVariants.{Stopped, PeersClosed, NetworkFailed, WaitFailed}

-- the cause may be there: a stop that was asked for, the end of the peer sets, or a failure of the
-- network, as far as the source tells; a poll never ends an engine because its thread could not wait
abbrev pub HasCause : EndCause → (asked ended failed : Type 0) → Type 0
HasCause Stopped asked ended failed = asked
HasCause PeersClosed asked ended failed = ended
HasCause NetworkFailed asked ended failed = failed
HasCause WaitFailed asked ended failed = ⊥

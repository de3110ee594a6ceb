-- Internal.
-- What a poll of an engine does first.
use Rattle.std.specs.Prelude.{◌≡◌, Bool, true, false, Option, Some, None}
use Rattle.commonware_broadcast.specs.declared.buffered.engine.first.First.{First}
use Rattle.commonware_broadcast.specs.declared.buffered.engine.first.First.TheVariants.{Stop, Job, Sources}

-- the job that stood in the slot before is the one to poll, and is no longer there; for a stop it
-- stays; the sources are looked at only if there was none
abbrev pub Empties : {P J : Type 0} → First P J → (old new : Option (P × J)) → Type 0
Empties Stop old new = new ≡ old
Empties (Job peer job) old new = (old ≡ Some (peer, job)) × (new ≡ None)
Empties (Sources heard) old new = (old ≡ None) × (new ≡ None)

-- whether a poll that does this first has registered for a stop
abbrev pub hears_stop : {P J : Type 0} → First P J → Bool
hears_stop Stop = false
hears_stop (Job peer job) = true
hears_stop (Sources heard) = heard

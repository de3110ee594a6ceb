use Rattle.std.proofs.Common.{◌≡◌, take}
use Rattle.broadcast_core.specs.Log.{is_refused}
use Rattle.broadcast_world.specs.Relayed.{places_from}
use Rattle.broadcast_world.proofs.relay.refused_places.Given as goal

abbrev pub invariant-loop-place : goal.invariant-loop-place
invariant-loop-place g l = l.places.items ≡ places_from is_refused 0 (take l.place l.answers)

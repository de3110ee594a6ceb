use Rattle.std.proofs.Common.{◌≡◌, drop}
use Rattle.std.specs.Map.{lookup}
use Rattle.entries.specs.Overlaid.{same_number}
use Rattle.entries.proofs.item.place_among.Given as goal

abbrev pub invariant-loop-owner : goal.invariant-loop-owner
invariant-loop-owner l = lookup (same_number l.list) l.places ≡ lookup (same_number l.list) (drop l.owner-index l.places)

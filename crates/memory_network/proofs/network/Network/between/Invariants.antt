use Rattle.std.proofs.Common.{◌≡◌, true, take}
use Rattle.std.specs.List.{AllZip}
use Rattle.std.specs.Ordering.{eq_by_cmp}
use Rattle.memory_network.proofs.network.Network.between.Given as goal

abbrev pub invariant-loop-key : goal.invariant-loop-key
invariant-loop-key g l = AllZip (λ x y. eq_by_cmp g.P.Ord.cmp x y ≡ true) (take l.key-index l.keys) l.copies.items

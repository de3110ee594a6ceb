use Rattle.std.proofs.Common.{map, take}
use Rattle.std.specs.List.{concat}
use Rattle.sha2.specs.Hashers.{Holds256}
use Rattle.broadcast_core.proofs.digest.Digest.sha256_of.Given as goal

-- the hasher holds the pieces so far
abbrev pub invariant-loop-piece : goal.invariant-loop-piece
invariant-loop-piece l = Holds256 l.hasher (concat (map (λ piece. piece.now) (take l.piece-index l.pieces)))

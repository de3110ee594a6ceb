use Rattle.std.proofs.Common.{◌≡◌, ◌*◌, length}
use Rattle.programs.proofs.text.byte_list.decode.Given as goal

abbrev pub invariant-loop-piece : goal.invariant-loop-piece
invariant-loop-piece l = length l.digits ≡ 2 * length l.bytes

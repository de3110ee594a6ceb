use Rattle.std.proofs.Common.{length}
use Rattle.programs.proofs.text.byte_list.write_byte_list.Given as goal

abbrev pub decreases-loop-rest : goal.decreases-loop-rest
decreases-loop-rest g l = length l.rest

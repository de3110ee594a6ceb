use Rattle.std.proofs.Common.{◌≡◌, length}
use Rattle.std.specs.List.{All}
use Rattle.engine_io.proofs.reply.copies.Given as goal

abbrev pub invariant-loop-i : goal.invariant-loop-i
invariant-loop-i g l = record {
  len : length l.copies.items ≡ l._i;
  equal : All (λ copy. copy ≡ l.fn.message) l.copies.items;
}

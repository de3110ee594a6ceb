use Rattle.std.proofs.Common.{◌≡◌, ◌++◌, length}
use Rattle.std.specs.List.{All}
use Rattle.std.specs.Vec.Iter.{into_iter_items, into_iter_len}
use Rattle.broadcast_core.specs.Carried.{Carried}
use Rattle.engine_io.proofs.Handing.{AllHanded}
use Rattle.engine_io.proofs.reply.respond_waiters.Given as goal

abbrev pub invariant-loop-waiter : goal.invariant-loop-waiter
invariant-loop-waiter g l = record {
  rest : l.yielded ++ into_iter_items l.waiter-iterator ≡ into_iter_items l.initial.waiter-iterator;
  left : into_iter_len l.waiter-iterator ≡ length (into_iter_items l.waiter-iterator);
  enough : length l.copies.items ≡ length (into_iter_items l.waiter-iterator);
  equal : (message : Carried g.row.M.Denot g.row.M-Digest.Denot) → All (λ copy. copy ≡ message) l.fn.copies.items → All (λ copy. copy ≡ message) l.copies.items;
  handed : (message : Carried g.row.M.Denot g.row.M-Digest.Denot) → All (λ copy. copy ≡ message) l.fn.copies.items
      → AllHanded {P = g.row.P.Denot} {M = g.row.M.Denot} {D = g.row.M-Digest.Denot} {S = g.row.S.Denot} {G = g.row.G.Denot} {O = g.row.O.Denot} g.O.Outlet.told message l.yielded l.fn.outlet l.fn.metrics l.outlet l.metrics;
}

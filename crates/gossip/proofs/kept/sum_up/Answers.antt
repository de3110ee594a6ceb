use Rattle.std.proofs.Common.{◌≡◌, length, arith, sym}
use Rattle.std.specs.VecDeque.{deque_len}
use Rattle.std.proofs.lemmas.List.{length-take-le}
use Rattle.gossip.proofs.Summing.{sums_on}
use Rattle.gossip.proofs.kept.sum_up.Goals as goal

pub loop-i-init : goal.loop-i-init
loop-i-init c =
    let n : deque_len c.args.list.now ≡ length c.args.list.now.items = c.args.list.now.ok.0 in
    let count = sym (length-take-le c.args.place c.args.list.now.items (rw (← n) c.requires.place)) in
    record {
      so_far = rw (c.truncate.ensures.items, c.requires.before, c.sum_behind-sum.ensures _ c.requires.before count)
          (sums_on c.args.base c.args.place c.args.list.now.items);
      few = omega (arith, c.truncate.ensures.len);
      room = omega (arith, c.truncate.ensures.capacity, c.requires.room);
    }

use Rattle.std.proofs.Common.{◌≡◌, ◌≤◌, ◌∙◌, length, ap, arith, refl}
use Rattle.std.specs.VecDeque.{deque_len}
use Rattle.gossip.proofs.Finding.{insert_placed}
use Rattle.gossip.proofs.Summing.{length_sums, take_sums, take_insert}
use Rattle.gossip.proofs.kept.Kept.insert.Goals as goal

pub sum_up-requires-clause-room : goal.sum_up-requires-clause-room
sum_up-requires-clause-room c =
    let list = c.args.self.now.list in
    let n : deque_len list ≡ length list.items = list.ok.0 in
    let k : deque_len c.args.self.now.sums ≡ length c.args.self.now.sums.items = c.args.self.now.sums.ok.0 in
    let same = ap length c.requires.sums ∙ length_sums c.args.self.now.base list.items in
    omega (arith, n, k, same, c.in_ok-reserve.ensures.ok, c.in_ok-reserve.ensures.len, c.in_ok-insert.ensures.len)

pub sum_up-requires-clause-before : goal.sum_up-requires-clause-before
sum_up-requires-clause-before c =
    let list = c.args.self.now.list in
    let n : deque_len list ≡ length list.items = list.ok.0 in
    let bound : c.up_to-place.result ≤ length list.items = rw (← n) c.up_to-place.ensures.bound in
    rw (
      c.in_ok-reserve.ensures.items,
      c.requires.sums,
      take_sums c.args.self.now.base c.up_to-place.result list.items,
      c.in_ok-insert.ensures.items,
      take_insert c.up_to-place.result c.args.message list.items bound,
    ) refl

pub returns-clause-list : goal.returns-clause-list
returns-clause-list c =
    rw (c.in_ok-insert.ensures.items, c.up_to-place.ensures.count)
    (insert_placed c.args.self.now.floor c.args.message c.args.self.now.list.items c.requires.rises c.requires.new)

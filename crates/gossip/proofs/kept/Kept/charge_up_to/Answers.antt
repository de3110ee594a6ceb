use Rattle.std.proofs.Common.{◌≡◌, ℕ, ◌≤◌, ◌<◌, ◌^◌, ◌∙◌, [], length, take, ap, sym, refl, arith}
use Rattle.std.specs.VecDeque.{deque_len}
use Rattle.std.proofs.lemmas.List.{length-take-le}
use Rattle.gossip.specs.Held.{total}
use Rattle.gossip.proofs.Summing.{take_sums, total_take, between, front_is}
use Rattle.gossip.proofs.kept.Kept.charge_up_to.Goals as goal

pub returns : goal.returns
returns c =
    let list = c.args.self.now.list in
    let count = c.up_to-count.result in
    let n : deque_len list ≡ length list.items = list.ok.0 in
    let bound : count ≤ length list.items = rw (← n) c.up_to-count.ensures.bound in
    let sum = c.sum_behind.ensures (take count list.items) (rw (c.requires.sums) (take_sums c.args.self.now.base count list.items)) (sym (length-take-le count list.items bound)) in
    let part = total_take count list.items in
    let few : total (take count list.items) < 2 ^ 64 = omega (arith, part, c.requires.within) in
    let none : c.sum_behind-before.result ≡ c.args.self.now.base = c.sum_behind-before.ensures [] refl refl in
    let base : c.args.self.now.base < 2 ^ 64 = rw (← none) (omega arith) in
    rw (sum, none) (between c.args.self.now.base (take count list.items) base few
    ∙ ap (λ (k : ℕ). total (take k list.items)) c.up_to-count.ensures.count ∙ front_is c.args.self.now.floor c.args.stamp list.items c.requires.rises)

use Rattle.std.proofs.Common.{◌≡◌, ◌≤◌, ◌<◌, ◌+◌, ◌∷◌, ◌∙◌, length, drop, ap, sym, arith, refl}
use Rattle.std.specs.VecDeque.{deque_len}
use Rattle.std.proofs.lemmas.List.{drop_more}
use Rattle.gossip.specs.declared.message.Message.{Message}
use Rattle.gossip.specs.Newest.{charge}
use Rattle.gossip.specs.Held.{total}
use Rattle.gossip.specs.Placing.{up_to}
use Rattle.gossip.proofs.Shrinking.{none_leaves, it_leaves, leaves_step}
use Rattle.gossip.proofs.Summing.{total_drop}
use Rattle.gossip.proofs.kept.Kept.leaving.Goals as goal

pub returns-then-total-from : goal.returns-then-total-from
returns-then-total-from c =
    let rest = drop c.loop-i.i c.args.self.now.list.items in
    let fit : charge c.args.message + total rest ≤ c.args.budget = omega (arith, c.loop-i.invariant.total, c.if-total-from.true, c.from.ensures) in
    let counted = rw (none_leaves c.args.budget c.args.message rest fit) at c.loop-i.invariant.counted in
    omega (arith, counted)

pub loop-i-preserved : goal.loop-i-preserved
loop-i-preserved c =
    let list = c.args.self.now.list in
    let first = c.in-Some.first.now in
    let i = c.loop-i.i in
    let n : deque_len list ≡ length list.items = list.ok.0 in
    let lt : i < length list.items = rw (← n) (c.in-Some.ensures.variant.0 refl) in
    let e : drop i list.items ≡ first ∷ drop (i + 1) list.items =
    drop_more list.items i first lt ∙ ap (λ (x : Message). x ∷ drop (i + 1) list.items) (sym c.in-Some.ensures.lookup) in
    let sum = rw e at c.loop-i.invariant.total in
    let over : c.args.budget < charge c.args.message + total (first ∷ drop (i + 1) list.items) = omega (arith, sum, c.if-total-from.false, c.from.ensures) in
    let s = leaves_step c.args.budget i c.up_to-place.result _ c.args.message first (drop (i + 1) list.items) over (rw e at c.loop-i.invariant.counted)
    (rw e at c.loop-i.invariant.place) c.loop-i-test.true (rw e at c.loop-i.invariant.new) in
    record { total = omega (arith, sum, c.charge-total.ensures); counted = s.0; place = s.1; new = s.2 }

pub returns-then-total-from-2 : goal.returns-then-total-from-2
returns-then-total-from-2 c =
    let rest = drop c.loop-i.i c.args.self.now.list.items in
    let fit : charge c.args.message + total rest ≤ c.args.budget = omega (arith, c.loop-i.invariant.total, c.if-total-from-2.true, c.from-2.ensures) in
    let counted = rw (none_leaves c.args.budget c.args.message rest fit) at c.loop-i.invariant.counted in
    omega (arith, counted, c.loop-i.invariant.place, c.loop-i-test.false)

pub returns-else-total-from-2 : goal.returns-else-total-from-2
returns-else-total-from-2 c =
    let rest = drop c.loop-i.i c.args.self.now.list.items in
    let over : c.args.budget < charge c.args.message + total rest = omega (arith, c.loop-i.invariant.total, c.if-total-from-2.false, c.from-2.ensures) in
    let less = total_drop c.loop-i.i c.args.self.now.list.items in
    let none : up_to c.args.message.stamp rest ≡ 0 = omega (arith, c.loop-i.invariant.place, c.loop-i-test.false) in
    let counted = rw (it_leaves c.args.budget c.args.message rest none (omega (arith, less, c.requires.within)) over) at c.loop-i.invariant.counted in
    omega (arith, counted, c.loop-i.invariant.place, c.loop-i-test.false)

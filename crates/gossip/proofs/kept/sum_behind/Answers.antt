use Rattle.std.proofs.Common.{◌≡◌, ◌≤◌, ◌<◌, ◌-◌, ◌∙◌, sym, ap, length, arith}
use Rattle.std.specs.VecDeque.{deque_len}
use Rattle.std.proofs.lemmas.List.{length-take}
use Rattle.gossip.proofs.Summing.{none_behind, some_behind, length_sums}
use Rattle.gossip.proofs.kept.sum_behind.Goals as goal

pub returns-then-count-eq0 : goal.returns-then-count-eq0
returns-then-count-eq0 c = λ list e n. none_behind c.args.base list (sym c.if-count-eq0.true ∙ n)

pub returns-in-Some : goal.returns-in-Some
returns-in-Some c = λ list e n.
    let pos : 0 < c.args.count = omega arith in
    c.in-Some.ensures.lookup ∙ some_behind c.args.base c.args.count c.in-Some.sum.now c.args.sums.now.items list e n pos

pub returns-in-None : goal.returns-in-None
returns-in-None c = λ list e n.
    let all = ap length e ∙ length_sums c.args.base list in
    let few = length-take c.args.count c.args.sums.now.items in
    let pos : 0 < c.args.count = omega arith in
    let k : deque_len c.args.sums.now ≡ length c.args.sums.now.items = c.args.sums.now.ok.0 in
    let past : deque_len c.args.sums.now ≤ c.args.count - 1 = grind arith in
    absurd (let no : ⊥ = omega (arith, all, few, n, pos, k, past) in no)

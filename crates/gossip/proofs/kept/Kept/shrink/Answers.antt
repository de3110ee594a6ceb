use Rattle.std.proofs.Common.{◌≤◌, ◌∙◌, sym, arith}
use Rattle.std.proofs.lemmas.List.{append-nil}
use Rattle.gossip.specs.Held.{total}
use Rattle.gossip.proofs.Shrinking.{floor_within, staying_within, leaving_within}
use Rattle.gossip.proofs.kept.Kept.shrink.Goals as goal

fits : (c : goal.After-loop-self) → total c.loop-self.self.list.items ≤ c.args.budget
fits c = (let b = c.loop-self.invariant.total in let t = c.loop-self-test.false in let f = c.from.ensures in omega (arith, b, t, f))

pub returns-clause-floor : goal.returns-clause-floor
returns-clause-floor c = sym (floor_within c.args.budget c.loop-self.self.floor c.loop-self.self.list.items (fits c)) ∙ c.loop-self.invariant.floor

pub returns-clause-list : goal.returns-clause-list
returns-clause-list c = sym (staying_within c.args.budget c.loop-self.self.list.items (fits c)) ∙ c.loop-self.invariant.list

pub returns-clause-left : goal.returns-clause-left
returns-clause-left c =
    let none = leaving_within c.args.budget c.loop-self.self.list.items (fits c) in
    let left = rw none at c.loop-self.invariant.left in
    sym (append-nil c.loop-self.left.items) ∙ left

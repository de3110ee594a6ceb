use Rattle.std.proofs.Common.{◌+◌, refl, arith}
use Rattle.entries.specs.Places.{get}
use Rattle.entries.proofs.Lists.{with_bytes, fronts, trims, has_nodes, Cuts-along, on_err}
use Rattle.entries.proofs.list.LinkedList.push.Goals as goal

pub invariant_of-self : goal.invariant_of-self
invariant_of-self c = rw (c.in_err-push_front.ensures.err.0, c.in_err-push_front.ensures.err.1) c.self.invariant

pub returns-in_err-push_front-clause-err : goal.returns-in_err-push_front-clause-err
returns-in_err-push_front-clause-err c = rw (← c.self.view_is, c.in_err-push_front.ensures.err.0, c.in_err-push_front.ensures.err.1) (on_err _ refl)

pub trim-requires-clause-nodes : goal.trim-requires-clause-nodes
trim-requires-clause-nodes c =
    let n = c.push_front.new.chain.bytes + c.from.result in
    let front = fronts (get c.self.inside.places) (get c.push_front.new.places) c.self.inside.chain c.push_front.new.chain n _ c.args.digest c.self.invariant c.in_ok-push_front.ensures.ok (omega (arith, c.from.ensures, c.push_front.ensures.bytes)) in
    has_nodes (get c.push_front.new.places) (with_bytes n c.push_front.new.chain) front.0

pub trim-requires-clause-sum : goal.trim-requires-clause-sum
trim-requires-clause-sum c =
    let n = c.push_front.new.chain.bytes + c.from.result in
    (fronts (get c.self.inside.places) (get c.push_front.new.places) c.self.inside.chain c.push_front.new.chain n _ c.args.digest c.self.invariant c.in_ok-push_front.ensures.ok (omega (arith, c.from.ensures, c.push_front.ensures.bytes))).0.sum

pub invariant_of-self-2 : goal.invariant_of-self-2
invariant_of-self-2 c =
    let n = c.push_front.new.chain.bytes + c.from.result in
    let front = fronts (get c.self.inside.places) (get c.push_front.new.places) c.self.inside.chain c.push_front.new.chain n _ c.args.digest c.self.invariant c.in_ok-push_front.ensures.ok (omega (arith, c.from.ensures, c.push_front.ensures.bytes)) in
    (trims (get c.push_front.new.places) (get c.trim.new.places) (with_bytes n c.push_front.new.chain) c.trim.new.chain c.args.size c.trim.result front.0 c.trim.ensures).0

pub returns-clause-ok : goal.returns-clause-ok
returns-clause-ok c =
    let n = c.push_front.new.chain.bytes + c.from.result in
    let front = fronts (get c.self.inside.places) (get c.push_front.new.places) c.self.inside.chain c.push_front.new.chain n _ c.args.digest c.self.invariant c.in_ok-push_front.ensures.ok (omega (arith, c.from.ensures, c.push_front.ensures.bytes)) in
    let cut = (trims (get c.push_front.new.places) (get c.trim.new.places) (with_bytes n c.push_front.new.chain) c.trim.new.chain c.args.size c.trim.result front.0 c.trim.ensures).1 in
    rw (← c.self.view_is, ← c.in_ok-push_front.ensures.place) (Cuts-along c.args.size c.trim.result _ _ _ front.1 cut)

use Rattle.std.proofs.Common.{◌≡◌, ◌∙◌, sym, arith, false}
use Rattle.gossip.specs.Held.{Held, is_known}
use Rattle.gossip.proofs.Shrinking.{total_inserted}
use Rattle.gossip.proofs.Arriving.{keeps_held}
use Rattle.gossip.proofs.log.Log.accept.Goals as goal

pub shrink-requires-clause-total : goal.shrink-requires-clause-total
shrink-requires-clause-total c =
    let more = total_inserted c.args.message c.self.inside.kept.list.items in
    let old = c.self.invariant.0 in
    let new = c.in_ok-insert.ensures.total in
    rw (c.in_ok-insert.ensures.list, new) (omega (arith, more, old))

pub invariant_of-self-2 : goal.invariant_of-self-2
invariant_of-self-2 c =
    let h : Held = record { budget = c.self.inside.budget; floor = c.self.inside.kept.floor; list = c.self.inside.kept.list.items } in
    let new : is_known c.args.message.stamp h ≡ false = rw (← c.self.view_is) at (sym c.has.ensures ∙ c.if-has.false) in
    let held = keeps_held h c.args.message c.if-message.false new c.self.invariant.2 in
    (c.shrink.ensures.total, c.shrink.ensures.sums, rw (c.shrink.ensures.floor, c.shrink.ensures.list, c.in_ok-insert.ensures.list, c.in_ok-insert.ensures.floor) held)

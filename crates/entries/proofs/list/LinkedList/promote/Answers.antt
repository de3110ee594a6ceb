use Rattle.std.proofs.Common.{◌+◌, ◌-◌, sym, arith}
use Rattle.entries.specs.Places.{get}
use Rattle.entries.proofs.Lists.{own_on, place-charge, renews, not_moved}
use Rattle.entries.proofs.list.LinkedList.promote.Goals as goal

pub promote-requires : goal.promote-requires
promote-requires c = own_on (get c.self.inside.places) c.self.inside.chain c.args.place c.in-Some.entry.now c.self.invariant (sym c.in-Some.ensures)

pub overflow_sub-self : goal.overflow_sub-self
overflow_sub-self c =
    omega (arith, place-charge (get c.self.inside.places) c.self.inside.chain c.args.place c.in-Some.entry.now c.self.invariant (sym c.in-Some.ensures), c.from-was.ensures, c.promote.ensures.bytes)

pub invariant_of-self : goal.invariant_of-self
invariant_of-self c =
    (renews (get c.self.inside.places) c.self.inside.chain c.args.place c.in-Some.entry.now c.self.invariant (sym c.in-Some.ensures) (get c.promote.new.places) c.promote.new.chain (c.promote.new.chain.bytes - c.from-was.result + c.from.result) c.args.digest c.promote.ensures.promoted
    (omega (arith, c.from-was.ensures, c.from.ensures, c.promote.ensures.bytes))).0

pub returns-in-Some-clause-moved : goal.returns-in-Some-clause-moved
returns-in-Some-clause-moved c =
    rw (← c.self.view_is) (renews (get c.self.inside.places) c.self.inside.chain c.args.place c.in-Some.entry.now c.self.invariant (sym c.in-Some.ensures) (get c.promote.new.places) c.promote.new.chain
    (c.promote.new.chain.bytes - c.from-was.result + c.from.result) c.args.digest c.promote.ensures.promoted
    (omega (arith, c.from-was.ensures, c.from.ensures, c.promote.ensures.bytes))).1

pub returns-in-None-clause-moved : goal.returns-in-None-clause-moved
returns-in-None-clause-moved c =
    rw (← c.self.view_is) (sym (not_moved (get c.self.inside.places) c.self.inside.chain c.args.place c.args.digest _ (sym c.in-None.ensures) c.self.invariant.chain))

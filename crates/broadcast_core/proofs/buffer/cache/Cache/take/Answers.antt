use Rattle.std.proofs.Common.{rules, OnOk, ◌≡◌, true, false, refl, sym, ap, subst, ◌∙◌}
use Rattle.std.specs.Prelude.{is_some, not}
use Rattle.std.specs.Map.{lookup}
use Rattle.std.specs.Cmp.{eq_by_cmp_equiv}
use Rattle.std.specs.Ordering.{eq_by_cmp}
use Rattle.entries.specs.Overlaid.{same_number}
use Rattle.broadcast_core.specs.Content.{same_by, at_charge, items_at}
use Rattle.broadcast_core.specs.Fronted.{fronted}
use Rattle.broadcast_core.specs.Numbered.{named_of}
use Rattle.broadcast_core.specs.Stored.{Stores}
use Rattle.broadcast_core.proofs.Parting.{Sheds-none}
use Rattle.broadcast_core.proofs.Entering.{not-entered}
use Rattle.broadcast_core.proofs.Taking.{IsCached-took, on_err}
use Rattle.broadcast_core.proofs.Numbering.{named_there, named_nowhere, some_named, named_none, front-nothing, IsNumbered-taken, Stores-taken, Stores-nothing}
use Rattle.broadcast_core.proofs.buffer.cache.Cache.take.Goals as goal

pub returns-in_default-clause-lawful : goal.returns-in_default-clause-lawful
returns-in_default-clause-lawful g c = rw (← c.self.view_is) c.self.invariant.1

pub returns-in-Some-get-clause-lawful : goal.returns-in-Some-get-clause-lawful
returns-in-Some-get-clause-lawful g c = rw (← c.self.view_is) c.self.invariant.1

pub returns-in-None-clause-lawful : goal.returns-in-None-clause-lawful
returns-in-None-clause-lawful g c = rw (← c.self.view_is) c.self.invariant.1

pub returns-in-None-2-clause-lawful : goal.returns-in-None-2-clause-lawful
returns-in-None-2-clause-lawful g c = rw (← c.self.view_is) c.self.invariant.1

pub returns-in-None-3-clause-lawful : goal.returns-in-None-3-clause-lawful
returns-in-None-3-clause-lawful g c = rw (← c.self.view_is) c.self.invariant.1

pub returns-in_default-clause-outcome : goal.returns-in_default-clause-outcome
returns-in_default-clause-outcome g c = rw (← c.self.view_is, c.afforded.ensures.charge c.args.message.now.digest, c.in_default.is) (ap (λ l. l.outcome) c.unchanged.ensures ∙ c.without_charge.ensures true)

pub returns-in_default-clause-entered : goal.returns-in_default-clause-entered
returns-in_default-clause-entered g c = not-entered c.unchanged.result.entered (is_some (lookup (eq_by_cmp g.M.Digest.Ord.cmp c.args.message.now.digest) c.args.self.now.shelf.stored.messages)) (ap (λ l. l.entered) c.unchanged.ensures)

pub returns-in-Some-get-clause-entered : goal.returns-in-Some-get-clause-entered
returns-in-Some-get-clause-entered g c = rw (← c.self.view_is) c.take.ensures.entered

pub take-requires-clause-there : goal.take-requires-clause-there
take-requires-clause-there g c κs within = c.self.invariant.0.there c.args.peer.now c.in-Some-get.list.now (sym c.in-Some-get.ensures.value)

pub take-requires-clause-size : goal.take-requires-clause-size
take-requires-clause-size g c κs within = rw (named_there (eq_by_cmp g.P.Ord.cmp) c.self.inside.numbers c.self.inside.shelf.stored.lists c.args.peer.now c.in-Some-get.list.now (sym c.in-Some-get.ensures.value)) at (c.self.invariant.1.bounded c.args.peer.now)

pub take-requires-clause-bytes : goal.take-requires-clause-bytes
take-requires-clause-bytes g c κs within = rw (named_there (eq_by_cmp g.P.Ord.cmp) c.self.inside.numbers c.self.inside.shelf.stored.lists c.args.peer.now c.in-Some-get.list.now (sym c.in-Some-get.ensures.value)) at (c.self.invariant.1.affordable c.args.peer.now)

pub take-requires-clause-affordable : goal.take-requires-clause-affordable
take-requires-clause-affordable g c κs within = rw c.in-Some.is at c.afforded.ensures.affordable

pub invariant_of-self : goal.invariant_of-self
invariant_of-self g c =
    let laws = eq_by_cmp_equiv g.met.P.Ord.total in
    let digest_laws = eq_by_cmp_equiv (g.met.M.Digest.Ord g.world.𝓛 g.world.𝓜 g.world.𝓡 (λ s x. x, λ x. x, λ x. x, λ x. x)).total in
    let same = same_by g.P.Ord.cmp g.M.Digest.Ord.cmp in
    let numbers = c.self.inside.numbers in
    let shelf = c.self.inside.shelf in
    let peer = c.args.peer.now in
    let found = sym c.in-Some-get.ensures.value in
    let charged = at_charge c.args.message.now.digest c.in-Some.bytes in
    let front = fronted same.digest shelf.deque_size shelf.byte_budget charged in
    let prim = c.self.invariant.1.primary_only peer (some_named (eq_by_cmp g.P.Ord.cmp) numbers shelf.stored.lists peer ∙ ap is_some found) in
    let stores = Stores-taken g.P.Ord.cmp g.M.Digest.Ord.cmp laws numbers peer c.in-Some-get.list.now found shelf.stored c.take.new.self.stored c.self.invariant.0
    c.args.message.now (front (items_at same_number c.in-Some-get.list.now shelf.stored.lists)) c.take.result c.take.ensures.ok in
    let named = subst (λ cs. OnOk c.take.result (Stores same peer c.args.message.now (front cs) (named_of numbers shelf.stored) (named_of numbers c.take.new.self.stored)))
    (sym (named_there (eq_by_cmp g.P.Ord.cmp) numbers shelf.stored.lists peer c.in-Some-get.list.now found)) stores in (
      IsNumbered-taken g.P.Ord.cmp g.M.Digest.Ord.cmp laws numbers peer c.in-Some-get.list.now found shelf.stored c.take.new.self.stored c.self.invariant.0
          c.args.message.now (front (items_at same_number c.in-Some-get.list.now shelf.stored.lists)) c.take.result c.take.ensures.ok (on_err c.take.result (ap (λ s. s.stored)) c.take.ensures.err),
      rw (c.take.ensures.sheds.deque_size, c.take.ensures.sheds.byte_budget) (IsCached-took same laws shelf.deque_size shelf.byte_budget digest_laws peer c.args.message.now c.self.inside.primary (named_of numbers shelf.stored) (named_of numbers c.take.new.self.stored)
          c.self.invariant.1 c.take.result charged refl prim named (on_err c.take.result (ap (λ s. named_of numbers s.stored)) c.take.ensures.err)),
    )

pub take_first-requires-clause-absent : goal.take_first-requires-clause-absent
take_first-requires-clause-absent g c κs within = rw (← c.self.view_is) (named_none (eq_by_cmp g.P.Ord.cmp) c.self.inside.numbers c.self.inside.shelf.stored.lists c.args.peer.now (sym c.in-None-3.ensures.value))

pub take_first-requires-clause-primary : goal.take_first-requires-clause-primary
take_first-requires-clause-primary g c κs within = rw (← c.self.view_is) (sym c.position.ensures.some ∙ c.is_none.ensures ∙ ap not c.if-is_none.false)

pub take_first-requires-clause-affordable : goal.take_first-requires-clause-affordable
take_first-requires-clause-affordable g c κs within = rw (← c.self.view_is) (rw c.in-Some.is at c.afforded.ensures.affordable)

-- a peer that has a list is primary
pub returns-in-Some-get-clause-outcome : goal.returns-in-Some-get-clause-outcome
returns-in-Some-get-clause-outcome g c =
    let prim = c.self.invariant.1.primary_only c.args.peer.now (some_named (eq_by_cmp g.P.Ord.cmp) c.self.inside.numbers c.self.inside.shelf.stored.lists c.args.peer.now ∙ ap is_some (sym c.in-Some-get.ensures.value)) in
    rw (← c.self.view_is, prim, c.afforded.ensures.charge c.args.message.now.digest, c.in-Some.is, named_there (eq_by_cmp g.P.Ord.cmp) c.self.inside.numbers c.self.inside.shelf.stored.lists c.args.peer.now c.in-Some-get.list.now (sym c.in-Some-get.ensures.value)) c.take.ensures.outcome

pub returns-in-Some-get-clause-ok : goal.returns-in-Some-get-clause-ok
returns-in-Some-get-clause-ok g c =
    let laws = eq_by_cmp_equiv g.met.P.Ord.total in
    let same = same_by g.P.Ord.cmp g.M.Digest.Ord.cmp in
    let shelf = c.self.inside.shelf in
    let front = fronted same.digest shelf.deque_size shelf.byte_budget (at_charge c.args.message.now.digest c.in-Some.bytes) in
    let named = named_of c.self.inside.numbers in
    let prim = c.self.invariant.1.primary_only c.args.peer.now (some_named (eq_by_cmp g.P.Ord.cmp) c.self.inside.numbers shelf.stored.lists c.args.peer.now ∙ ap is_some (sym c.in-Some-get.ensures.value)) in
    rw (← c.self.view_is, prim, c.afforded.ensures.charge c.args.message.now.digest, c.in-Some.is) (subst (λ cs. OnOk c.take.result (Stores same c.args.peer.now c.args.message.now (front cs) (named shelf.stored) (named c.take.new.self.stored)))
    (sym (named_there (eq_by_cmp g.P.Ord.cmp) c.self.inside.numbers shelf.stored.lists c.args.peer.now c.in-Some-get.list.now (sym c.in-Some-get.ensures.value)))
    (Stores-taken g.P.Ord.cmp g.M.Digest.Ord.cmp laws c.self.inside.numbers c.args.peer.now c.in-Some-get.list.now (sym c.in-Some-get.ensures.value) shelf.stored c.take.new.self.stored c.self.invariant.0
    c.args.message.now (front (items_at same_number c.in-Some-get.list.now shelf.stored.lists)) c.take.result c.take.ensures.ok))

pub returns-in-Some-get-clause-sheds : goal.returns-in-Some-get-clause-sheds
returns-in-Some-get-clause-sheds g c = rw (← c.self.view_is) (record { deque_size = c.take.ensures.sheds.deque_size; byte_budget = c.take.ensures.sheds.byte_budget; left = c.take.ensures.sheds.left })

pub returns-in-Some-get-clause-succeeds_on_duplicate : goal.returns-in-Some-get-clause-succeeds_on_duplicate
returns-in-Some-get-clause-succeeds_on_duplicate g c = rw (← c.self.view_is, named_there (eq_by_cmp g.P.Ord.cmp) c.self.inside.numbers c.self.inside.shelf.stored.lists c.args.peer.now c.in-Some-get.list.now (sym c.in-Some-get.ensures.value)) c.take.ensures.succeeds_on_duplicate

pub returns-in-Some-get-clause-succeeds_on_ineligible : goal.returns-in-Some-get-clause-succeeds_on_ineligible
returns-in-Some-get-clause-succeeds_on_ineligible g c =
    let prim = c.self.invariant.1.primary_only c.args.peer.now (some_named (eq_by_cmp g.P.Ord.cmp) c.self.inside.numbers c.self.inside.shelf.stored.lists c.args.peer.now ∙ ap is_some (sym c.in-Some-get.ensures.value)) in
    rw (← c.self.view_is) (λ no. let never : true ≡ false = sym prim ∙ no in absurd (cc))

pub returns-in-Some-get-clause-succeeds_on_oversize : goal.returns-in-Some-get-clause-succeeds_on_oversize
returns-in-Some-get-clause-succeeds_on_oversize g c = rw (← c.self.view_is, c.afforded.ensures.charge c.args.message.now.digest, c.in-Some.is) (λ no. absurd (cc))

pub returns-in-None-2-clause-ok : goal.returns-in-None-2-clause-ok
returns-in-None-2-clause-ok g c =
    let laws = eq_by_cmp_equiv g.met.P.Ord.total in
    let same = same_by g.P.Ord.cmp g.M.Digest.Ord.cmp in
    let shelf = c.self.inside.shelf in
    let now = named_of c.self.inside.numbers shelf.stored in
    let prim = sym c.position.ensures.some ∙ c.is_none.ensures ∙ ap not c.if-is_none.false in
    rw (← c.self.view_is, prim, c.afforded.ensures.charge c.args.message.now.digest, c.in-Some.is) (subst (λ cs. Stores same c.args.peer.now c.args.message.now cs now now)
    (sym (front-nothing same.digest shelf.deque_size shelf.byte_budget (at_charge c.args.message.now.digest c.in-Some.bytes) (items_at same.key c.args.peer.now now.lists) (sym c.deque_size.ensures ∙ c.if-deque_size-eq0.true)))
    (Stores-nothing g.P.Ord.cmp g.M.Digest.Ord.cmp laws c.self.inside.numbers c.args.peer.now shelf.stored c.args.message.now c.self.invariant.0 (sym c.in-None-2.ensures.value)))

pub returns-in-None-2-clause-outcome : goal.returns-in-None-2-clause-outcome
returns-in-None-2-clause-outcome g c =
    let prim = sym c.position.ensures.some ∙ c.is_none.ensures ∙ ap not c.if-is_none.false in
    rw (← c.self.view_is, prim, c.afforded.ensures.charge c.args.message.now.digest, c.in-Some.is, named_nowhere (eq_by_cmp g.P.Ord.cmp) c.self.inside.numbers c.self.inside.shelf.stored.lists c.args.peer.now (sym c.in-None-2.ensures.value)) (search rules)

pub returns-in-None-3-clause-outcome : goal.returns-in-None-3-clause-outcome
returns-in-None-3-clause-outcome g c =
    let prim = sym c.position.ensures.some ∙ c.is_none.ensures ∙ ap not c.if-is_none.false in
    rw (← c.self.view_is, prim, c.afforded.ensures.charge c.args.message.now.digest, c.in-Some.is, named_nowhere (eq_by_cmp g.P.Ord.cmp) c.self.inside.numbers c.self.inside.shelf.stored.lists c.args.peer.now (sym c.in-None-3.ensures.value)) c.take_first.ensures.outcome

pub returns-in-None-3-clause-ok : goal.returns-in-None-3-clause-ok
returns-in-None-3-clause-ok g c =
    let same = same_by g.P.Ord.cmp g.M.Digest.Ord.cmp in
    let shelf = c.self.inside.shelf in
    let front = fronted same.digest shelf.deque_size shelf.byte_budget (at_charge c.args.message.now.digest c.in-Some.bytes) in
    let empty = named_nowhere (eq_by_cmp g.P.Ord.cmp) c.self.inside.numbers shelf.stored.lists c.args.peer.now (sym c.in-None-3.ensures.value) in
    let prim = sym c.position.ensures.some ∙ c.is_none.ensures ∙ ap not c.if-is_none.false in
    rw (← c.self.view_is, prim, c.afforded.ensures.charge c.args.message.now.digest, c.in-Some.is) (subst (λ cs. OnOk c.take_first.result (Stores same c.args.peer.now c.args.message.now (front cs) (named_of c.self.inside.numbers shelf.stored) c.take_first.new.self.shelf.stored)) (sym empty) (rw (← c.self.view_is) at c.take_first.ensures.ok))

pub returns-in-None-3-clause-succeeds_on_duplicate : goal.returns-in-None-3-clause-succeeds_on_duplicate
returns-in-None-3-clause-succeeds_on_duplicate g c =
    rw (← c.self.view_is, named_nowhere (eq_by_cmp g.P.Ord.cmp) c.self.inside.numbers c.self.inside.shelf.stored.lists c.args.peer.now (sym c.in-None-3.ensures.value)) (λ no. absurd (cc))

pub returns-in_default-clause-sheds : goal.returns-in_default-clause-sheds
returns-in_default-clause-sheds g c = Sheds-none (eq_by_cmp g.M.Digest.Ord.cmp) c.args.self.now.shelf

pub returns-in-None-clause-sheds : goal.returns-in-None-clause-sheds
returns-in-None-clause-sheds g c = Sheds-none (eq_by_cmp g.M.Digest.Ord.cmp) c.args.self.now.shelf

pub returns-in-None-2-clause-sheds : goal.returns-in-None-2-clause-sheds
returns-in-None-2-clause-sheds g c = Sheds-none (eq_by_cmp g.M.Digest.Ord.cmp) c.args.self.now.shelf

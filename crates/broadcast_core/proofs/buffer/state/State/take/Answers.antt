use Rattle.std.proofs.Common.{◌≡◌, refl, sym, ap, ◌∙◌}
use Rattle.std.specs.Cmp.{eq_by_cmp_equiv}
use Rattle.broadcast_core.specs.Content.{same_by, affordable, items_at, outcome_of}
use Rattle.std.specs.Prelude.{is_some}
use Rattle.std.specs.List.{list_any}
use Rattle.broadcast_core.specs.Stored.{has_digest}
use Rattle.broadcast_core.proofs.Taking.{among-names, on_false, Unawaited-taken, Takes-taken}
use Rattle.broadcast_core.proofs.buffer.state.State.take.Goals as goal

pub take-served-requires : goal.take-served-requires
take-served-requires g c cached = rw c.digest.ensures (c.self.invariant c.args.message.now.digest (c.in_ok-listing.ensures.cached cached))

pub invariant_of-self : goal.invariant_of-self
invariant_of-self g c = rw c.in_err-listing.ensures.err c.self.invariant

pub invariant_of-self-2 : goal.invariant_of-self-2
invariant_of-self-2 g c =
    let same = same_by g.P.Ord.cmp g.M.Digest.Ord.cmp in
    let key_laws = eq_by_cmp_equiv g.met.P.Ord.total in
    let laws = eq_by_cmp_equiv (g.met.M.Digest.Ord g.world.𝓛 g.world.𝓜 g.world.𝓡 (λ s x. x, λ x. x, λ x. x, λ x. x)).total in
    let cache = c.self.inside.cache in
    let waits = rw c.digest.ensures at c.take-served.ensures.left in
    Unawaited-taken same key_laws cache.shelf.deque_size cache.shelf.byte_budget laws c.args.peer.now c.args.message.now cache.primary cache.shelf.stored c.take.new.self.shelf.stored
    c.take.ensures.lawful c.self.inside.waiters c.take-served.new.self waits c.charge_of.result _ refl (on_false _ (list_any (same.key c.args.peer.now) cache.primary) (ap (λ x. x.shelf.stored)) c.in_ok-listing.ensures.ok) c.self.invariant

pub returns-clause-taken : goal.returns-clause-taken
returns-clause-taken g c = λ own.
    let same = same_by g.P.Ord.cmp g.M.Digest.Ord.cmp in
    let key_laws = eq_by_cmp_equiv g.met.P.Ord.total in
    let laws = eq_by_cmp_equiv (g.met.M.Digest.Ord g.world.𝓛 g.world.𝓜 g.world.𝓡 (λ s x. x, λ x. x, λ x. x, λ x. x)).total in
    let cache = c.self.inside.cache in
    let shelf = cache.shelf in
    let new = c.take.new.self in
    let waits = rw c.digest.ensures at c.take-served.ensures.left in
    let primary = list_any (same.key c.args.peer.now) cache.primary in
    let has = has_digest same.digest c.args.message.now.digest (items_at same.key c.args.peer.now shelf.stored.lists) in
    let charge = affordable shelf.byte_budget c.args.message.now.digest c.charge_of.result in
    let told : c.in_ok-listing.listing.outcome ≡ outcome_of primary (is_some charge) has = c.in_ok-listing.ensures.outcome in
    let stores = on_false _ primary (ap (λ x. x.shelf.stored)) c.in_ok-listing.ensures.ok in
    rw (← c.self.view_is, ← c.charge_of.ensures, c.take.ensures.primary, c.take.ensures.sheds.deque_size, c.take.ensures.sheds.byte_budget) (record {
      outcome = told ∙ ap (outcome_of primary (is_some charge)) (sym (among-names same.digest c.args.message.now.digest (items_at same.key c.args.peer.now shelf.stored.lists)));
      served = c.take-served.ensures.served ∙ ap (λ d. items_at same.digest d c.self.inside.waiters) c.digest.ensures;
      entered = c.in_ok-listing.ensures.entered;
      ok = Takes-taken same key_laws shelf.deque_size shelf.byte_budget laws c.args.peer.now c.args.message.now cache.primary shelf.stored new.shelf.stored
          c.take.ensures.lawful c.self.inside.waiters c.take-served.new.self waits c.charge_of.result own _ refl stores;
      err = tt;
      succeeds_on_duplicate = λ _. refl;
      succeeds_on_ineligible = λ _. refl;
      succeeds_on_oversize = λ _. refl;
      succeeds_at_size_zero = λ _. refl;
    })

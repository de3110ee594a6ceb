use Rattle.std.proofs.Common.{◌≡◌, ℕ, Bool, true, cond, List, Some, None, Result, Ok, Err, OnErr, [], refl, sym, ap, subst, ◌∙◌, arith}
use Rattle.std.specs.List.{IsDistinct}
use Rattle.std.specs.List.Sorted.{IsStrictlySortedBy}
use Rattle.std.specs.Map.{lookup, keys_of, remove_entry}
use Rattle.std.specs.BTreeMap.{insert_entry}
use Rattle.std.specs.Ordering.{eq_by_cmp}
use Rattle.std.specs.Cmp.{eq_by_cmp_equiv, IsEquivalence, IsTotalOrder}
use Rattle.std.specs.declared.cmp.Ordering.{Ordering}
use Rattle.std.proofs.lemmas.Map.Keys.{IsDistinct-from_sorted}
use Rattle.entries.specs.declared.entry.Charged.{Charged}
use Rattle.broadcast_core.specs.Carried.{Carried}
use Rattle.broadcast_core.specs.Content.{at_charge, same_by}
use Rattle.broadcast_core.specs.Fronted.{fronted}
use Rattle.broadcast_core.specs.Numbered.{same_listed, named_of, IsNumbered, Opens, Closes}
use Rattle.broadcast_core.specs.Stored.{Stored, Cached, Sheds, Stores}
use Rattle.entries.proofs.Tables.{lookup-inserted, remove-inserted}
use Rattle.broadcast_core.proofs.Parting.{Sheds-none}
use Rattle.broadcast_core.proofs.Taking.{IsCached-stored}
use Rattle.broadcast_core.proofs.Numbering.{none_named, named_nowhere, found_first, opened_first, IsNumbered-opened, IsNumbered-stores, IsNumbered-undone, named-undone, Stores-first}
use Rattle.broadcast_core.proofs.buffer.cache.Cache.take_first.Goals as goal
use Rattle.broadcast_core.proofs.buffer.cache.Cache.take_first.Goals.{In-Ok-take, In-Err, After-close, After-close-in-Err, After-drop-owner}
use Rattle.broadcast_core.proofs.buffer.cache.Cache.take_first.Given.{Over}

module _ {P M D : Type 0} {cmp : P → P → Ordering} (digest : D → D → Ordering) (order : IsTotalOrder cmp) (numbers : List (P × ℕ)) (p owner : P) (n : ℕ) (s o : Stored ℕ M D)
    (ok : IsNumbered cmp digest numbers s) (none : lookup (eq_by_cmp cmp p) numbers ≡ None) (opens : Opens n s o) (one : eq_by_cmp cmp p owner ≡ true) where
  laws : IsEquivalence (eq_by_cmp cmp)
  laws = eq_by_cmp_equiv order

  same : eq_by_cmp cmp p ≡ eq_by_cmp cmp owner
  same = λ i x. laws.congr p owner x one i

  fresh : lookup (eq_by_cmp cmp owner) numbers ≡ None
  fresh = ap (λ (t : P → Bool). lookup t numbers) (sym same) ∙ none

  module _ (more : List (P × ℕ)) (sorted : IsStrictlySortedBy cmp (keys_of more)) (put : more ≡ insert_entry cmp numbers owner n) where
    at : (q : P) → lookup (eq_by_cmp cmp q) more ≡ cond (eq_by_cmp cmp p q) (Some n) (lookup (eq_by_cmp cmp q) numbers)
    at q = ap (lookup (eq_by_cmp cmp q)) put ∙ lookup-inserted order owner n q numbers ∙ ap (λ b. cond b (Some n) (lookup (eq_by_cmp cmp q) numbers)) (sym (laws.congr p owner q one))

    distinct : IsDistinct (eq_by_cmp cmp) (keys_of more)
    distinct = IsDistinct-from_sorted cmp (keys_of more) sorted

    opened : IsNumbered cmp digest more o
    opened = IsNumbered-opened cmp digest laws numbers p n s o ok none opens more at distinct

    taken : (x : Carried M D) (cs : List (Charged D)) (t : Stored ℕ M D) → Stores (same_listed digest) n x cs o t → IsNumbered cmp digest more t
    taken x cs t stores = IsNumbered-stores cmp digest laws more p n (found_first cmp digest laws numbers p n s o ok none opens more at distinct) o t opened x cs stores

    stored : (x : Carried M D) (cs : List (Charged D)) (t : Stored ℕ M D) → Stores (same_listed digest) n x cs o t → Stores (same_by cmp digest) p x cs (named_of numbers s) (named_of more t)
    stored x cs t stores = Stores-first cmp digest laws numbers p n s o ok none opens more at distinct x cs t stores

  -- what is put in under an equal key is taken out again
  undone : (more less : List (P × ℕ)) → more ≡ insert_entry cmp numbers owner n → less ≡ remove_entry (eq_by_cmp cmp p) more → less ≡ numbers
  undone more less put left =
      left ∙ ap (remove_entry (eq_by_cmp cmp p)) put ∙ ap (λ (t : P → Bool). remove_entry t (insert_entry cmp numbers owner n)) same
      ∙ remove-inserted order owner n numbers fresh

pub take-requires-clause-size : goal.take-requires-clause-size
take-requires-clause-size g c κs within =
    let none = none_named (eq_by_cmp g.P.Ord.cmp) c.self.inside.numbers c.self.inside.shelf.stored.lists c.args.peer.now (rw (← c.self.view_is) at c.requires.absent) in
    rw (opened_first g.P.Ord.cmp g.M.Digest.Ord.cmp (eq_by_cmp_equiv g.met.P.Ord.total) c.self.inside.numbers c.args.peer.now c.in_ok-list.list c.self.inside.shelf.stored c.open.new.self.stored c.self.invariant.0 none c.in_ok-list.ensures.ok) (omega arith)

pub take-requires-clause-bytes : goal.take-requires-clause-bytes
take-requires-clause-bytes g c κs within =
    let none = none_named (eq_by_cmp g.P.Ord.cmp) c.self.inside.numbers c.self.inside.shelf.stored.lists c.args.peer.now (rw (← c.self.view_is) at c.requires.absent) in
    rw (opened_first g.P.Ord.cmp g.M.Digest.Ord.cmp (eq_by_cmp_equiv g.met.P.Ord.total) c.self.inside.numbers c.args.peer.now c.in_ok-list.list c.self.inside.shelf.stored c.open.new.self.stored c.self.invariant.0 none c.in_ok-list.ensures.ok) (omega arith)

pub take-requires-clause-affordable : goal.take-requires-clause-affordable
take-requires-clause-affordable g c κs within = rw c.open.ensures.rest.byte_budget (rw (← c.self.view_is) at c.requires.affordable)

pub invariant_of-self : goal.invariant_of-self
invariant_of-self g c = rw c.in_err-list.ensures.err c.self.invariant

pub invariant_of-self-in_default : goal.invariant_of-self-in_default
invariant_of-self-in_default g c =
    let laws = eq_by_cmp_equiv g.met.P.Ord.total in
    let none = none_named (eq_by_cmp g.P.Ord.cmp) c.self.inside.numbers c.self.inside.shelf.stored.lists c.args.peer.now (rw (← c.self.view_is) at c.requires.absent) in
    rw c.in_default.ensures.err (
      IsNumbered-undone g.P.Ord.cmp g.M.Digest.Ord.cmp laws c.self.inside.numbers c.args.peer.now c.in_ok-list.list c.self.inside.shelf.stored c.open.new.self.stored c.self.invariant.0 none c.in_ok-list.ensures.ok
          c.close.new.self.stored c.close.ensures.closed,
      rw (
        c.close.ensures.rest.deque_size ∙ c.open.ensures.rest.deque_size,
        c.close.ensures.rest.byte_budget ∙ c.open.ensures.rest.byte_budget,
        named-undone g.P.Ord.cmp g.M.Digest.Ord.cmp laws c.self.inside.numbers c.args.peer.now c.in_ok-list.list c.self.inside.shelf.stored c.open.new.self.stored c.self.invariant.0 none c.in_ok-list.ensures.ok c.close.new.self.stored c.close.ensures.closed,
      )
          c.self.invariant.1,
    )

on_err : {A E Q : Type 0} (r : Result A E) → Q → OnErr r Q
on_err (Ok a) q = tt
on_err (Err e) q = q

-- nothing is left of a list that was opened where there is no memory for its number
closed-is : (g : Over) (c : After-close g) → let now = c.close.new.self in
    record { primary = c.self.inside.primary; shelf = record { deque_size = now.deque_size; byte_budget = now.byte_budget; stored = named_of c.find_or_insert.new.self now.stored; left = now.left } } ≡ c.args.self.now
closed-is g c =
    let laws = eq_by_cmp_equiv g.met.P.Ord.total in
    let none = none_named (eq_by_cmp g.P.Ord.cmp) c.self.inside.numbers c.self.inside.shelf.stored.lists c.args.peer.now (rw (← c.self.view_is) at c.requires.absent) in
    rw (
      c.in_default.ensures.err,
      c.close.ensures.rest.deque_size ∙ c.open.ensures.rest.deque_size,
      c.close.ensures.rest.byte_budget ∙ c.open.ensures.rest.byte_budget,
      c.close.ensures.rest.left ∙ c.open.ensures.rest.left,
      named-undone g.P.Ord.cmp g.M.Digest.Ord.cmp laws c.self.inside.numbers c.args.peer.now c.in_ok-list.list c.self.inside.shelf.stored c.open.new.self.stored c.self.invariant.0 none c.in_ok-list.ensures.ok c.close.new.self.stored c.close.ensures.closed,
    )
    c.self.view_is

pub returns-in_default-clause-err : goal.returns-in_default-clause-err
returns-in_default-clause-err g c = closed-is g c

pub returns-in_default-clause-sheds : goal.returns-in_default-clause-sheds
returns-in_default-clause-sheds g c = subst (λ (x : Cached _ _ _). Sheds (eq_by_cmp g.M.Digest.Ord.cmp) c.args.self.now.shelf x.shelf) (sym (closed-is g c)) (Sheds-none (eq_by_cmp g.M.Digest.Ord.cmp) c.args.self.now.shelf)

-- the message is on the list of the peer
stored-is : (g : Over) (c : In-Ok-take g) → let shelf = c.self.inside.shelf in let x = at_charge c.args.message.now.digest c.args.charge in
    Stores (same_by g.P.Ord.cmp g.M.Digest.Ord.cmp) c.args.peer.now c.args.message.now (fronted (eq_by_cmp g.M.Digest.Ord.cmp) shelf.deque_size shelf.byte_budget x []) (named_of c.self.inside.numbers shelf.stored) (named_of c.find_or_insert.new.self c.take.new.self.stored)
    × IsNumbered g.P.Ord.cmp g.M.Digest.Ord.cmp c.find_or_insert.new.self c.take.new.self.stored
stored-is g c =
    let shelf = c.self.inside.shelf in
    let none = none_named (eq_by_cmp g.P.Ord.cmp) c.self.inside.numbers shelf.stored.lists c.args.peer.now (rw (← c.self.view_is) at c.requires.absent) in
    let one = g.met.P.PublicKey.copies c.args.peer.now c.in_ok-owner.owner c.in_ok-owner.ensures.cases in
    let put = c.in-Ok.ensures.inserted (c.in-Ok.ensures.found ∙ fresh g.M.Digest.Ord.cmp g.met.P.Ord.total c.self.inside.numbers c.args.peer.now c.in_ok-owner.owner c.in_ok-list.list shelf.stored c.open.new.self.stored c.self.invariant.0 none c.in_ok-list.ensures.ok one) in
    let front = fronted (eq_by_cmp g.M.Digest.Ord.cmp) shelf.deque_size shelf.byte_budget (at_charge c.args.message.now.digest c.args.charge) in
    let stores = subst (λ cs. Stores (same_listed g.M.Digest.Ord.cmp) c.in_ok-list.list c.args.message.now (front cs) c.open.new.self.stored c.take.new.self.stored)
    (opened_first g.P.Ord.cmp g.M.Digest.Ord.cmp (eq_by_cmp_equiv g.met.P.Ord.total) c.self.inside.numbers c.args.peer.now c.in_ok-list.list shelf.stored c.open.new.self.stored c.self.invariant.0 none c.in_ok-list.ensures.ok)
    (rw (c.open.ensures.rest.deque_size, c.open.ensures.rest.byte_budget) at c.in-Ok-take.ensures.ok) in (
      stored g.M.Digest.Ord.cmp g.met.P.Ord.total c.self.inside.numbers c.args.peer.now c.in_ok-owner.owner c.in_ok-list.list shelf.stored c.open.new.self.stored c.self.invariant.0 none c.in_ok-list.ensures.ok one
          c.find_or_insert.new.self c.len-peers.ensures.ordered put c.args.message.now _ c.take.new.self.stored stores,
      taken g.M.Digest.Ord.cmp g.met.P.Ord.total c.self.inside.numbers c.args.peer.now c.in_ok-owner.owner c.in_ok-list.list shelf.stored c.open.new.self.stored c.self.invariant.0 none c.in_ok-list.ensures.ok one
          c.find_or_insert.new.self c.len-peers.ensures.ordered put c.args.message.now _ c.take.new.self.stored c.in-Ok-take.ensures.ok,
    )

pub invariant_of-self-in-Ok-take : goal.invariant_of-self-in-Ok-take
invariant_of-self-in-Ok-take g c =
    let same = same_by g.P.Ord.cmp g.M.Digest.Ord.cmp in
    let laws = eq_by_cmp_equiv g.met.P.Ord.total in
    let digest_laws = eq_by_cmp_equiv (g.met.M.Digest.Ord g.world.𝓛 g.world.𝓜 g.world.𝓡 (λ s x. x, λ x. x, λ x. x, λ x. x)).total in
    let shelf = c.self.inside.shelf in
    let charged = at_charge c.args.message.now.digest c.args.charge in
    let made = stored-is g c in
    let none = named_nowhere (eq_by_cmp g.P.Ord.cmp) c.self.inside.numbers shelf.stored.lists c.args.peer.now (none_named (eq_by_cmp g.P.Ord.cmp) c.self.inside.numbers shelf.stored.lists c.args.peer.now (rw (← c.self.view_is) at c.requires.absent)) in
    let stores = subst (λ cs. Stores same c.args.peer.now c.args.message.now (fronted same.digest shelf.deque_size shelf.byte_budget charged cs) (named_of c.self.inside.numbers shelf.stored) (named_of c.find_or_insert.new.self c.take.new.self.stored)) (sym none) made.0 in (
      made.1,
      rw (c.take.ensures.sheds.deque_size ∙ c.open.ensures.rest.deque_size, c.take.ensures.sheds.byte_budget ∙ c.open.ensures.rest.byte_budget)
          (IsCached-stored same laws shelf.deque_size shelf.byte_budget digest_laws c.args.peer.now c.args.message.now c.self.inside.primary (named_of c.self.inside.numbers shelf.stored) (named_of c.find_or_insert.new.self c.take.new.self.stored)
          c.self.invariant.1 charged refl (rw (← c.self.view_is) at c.requires.primary) stores),
    )

pub returns-in-Ok-take-clause-ok : goal.returns-in-Ok-take-clause-ok
returns-in-Ok-take-clause-ok g c = rw (← c.self.view_is) (stored-is g c).0

pub returns-in-Ok-take-clause-entered : goal.returns-in-Ok-take-clause-entered
returns-in-Ok-take-clause-entered g c = rw (← c.self.view_is) (rw c.in_ok-list.ensures.ok.messages at c.in-Ok-take.ensures.entered)

pub returns-in-Ok-take-clause-sheds : goal.returns-in-Ok-take-clause-sheds
returns-in-Ok-take-clause-sheds g c =
    let rest = c.open.ensures.rest in
    rw (← c.self.view_is) (record {
      deque_size = c.take.ensures.sheds.deque_size ∙ rest.deque_size;
      byte_budget = c.take.ensures.sheds.byte_budget ∙ rest.byte_budget;
      left = rw (c.in_ok-list.ensures.ok.messages, rest.left) at c.take.ensures.sheds.left;
    })

-- nothing is left of a list that was opened where the shelf refuses the message
undone-is : (g : Over) (c : After-close-in-Err g) → let shelf = c.self.inside.shelf in let now = c.close-in-Err.new.self in
    (c.remove.new.self ≡ c.self.inside.numbers) × IsNumbered g.P.Ord.cmp g.M.Digest.Ord.cmp c.self.inside.numbers now.stored × (named_of c.self.inside.numbers now.stored ≡ named_of c.self.inside.numbers shelf.stored)
    × (now.deque_size ≡ shelf.deque_size) × (now.byte_budget ≡ shelf.byte_budget) × (now.left ≡ shelf.left)
undone-is g c =
    let laws = eq_by_cmp_equiv g.met.P.Ord.total in
    let shelf = c.self.inside.shelf in
    let none = none_named (eq_by_cmp g.P.Ord.cmp) c.self.inside.numbers shelf.stored.lists c.args.peer.now (rw (← c.self.view_is) at c.requires.absent) in
    let one = g.met.P.PublicKey.copies c.args.peer.now c.in_ok-owner.owner c.in_ok-owner.ensures.cases in
    let put = c.in-Ok.ensures.inserted (c.in-Ok.ensures.found ∙ fresh g.M.Digest.Ord.cmp g.met.P.Ord.total c.self.inside.numbers c.args.peer.now c.in_ok-owner.owner c.in_ok-list.list shelf.stored c.open.new.self.stored c.self.invariant.0 none c.in_ok-list.ensures.ok one) in
    let closes = subst (λ t. Closes c.in_ok-list.list t.stored c.close-in-Err.new.self.stored) c.in-Err.ensures.err c.close-in-Err.ensures.closed in
    let rest = c.close-in-Err.ensures.rest in
    let opened = c.open.ensures.rest in
    let refused = c.in-Err.ensures.err in (
      undone g.M.Digest.Ord.cmp g.met.P.Ord.total c.self.inside.numbers c.args.peer.now c.in_ok-owner.owner c.in_ok-list.list shelf.stored c.open.new.self.stored c.self.invariant.0 none c.in_ok-list.ensures.ok one
          c.find_or_insert.new.self c.remove.new.self put c.remove.ensures.removed,
      IsNumbered-undone g.P.Ord.cmp g.M.Digest.Ord.cmp laws c.self.inside.numbers c.args.peer.now c.in_ok-list.list shelf.stored c.open.new.self.stored c.self.invariant.0 none c.in_ok-list.ensures.ok c.close-in-Err.new.self.stored closes,
      named-undone g.P.Ord.cmp g.M.Digest.Ord.cmp laws c.self.inside.numbers c.args.peer.now c.in_ok-list.list shelf.stored c.open.new.self.stored c.self.invariant.0 none c.in_ok-list.ensures.ok c.close-in-Err.new.self.stored closes,
      rest.deque_size ∙ ap (λ s. s.deque_size) refused ∙ opened.deque_size,
      rest.byte_budget ∙ ap (λ s. s.byte_budget) refused ∙ opened.byte_budget,
      rest.left ∙ ap (λ s. s.left) refused ∙ opened.left,
    )

pub invariant_of-self-in-Err : goal.invariant_of-self-in-Err
invariant_of-self-in-Err g c =
    let is = undone-is g c in
    (rw is.0 is.1, rw (is.0, is.2, is.3, is.4) c.self.invariant.1)

refused-is : (g : Over) (c : After-close-in-Err g) → let now = c.close-in-Err.new.self in
    record { primary = c.self.inside.primary; shelf = record { deque_size = now.deque_size; byte_budget = now.byte_budget; stored = named_of c.remove.new.self now.stored; left = now.left } } ≡ c.args.self.now
refused-is g c =
    let is = undone-is g c in
    rw (is.0, is.2, is.3, is.4, is.5) c.self.view_is

pub returns-in-Err-clause-err : goal.returns-in-Err-clause-err
returns-in-Err-clause-err g c = refused-is g c

pub returns-in-Err-clause-sheds : goal.returns-in-Err-clause-sheds
returns-in-Err-clause-sheds g c = subst (λ (x : Cached _ _ _). Sheds (eq_by_cmp g.M.Digest.Ord.cmp) c.args.self.now.shelf x.shelf) (sym (refused-is g c)) (Sheds-none (eq_by_cmp g.M.Digest.Ord.cmp) c.args.self.now.shelf)

pub returns-in_err-owner-clause-sheds : goal.returns-in_err-owner-clause-sheds
returns-in_err-owner-clause-sheds g c = Sheds-none (eq_by_cmp g.M.Digest.Ord.cmp) c.args.self.now.shelf

unopened-is : (g : Over) (c : After-drop-owner g) → let now = c.open.new.self in
    record { primary = c.self.inside.primary; shelf = record { deque_size = now.deque_size; byte_budget = now.byte_budget; stored = named_of c.self.inside.numbers now.stored; left = now.left } } ≡ c.args.self.now
unopened-is g c = rw c.in_err-list.ensures.err c.self.view_is

pub returns-in_err-list-clause-err : goal.returns-in_err-list-clause-err
returns-in_err-list-clause-err g c = on_err _ (unopened-is g c)

pub returns-in_err-list-clause-sheds : goal.returns-in_err-list-clause-sheds
returns-in_err-list-clause-sheds g c = subst (λ (x : Cached _ _ _). Sheds (eq_by_cmp g.M.Digest.Ord.cmp) c.args.self.now.shelf x.shelf) (sym (unopened-is g c)) (Sheds-none (eq_by_cmp g.M.Digest.Ord.cmp) c.args.self.now.shelf)

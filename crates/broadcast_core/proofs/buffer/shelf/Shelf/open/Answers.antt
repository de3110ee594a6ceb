use Rattle.std.proofs.Common.{Result, Ok, Err, ◌≡◌, ◌∙◌, true, ℕ, List, [], None, refl, sym, ap, subst}
use Rattle.std.specs.Prelude.{is_some, unwrap_or, IfOk, OnErr}
use Rattle.std.specs.Option.{option_map}
use Rattle.std.specs.Map.{lookup}
use Rattle.std.proofs.lemmas.Map.Made.{lookup-map_values}
use Rattle.entries.specs.declared.entry.Charged.{Charged}
use Rattle.entries.specs.Linked.{Node}
use Rattle.std.specs.Cmp.{IsTotalOrder, eq_by_cmp_equiv}
use Rattle.entries.specs.Overlaid.{same_number}
use Rattle.entries.specs.Store.{values_of, items_at, Listed, Puts}
use Rattle.entries.proofs.Slots.{number_laws}
use Rattle.entries.specs.Table.{Tabled, items_of}
use Rattle.broadcast_core.specs.Carried.{Carried}
use Rattle.broadcast_core.specs.Numbered.{same_listed, Opens}
use Rattle.broadcast_core.specs.Indexed.{names_of, named_nodes, named_lists, IsShelved, shelved_of}
use Rattle.broadcast_core.proofs.Placing.{is_some-digests, distinct-digests}
use Rattle.broadcast_core.proofs.Naming.{items_at-named, is_some-named, Puts-named, AllNamed-puts}
use Rattle.broadcast_core.proofs.Indexing.{IsIndexed-closed}
use Rattle.broadcast_core.proofs.Caching.{puts-digests}
use Rattle.broadcast_core.proofs.buffer.shelf.Shelf.open.Goals as goal
use Rattle.std.specs.declared.cmp.Ordering.{Ordering}

opened : {E M D : Type 0} (digest : D → D → Ordering) (r : Result ℕ E) (old new : List (ℕ × List (Node (Charged ℕ)))) (table : Tabled D (Carried M D))
    → IfOk r (λ n. lookup (same_number n) old ≡ None) → IfOk r (λ n. is_some (lookup (same_number n) new) ≡ true) → IfOk r (λ n. Puts same_number n [] old new)
    → IfOk r (λ n. Opens n (shelved_of old table) (shelved_of new table))
opened digest (Ok n) old new table fresh there puts =
    let names = names_of table in
    let named = Puts-named names same_number n [] old new puts in
    record {
      fresh = lookup-map_values values_of (same_number n) (named_lists names old) ∙ ap (option_map values_of) (lookup-map_values (named_nodes names) (same_number n) old ∙ ap (option_map (named_nodes names)) fresh);
      there = is_some-digests same_number n (named_lists names new) ∙ is_some-named names same_number n new ∙ there;
      put = puts-digests (same_listed digest) n [] [] (named_lists names old) (named_lists names new) named refl (distinct-digests same_number (named_lists names new) named.distinct);
      messages = refl;
    }
opened digest (Err e) old new table fresh there puts = tt

still : {E M D : Type 0} (digest : D → D → Ordering) (order : IsTotalOrder digest) (r : Result ℕ E) (old new : Listed ℕ ℕ) (table : Tabled D (Carried M D)) → IsShelved (same_listed digest) (names_of table) old.lists (items_of table)
    → IfOk r (λ n. lookup (same_number n) old.lists ≡ None) → IfOk r (λ n. Puts same_number n [] old.lists new.lists) → OnErr r (new ≡ old) → IsShelved (same_listed digest) (names_of table) new.lists (items_of table)
still digest order (Ok n) old new table was fresh puts err =
    let names = names_of table in
    let named = Puts-named names same_number n [] old.lists new.lists puts in
    let empty : items_at same_number n (named_lists names old.lists) ≡ [] = items_at-named names same_number n old.lists ∙ ap (λ o. named_nodes names (unwrap_or o [])) fresh in
    record {
      indexed = IsIndexed-closed (same_listed digest) number_laws (eq_by_cmp_equiv order) n (named_lists names old.lists) (named_lists names new.lists) (items_of table) was.indexed empty named.lists named.distinct;
      named = AllNamed-puts names same_number n [] old.lists new.lists puts was.named tt;
    }
still digest order (Err e) old new table was fresh puts err = subst (λ l. IsShelved (same_listed digest) (names_of table) l.lists (items_of table)) (sym err) was

pub invariant_of-self : goal.invariant_of-self
invariant_of-self g c = (
  still g.M.Digest.Ord.cmp (g.met.M.Digest.Ord g.world.𝓛 g.world.𝓜 g.world.𝓡 (λ s x. x, λ x. x, λ x. x, λ x. x)).total c.open.result c.self.inside.lists c.open.new.self c.self.inside.table c.self.invariant.0
      c.open.ensures.fresh c.open.ensures.ok c.open.ensures.err,
  c.self.invariant.1,
)

pub returns-clause-ok : goal.returns-clause-ok
returns-clause-ok g c =
    rw (← c.self.view_is) (opened g.M.Digest.Ord.cmp c.open.result c.self.inside.lists.lists c.open.new.self.lists c.self.inside.table
    c.open.ensures.fresh c.open.ensures.there c.open.ensures.ok)

pub returns-clause-rest : goal.returns-clause-rest
returns-clause-rest g c = rw (← c.self.view_is) (record { deque_size = refl; byte_budget = refl; left = refl })

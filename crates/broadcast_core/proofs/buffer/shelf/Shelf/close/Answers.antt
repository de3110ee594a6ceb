use Rattle.std.proofs.Common.{◌∙◌, [], refl, sym, ap}
use Rattle.std.specs.Cmp.{eq_by_cmp_equiv}
use Rattle.entries.specs.Overlaid.{same_number}
use Rattle.entries.specs.Store.{values_of, items_at}
use Rattle.entries.specs.Table.{items_of}
use Rattle.entries.proofs.Slots.{number_laws}
use Rattle.broadcast_core.specs.Numbered.{same_listed}
use Rattle.broadcast_core.specs.Indexed.{names_of, named_lists}
use Rattle.broadcast_core.proofs.Distinct.{by_test}
use Rattle.broadcast_core.proofs.Indexing.{IsIndexed-closed, nodes-equal, cond_true, cond_false}
use Rattle.broadcast_core.proofs.Placing.{items_at-digests, is_some-digests, distinct-digests, no-digests}
use Rattle.broadcast_core.proofs.Naming.{none-named, items_at-named, Removes-named, AllNamed-removes}
use Rattle.broadcast_core.proofs.buffer.shelf.Shelf.close.Goals as goal

pub remove-requires : goal.remove-requires
remove-requires g c =
    let names = names_of c.self.inside.table in
    let lists = named_lists names c.self.inside.lists.lists in
    let none = no-digests _ (sym (items_at-digests same_number c.args.list lists) ∙ (rw (← c.self.view_is) at c.requires.empty)) in
    none-named names (items_at same_number c.args.list c.self.inside.lists.lists) (c.self.invariant.0.named c.args.list) (sym (items_at-named names same_number c.args.list c.self.inside.lists.lists) ∙ none)

pub invariant_of-self : goal.invariant_of-self
invariant_of-self g c =
    let laws = eq_by_cmp_equiv (g.met.M.Digest.Ord g.world.𝓛 g.world.𝓜 g.world.𝓡 (λ s x. x, λ x. x, λ x. x, λ x. x)).total in
    let names = names_of c.self.inside.table in
    let lists = named_lists names c.self.inside.lists.lists in
    let removes = Removes-named names same_number c.args.list c.self.inside.lists.lists c.remove.new.self.lists c.remove.ensures in
    let empty = no-digests _ (sym (items_at-digests same_number c.args.list lists) ∙ (rw (← c.self.view_is) at c.requires.empty)) in (
      record {
        indexed = IsIndexed-closed (same_listed g.M.Digest.Ord.cmp) number_laws laws c.args.list lists (named_lists names c.remove.new.self.lists) (items_of c.self.inside.table) c.self.invariant.0.indexed empty removes.lists removes.distinct;
        named = AllNamed-removes names same_number c.args.list c.self.inside.lists.lists c.remove.new.self.lists c.remove.ensures c.self.invariant.0.named;
      },
      c.self.invariant.1,
    )

pub returns-clause-closed : goal.returns-clause-closed
returns-clause-closed g c =
    let names = names_of c.self.inside.table in
    let lists = named_lists names c.self.inside.lists.lists in
    let new_lists = named_lists names c.remove.new.self.lists in
    let removes = Removes-named names same_number c.args.list c.self.inside.lists.lists c.remove.new.self.lists c.remove.ensures in
    let empty = no-digests _ (sym (items_at-digests same_number c.args.list lists) ∙ (rw (← c.self.view_is) at c.requires.empty)) in
    rw (← c.self.view_is) (record {
      lists = λ q. items_at-digests same_number q new_lists ∙ ap values_of (removes.lists q ∙ by_test (same_number c.args.list q)
          (λ h. cond_true (same_number c.args.list q) [] (items_at same_number q lists) h ∙ sym (nodes-equal number_laws lists c.args.list q h ∙ empty))
          (λ h. cond_false (same_number c.args.list q) [] (items_at same_number q lists) h)) ∙ sym (items_at-digests same_number q lists);
      keys = λ q there. let r = removes.keys q (sym (is_some-digests same_number q new_lists) ∙ there) in (r.0, is_some-digests same_number q lists ∙ r.1);
      stays = λ q apart there. is_some-digests same_number q new_lists ∙ removes.stays q apart (sym (is_some-digests same_number q lists) ∙ there);
      distinct = distinct-digests same_number new_lists removes.distinct;
      messages = refl;
    })

pub returns-clause-rest : goal.returns-clause-rest
returns-clause-rest g c = rw (← c.self.view_is) (record { deque_size = refl; byte_budget = refl; left = refl })

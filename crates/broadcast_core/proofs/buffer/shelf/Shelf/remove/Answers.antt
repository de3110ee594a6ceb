use Rattle.entries.proofs.Slots.{number_laws}
use Rattle.std.proofs.Common.{[], ◌∷◌, refl, sym, ap, ◌∙◌}
use Rattle.std.specs.Cmp.{eq_by_cmp_equiv}
use Rattle.entries.specs.Overlaid.{same_number}
use Rattle.std.specs.Ordering.{eq_by_cmp}
use Rattle.entries.specs.Table.{items_of, messages_of}
use Rattle.broadcast_core.specs.Numbered.{same_listed}
use Rattle.broadcast_core.specs.Indexed.{names_of, named_nodes, named_lists, stored_of}
use Rattle.broadcast_core.proofs.Placing.{distinct-digests}
use Rattle.broadcast_core.proofs.Caching.{stored-cached}
use Rattle.broadcast_core.proofs.Dropping.{Clearing-start, evicts-shorter, Clearing-end, Drops-made}
use Rattle.broadcast_core.proofs.Naming.{items_at-named, Removes-named, AllNamed-removes}
use Rattle.broadcast_core.proofs.Parting.{Adds-none, Adds-fewer, takes-fewer}
use Rattle.broadcast_core.proofs.Leaving.{quits-item, Clearing-item}
use Rattle.broadcast_core.proofs.buffer.shelf.Shelf.remove.Goals as goal

pub loop-stale-init : goal.loop-stale-init
loop-stale-init g c = (
  Clearing-start (same_listed g.M.Digest.Ord.cmp) c.args.list (named_lists (names_of c.self.inside.table) c.self.inside.lists.lists) (items_of c.self.inside.table) c.self.invariant.0.indexed,
  c.self.invariant.0.named,
  Adds-none (eq_by_cmp g.M.Digest.Ord.cmp) (messages_of (items_of c.self.inside.table)) c.self.inside.left.items c.self.inside.left.items refl,
  c.self.invariant.1,
  refl,
  refl,
)

pub loop-stale-preserved : goal.loop-stale-preserved
loop-stale-preserved g c =
    let same = same_listed g.M.Digest.Ord.cmp in
    let key_laws = number_laws in
    let laws = eq_by_cmp_equiv (g.met.M.Digest.Ord g.world.𝓛 g.world.𝓜 g.world.𝓡 (λ s x. x, λ x. x, λ x. x, λ x. x)).total in
    let mid = c.loop-stale.self-inside.table in
    let held =
    Clearing-item same key_laws laws c.args.list (named_lists (names_of c.self.inside.table) c.self.inside.lists.lists) c.loop-stale.self-inside.lists.lists c.evict.new.self.lists (names_of mid) (names_of c.leave.new.table)
    (items_of c.self.inside.table) (items_of mid) (items_of c.leave.new.table) c.loop-stale.invariant.1 c.in-Some.stale c.in-Some.ensures
    (quits-item g.M.Digest.Ord.cmp c.in-Some.stale.digest c.args.list mid c.leave.new.table c.leave.ensures.taken) c.loop-stale.invariant.0 in (
      held.0,
      held.1,
      Adds-fewer same.digest (messages_of (items_of c.self.inside.table)) (messages_of (items_of mid)) (messages_of (items_of c.leave.new.table)) c.self.inside.left.items c.loop-stale.self-inside.left.items c.leave.new.left.items
          c.loop-stale.invariant.2 c.leave.ensures.left c.loop-stale.invariant.0.fewer (takes-fewer mid c.leave.new.table c.leave.ensures.taken),
      c.leave.ensures.room,
      c.loop-stale.invariant.4,
      c.loop-stale.invariant.5,
    )

pub loop-stale-smaller : goal.loop-stale-smaller
loop-stale-smaller g c = evicts-shorter number_laws c.args.list c.in-Some.stale c.loop-stale.self-inside.lists.lists c.evict.new.self.lists c.in-Some.ensures

pub invariant_of-self : goal.invariant_of-self
invariant_of-self g c =
    let same = same_listed g.M.Digest.Ord.cmp in
    let key_laws = number_laws in
    let laws = eq_by_cmp_equiv (g.met.M.Digest.Ord g.world.𝓛 g.world.𝓜 g.world.𝓡 (λ s x. x, λ x. x, λ x. x, λ x. x)).total in
    let names = names_of c.loop-stale.self-inside.table in
    let items = items_of c.loop-stale.self-inside.table in
    let empty = items_at-named names same_number c.args.list c.loop-stale.self-inside.lists.lists ∙ ap (named_nodes names) c.in_default.ensures.0 in
    let named = rw (sym c.in_default.ensures.1) at c.loop-stale.invariant.1 in (
      record {
        indexed = (Clearing-end same key_laws laws c.args.list (named_lists (names_of c.self.inside.table) c.self.inside.lists.lists) (named_lists names c.loop-stale.self-inside.lists.lists) (named_lists names c.evict.new.self.lists)
            (items_of c.self.inside.table) items items c.loop-stale.invariant.0 (named_lists names c.remove.new.self.lists) empty (ap (named_lists names) c.in_default.ensures.1)
            (Removes-named names same_number c.args.list c.evict.new.self.lists c.remove.new.self.lists c.remove.ensures)).0;
        named = AllNamed-removes names same_number c.args.list c.evict.new.self.lists c.remove.new.self.lists c.remove.ensures named;
      },
      c.loop-stale.invariant.3,
    )

pub returns-clause-dropped : goal.returns-clause-dropped
returns-clause-dropped g c =
    let same = same_listed g.M.Digest.Ord.cmp in
    let key_laws = number_laws in
    let laws = eq_by_cmp_equiv (g.met.M.Digest.Ord g.world.𝓛 g.world.𝓜 g.world.𝓡 (λ s x. x, λ x. x, λ x. x, λ x. x)).total in
    let names = names_of c.loop-stale.self-inside.table in
    let items = items_of c.loop-stale.self-inside.table in
    let old = named_lists (names_of c.self.inside.table) c.self.inside.lists.lists in
    let gone = named_lists names c.remove.new.self.lists in
    let empty = items_at-named names same_number c.args.list c.loop-stale.self-inside.lists.lists ∙ ap (named_nodes names) c.in_default.ensures.0 in
    let removes = Removes-named names same_number c.args.list c.evict.new.self.lists c.remove.new.self.lists c.remove.ensures in
    let cleared = Clearing-end same key_laws laws c.args.list old (named_lists names c.loop-stale.self-inside.lists.lists) (named_lists names c.evict.new.self.lists)
    (items_of c.self.inside.table) items items c.loop-stale.invariant.0 gone empty (ap (named_lists names) c.in_default.ensures.1) removes in
    let distinct = distinct-digests same.key gone removes.distinct in
    rw (← c.self.view_is) (Drops-made same key_laws laws (c.args.list ∷ []) [] (stored_of old (items_of c.self.inside.table)) (stored_of gone items)
    (stored-cached same key_laws laws gone items cleared.0 distinct) distinct cleared.1)

pub returns-clause-sheds : goal.returns-clause-sheds
returns-clause-sheds g c = rw (← c.self.view_is) (record { deque_size = c.loop-stale.invariant.4; byte_budget = c.loop-stale.invariant.5; left = c.loop-stale.invariant.2 })

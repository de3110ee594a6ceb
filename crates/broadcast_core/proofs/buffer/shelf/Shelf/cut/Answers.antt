use Rattle.std.proofs.Common.{refl, ap, subst, sym, ◌≤◌}
use Rattle.entries.proofs.Slots.{number_laws}
use Rattle.std.specs.Cmp.{eq_by_cmp_equiv}
use Rattle.entries.specs.Overlaid.{same_number}
use Rattle.std.specs.Ordering.{eq_by_cmp}
use Rattle.entries.specs.Table.{items_of, messages_of}
use Rattle.broadcast_core.specs.Numbered.{same_listed}
use Rattle.broadcast_core.specs.Indexed.{names_of, named_lists}
use Rattle.broadcast_core.proofs.Placing.{distinct-digests}
use Rattle.broadcast_core.proofs.Dropping.{evicts-shorter}
use Rattle.broadcast_core.proofs.Shortening.{Shortening-start, Cuts-made}
use Rattle.broadcast_core.proofs.Naming.{bytes_at-named}
use Rattle.broadcast_core.proofs.Parting.{Adds-none, Adds-fewer, takes-fewer}
use Rattle.broadcast_core.proofs.Leaving.{quits-item, Shortening-item}
use Rattle.broadcast_core.proofs.buffer.shelf.Shelf.cut.Goals as goal

pub loop-stale-init : goal.loop-stale-init
loop-stale-init g c = (
  Shortening-start (same_listed g.M.Digest.Ord.cmp) c.args.list c.self.inside.byte_budget (named_lists (names_of c.self.inside.table) c.self.inside.lists.lists) (items_of c.self.inside.table) c.self.invariant.0.indexed,
  c.self.invariant.0.named,
  Adds-none (eq_by_cmp g.M.Digest.Ord.cmp) (messages_of (items_of c.self.inside.table)) c.self.inside.left.items c.self.inside.left.items refl,
  c.self.invariant.1,
  refl,
  refl,
)

pub loop-stale-preserved : goal.loop-stale-preserved
loop-stale-preserved g c =
    let same = same_listed g.M.Digest.Ord.cmp in
    let key_laws = number_laws in
    let laws = eq_by_cmp_equiv (g.met.M.Digest.Ord g.world.𝓛 g.world.𝓜 g.world.𝓡 (λ s x. x, λ x. x, λ x. x, λ x. x)).total in
    let mid = c.loop-stale.self-inside.table in
    let held =
    Shortening-item same key_laws laws c.args.list (named_lists (names_of c.self.inside.table) c.self.inside.lists.lists) c.loop-stale.self-inside.lists.lists c.evict_over.new.self.lists (names_of mid) (names_of c.leave.new.table)
    (items_of c.self.inside.table) (items_of mid) (items_of c.leave.new.table) c.loop-stale.invariant.1 c.in-Some.stale c.in-Some.ensures.1
    (quits-item g.M.Digest.Ord.cmp c.in-Some.stale.digest c.args.list mid c.leave.new.table c.leave.ensures.taken) c.self.inside.byte_budget c.loop-stale.invariant.0 (rw c.loop-stale.invariant.5 at c.in-Some.ensures.0) in (
      held.0,
      held.1,
      Adds-fewer same.digest (messages_of (items_of c.self.inside.table)) (messages_of (items_of mid)) (messages_of (items_of c.leave.new.table)) c.self.inside.left.items c.loop-stale.self-inside.left.items c.leave.new.left.items
          c.loop-stale.invariant.2 c.leave.ensures.left c.loop-stale.invariant.0.clearing.fewer (takes-fewer mid c.leave.new.table c.leave.ensures.taken),
      c.leave.ensures.room,
      c.loop-stale.invariant.4,
      c.loop-stale.invariant.5,
    )

pub loop-stale-smaller : goal.loop-stale-smaller
loop-stale-smaller g c = evicts-shorter number_laws c.args.list c.in-Some.stale c.loop-stale.self-inside.lists.lists c.evict_over.new.self.lists c.in-Some.ensures.1

pub invariant_of-self : goal.invariant_of-self
invariant_of-self g c = (rw c.in_default.ensures.1 (record { indexed = c.loop-stale.invariant.0.clearing.indexed; named = c.loop-stale.invariant.1 }), c.loop-stale.invariant.3)

pub returns-clause-cut : goal.returns-clause-cut
returns-clause-cut g c =
    let same = same_listed g.M.Digest.Ord.cmp in
    let key_laws = number_laws in
    let laws = eq_by_cmp_equiv (g.met.M.Digest.Ord g.world.𝓛 g.world.𝓜 g.world.𝓡 (λ s x. x, λ x. x, λ x. x, λ x. x)).total in
    let names = names_of c.loop-stale.self-inside.table in
    let lists = c.loop-stale.self-inside.lists.lists in
    let distinct = distinct-digests same.key (named_lists names lists) c.loop-stale.invariant.0.clearing.indexed.apart in
    let fits = subst (λ n. n ≤ c.self.inside.byte_budget) (sym (bytes_at-named names same_number c.args.list lists c.loop-stale.invariant.1)) (rw c.loop-stale.invariant.5 at c.in_default.ensures.0) in
    rw (← c.self.view_is) (Cuts-made same key_laws laws c.args.list c.self.inside.byte_budget (named_lists (names_of c.self.inside.table) c.self.inside.lists.lists) (named_lists names lists) (named_lists names c.evict_over.new.self.lists)
    (items_of c.self.inside.table) (items_of c.loop-stale.self-inside.table) (items_of c.loop-stale.self-inside.table) c.loop-stale.invariant.0 fits (ap (named_lists names) c.in_default.ensures.1) distinct)

pub returns-clause-sheds : goal.returns-clause-sheds
returns-clause-sheds g c = rw (← c.self.view_is) (record { deque_size = c.loop-stale.invariant.4; byte_budget = c.loop-stale.invariant.5; left = c.loop-stale.invariant.2 })

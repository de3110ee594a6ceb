use Rattle.entries.proofs.Slots.{number_laws}
use Rattle.std.proofs.Common.{refl, ap, ◌∙◌, arith}
use Rattle.std.specs.Prelude.{is_some}
use Rattle.std.specs.Map.{lookup}
use Rattle.std.specs.Cmp.{eq_by_cmp_equiv}
use Rattle.entries.specs.Table.{items_of}
use Rattle.broadcast_core.specs.Numbered.{same_listed}
use Rattle.broadcast_core.specs.Indexed.{names_of, named_lists, shelved_of}
use Rattle.std.specs.Ordering.{eq_by_cmp}
use Rattle.broadcast_core.proofs.Parting.{Sheds-none, still-there, Adds-cut}
use Rattle.broadcast_core.proofs.Entering.{not-entered, entered-now}
use Rattle.broadcast_core.proofs.Placing.{distinct-digests}
use Rattle.broadcast_core.proofs.Filling.{Stores-nowhere}
use Rattle.broadcast_core.proofs.Shortening.{Stores-fits, Stores-cut}
use Rattle.broadcast_core.proofs.buffer.shelf.Shelf.take.Goals as goal

pub returns-then-self-eq0-clause-ok : goal.returns-then-self-eq0-clause-ok
returns-then-self-eq0-clause-ok g c =
    let same = same_listed g.M.Digest.Ord.cmp in
    let laws = eq_by_cmp_equiv (g.met.M.Digest.Ord g.world.𝓛 g.world.𝓜 g.world.𝓡 (λ s x. x, λ x. x, λ x. x, λ x. x)).total in
    let lists = named_lists (names_of c.self.inside.table) c.self.inside.lists.lists in
    let all = shelved_of c.self.inside.lists.lists c.self.inside.table in
    let fits = rw (← c.self.view_is) at c.requires.size in
    let room = rw (← c.self.view_is) at c.requires.bytes in
    let distinct = distinct-digests same.key lists c.self.invariant.0.indexed.apart in
    rw (← c.self.view_is) (Stores-fits same number_laws c.args.list c.args.message.now _ c.self.inside.byte_budget all all all
    (Stores-nowhere same number_laws laws c.args.list c.args.message.now c.args.charge c.self.inside.deque_size lists lists (items_of c.self.inside.table) c.self.invariant.0.indexed distinct distinct c.if-self-eq0.true fits refl) room)

pub returns-then-self-eq0-clause-sheds : goal.returns-then-self-eq0-clause-sheds
returns-then-self-eq0-clause-sheds g c = Sheds-none (eq_by_cmp g.M.Digest.Ord.cmp) c.args.self.now

pub returns-then-self-eq0-clause-entered : goal.returns-then-self-eq0-clause-entered
returns-then-self-eq0-clause-entered g c = not-entered c.unchanged.result.entered (is_some (lookup (eq_by_cmp g.M.Digest.Ord.cmp c.args.message.now.digest) c.args.self.now.stored.messages)) (ap (λ l. l.entered) c.unchanged.ensures)

pub returns-else-bytes-from-clause-entered : goal.returns-else-bytes-from-clause-entered
returns-else-bytes-from-clause-entered g c = entered-now c.in_ok-listing.listing.entered _ _ c.in_ok-listing.ensures.entered c.in_ok-listing.ensures.there

pub returns-then-bytes-from-clause-entered : goal.returns-then-bytes-from-clause-entered
returns-then-bytes-from-clause-entered g c =
    let same = same_listed g.M.Digest.Ord.cmp in
    let laws = eq_by_cmp_equiv (g.met.M.Digest.Ord g.world.𝓛 g.world.𝓜 g.world.𝓡 (λ s x. x, λ x. x, λ x. x, λ x. x)).total in
    let old = c.args.self.now in
    let mid = c.insert.new.self in
    let new = c.cut.new.self in
    entered-now c.in_ok-listing.listing.entered _ _ c.in_ok-listing.ensures.entered
    (still-there same number_laws laws c.args.list c.args.message.now c.args.charge old.deque_size old.byte_budget _ old.stored mid.stored new.stored old.left mid.left new.left
    c.in_ok-listing.ensures.ok (rw c.insert.ensures.sheds.byte_budget at c.cut.ensures.cut) (omega (arith, c.if-self-eq0.false, ap (λ s. s.deque_size) c.self.view_is)) c.requires.affordable c.in_ok-listing.ensures.there)

pub insert-requires-clause-room : goal.insert-requires-clause-room
insert-requires-clause-room g c κs within = omega (arith, c.requires.bytes, ap (λ s. s.byte_budget) c.self.view_is, c.self.ranges.1.1.1.0.1)

pub returns-then-bytes-from-clause-ok : goal.returns-then-bytes-from-clause-ok
returns-then-bytes-from-clause-ok g c =
    let same = same_listed g.M.Digest.Ord.cmp in
    Stores-cut same number_laws c.args.list c.args.message.now _ c.args.self.now.byte_budget c.args.self.now.stored c.insert.new.self.stored c.cut.new.self.stored c.in_ok-listing.ensures.ok (rw c.insert.ensures.sheds.byte_budget at c.cut.ensures.cut)

pub returns-else-bytes-from-clause-ok : goal.returns-else-bytes-from-clause-ok
returns-else-bytes-from-clause-ok g c =
    let same = same_listed g.M.Digest.Ord.cmp in
    Stores-fits same number_laws c.args.list c.args.message.now _ c.args.self.now.byte_budget c.args.self.now.stored c.insert.new.self.stored c.insert.new.self.stored c.in_ok-listing.ensures.ok
    (omega (arith, c.in_ok-listing.ensures.bytes, c.if-bytes-from.false, c.from.ensures, ap (λ s. s.byte_budget) c.self-2.view_is, c.insert.ensures.sheds.byte_budget))

pub returns-then-bytes-from-clause-sheds : goal.returns-then-bytes-from-clause-sheds
returns-then-bytes-from-clause-sheds g c =
    let same = same_listed g.M.Digest.Ord.cmp in
    let laws = eq_by_cmp_equiv (g.met.M.Digest.Ord g.world.𝓛 g.world.𝓜 g.world.𝓡 (λ s x. x, λ x. x, λ x. x, λ x. x)).total in
    let old = c.args.self.now in
    let mid = c.insert.new.self in
    let new = c.cut.new.self in
    record {
      deque_size = c.cut.ensures.sheds.deque_size ∙ c.insert.ensures.sheds.deque_size;
      byte_budget = c.cut.ensures.sheds.byte_budget ∙ c.insert.ensures.sheds.byte_budget;
      left = Adds-cut same number_laws laws c.args.list c.args.message.now c.args.charge old.deque_size old.byte_budget _ old.stored mid.stored new.stored old.left mid.left new.left
          c.in_ok-listing.ensures.ok (rw c.insert.ensures.sheds.byte_budget at c.cut.ensures.cut) (omega (arith, c.if-self-eq0.false, ap (λ s. s.deque_size) c.self.view_is)) c.requires.affordable c.in_ok-listing.ensures.there c.insert.ensures.named
          c.insert.ensures.sheds.left c.cut.ensures.sheds.left;
    }

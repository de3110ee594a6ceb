use Rattle.entries.proofs.Slots.{number_laws}
use Rattle.entries.specs.Overlaid.{same_number}
use Rattle.entries.specs.Store.{values_of, items_at as nodes_at}
use Rattle.entries.specs.Table.{items_of, messages_of}
use Rattle.std.proofs.Common.{Result, Ok, Err, OnErr, inl, inr, refl, ◌≡◌, ◌≤◌, ◌<◌, ◌∷◌, true, take, length, sym, ap, subst, ◌∙◌, arith}
use Rattle.std.specs.Prelude.{is_some, not, ◌^◌}
use Rattle.std.specs.Map.{lookup}
use Rattle.std.specs.Cmp.{eq_by_cmp_equiv}
use Rattle.broadcast_core.specs.Content.{same_charged, without, at_charge, items_at, bytes_of, outcome_of}
use Rattle.broadcast_core.specs.Numbered.{same_listed}
use Rattle.broadcast_core.specs.Indexed.{names_of, named_lists, IsShelved, shelved_of, Pushes}
use Rattle.broadcast_core.proofs.Placing.{is_some-digests, length-digests}
use Rattle.broadcast_core.proofs.Naming.{is_some-named, bytes-listed}
use Rattle.broadcast_core.proofs.Leaving.{quits-item, pushes-item}
use Rattle.broadcast_core.proofs.Shelving.{Shelved-moved, Shelved-pushed, Shelved-refused}
use Rattle.broadcast_core.proofs.Taking.{among-names}
use Rattle.std.specs.Ordering.{eq_by_cmp}
use Rattle.broadcast_core.specs.Left.{HasRoom}
use Rattle.broadcast_core.specs.Stored.{Stores, Stored, Sheds}
use Rattle.broadcast_core.proofs.Indexing.{cond_true}
use Rattle.broadcast_core.proofs.Parting.{Adds-none, Sheds-none, Adds-joined, Adds-entered, pushes-fewer, front-there, room-wider}
use Rattle.broadcast_core.proofs.Holding.{among-indexed, cached-there, no_duplicate, Holds-joined, item-named}
use Rattle.broadcast_core.proofs.buffer.shelf.Shelf.insert.Given.{Over}
use Rattle.broadcast_core.proofs.buffer.shelf.Shelf.insert.Goals as goal
use Rattle.broadcast_core.proofs.buffer.shelf.Shelf.insert.Goals.{After-from_residual-in_err-bytes-in-None, in-Some, in-None+in_ok-bytes-in-None}

pub invariant_of-self : goal.invariant_of-self
invariant_of-self g c = rw c.in_err-found.ensures.err c.self.invariant

pub returns-in_err-found-clause-succeeds_on_duplicate : goal.returns-in_err-found-clause-succeeds_on_duplicate
returns-in_err-found-clause-succeeds_on_duplicate g c =
    let same = same_listed g.M.Digest.Ord.cmp in
    let laws = eq_by_cmp_equiv (g.met.M.Digest.Ord g.world.𝓛 g.world.𝓜 g.world.𝓡 (λ s x. x, λ x. x, λ x. x, λ x. x)).total in
    let has = among-indexed same number_laws laws (named_lists (names_of c.self.inside.table) c.self.inside.lists.lists) (items_of c.self.inside.table) c.self.invariant.0.indexed c.args.message.now.digest c.args.list in
    rw (← c.self.view_is) (no_duplicate _ _ (among-names same.digest c.args.message.now.digest _ ∙ has) c.in_err-found.ensures.fails_for_new_places)

pub promote-bytes-requires : goal.promote-bytes-requires
promote-bytes-requires g c =
    let room = subst (λ s. bytes_of (items_at same_number c.args.list s.stored.lists) < 2 ^ 64) (sym c.self.view_is) c.requires.room in
    let is = bytes-listed (names_of c.self.inside.table) same_number c.args.list c.self.inside.lists.lists c.self.invariant.0.named in
    omega (arith, room, is, c.ranges.charge.fits)

pub push-requires-clause-room : goal.push-requires-clause-room
push-requires-clause-room g c κs within =
    let room = subst (λ s. bytes_of (items_at same_number c.args.list s.stored.lists) < 2 ^ 64) (sym c.self.view_is) c.requires.room in
    let is = bytes-listed (names_of c.self.inside.table) same_number c.args.list c.self.inside.lists.lists c.self.invariant.0.named in
    omega (arith, room, is, c.ranges.charge.fits)

pub push-requires-clause-there : goal.push-requires-clause-there
push-requires-clause-there g c κs within =
    let names = names_of c.self.inside.table in
    sym (is_some-digests same_number c.args.list (named_lists names c.self.inside.lists.lists) ∙ is_some-named names same_number c.args.list c.self.inside.lists.lists) ∙ (rw (← c.self.view_is) at c.requires.there)

-- what is left where the lists refuse the item: the invariant, and all that was stored
refused : (g : Over) (c : After-from_residual-in_err-bytes-in-None g) → let same = same_listed g.M.Digest.Ord.cmp in let new = c.push.new in
    IsShelved same (names_of new.table) new.lists.lists (items_of new.table) × (shelved_of new.lists.lists new.table ≡ shelved_of c.self.inside.lists.lists c.self.inside.table)
refused g c =
    let order = (g.met.M.Digest.Ord g.world.𝓛 g.world.𝓜 g.world.𝓡 (λ s x. x, λ x. x, λ x. x, λ x. x)).total in
    let same = same_listed g.M.Digest.Ord.cmp in
    let laws = eq_by_cmp_equiv order in
    let none = sym c.in_ok-found.ensures.place ∙ c.in-None.is in
    let quits = quits-item g.M.Digest.Ord.cmp c.in_ok-found.found.item c.args.list c.insert.new.self c.push.new.table c.in_err-bytes-in-None.ensures.err in
    rw c.in_err-bytes-in-None.ensures.stays (Shelved-refused number_laws order c.self.invariant.0 c.in_ok-found.ensures.names (item-named g.M.Digest.Ord.cmp (λ m. m.digest) c.args.message.now.digest c.insert.new.self c.in_ok-found.found.item g.met.M.Digestible.exact c.in_ok-found.ensures.item) none (Holds-joined same number_laws laws _ g.M.Digest.Ord.cmp c.args.list c.args.message.now _ (items_of c.self.inside.table) (items_of c.insert.new.self) (λ copy is. is) (c.in_ok-found.ensures.joined c.in-None.is)) quits)

pub invariant_of-self-in_err-bytes-in-None : goal.invariant_of-self-in_err-bytes-in-None
invariant_of-self-in_err-bytes-in-None g c = (
  (refused g c).0,
  subst (λ (s : Stored _ _ _). HasRoom (length s.messages) c.push.new.left) (sym (refused g c).1) (room-wider _ c.self.inside.left c.push.new.left c.in_err-bytes-in-None.ensures.left_stays c.self.invariant.1),
)

on_err : {A E Q : Type 0} (r : Result A E) → Q → OnErr r Q
on_err (Ok a) q = tt
on_err (Err e) q = q

-- nothing changes where the lists refuse the item
kept : (g : Over) (c : After-from_residual-in_err-bytes-in-None g) → record { deque_size = c.self.inside.deque_size; byte_budget = c.self.inside.byte_budget; stored = shelved_of c.push.new.lists.lists c.push.new.table; left = c.push.new.left.items } ≡ c.args.self.now
kept g c = rw ((refused g c).1, c.in_err-bytes-in-None.ensures.left_stays.0) c.self.view_is

pub returns-in_err-bytes-in-None-clause-err : goal.returns-in_err-bytes-in-None-clause-err
returns-in_err-bytes-in-None-clause-err g c = on_err _ (kept g c)

pub returns-in_err-bytes-in-None-clause-succeeds_on_duplicate : goal.returns-in_err-bytes-in-None-clause-succeeds_on_duplicate
returns-in_err-bytes-in-None-clause-succeeds_on_duplicate g c =
    let same = same_listed g.M.Digest.Ord.cmp in
    let laws = eq_by_cmp_equiv (g.met.M.Digest.Ord g.world.𝓛 g.world.𝓜 g.world.𝓡 (λ s x. x, λ x. x, λ x. x, λ x. x)).total in
    let has = among-indexed same number_laws laws (named_lists (names_of c.self.inside.table) c.self.inside.lists.lists) (items_of c.self.inside.table) c.self.invariant.0.indexed c.args.message.now.digest c.args.list in
    rw (← c.self.view_is) (no_duplicate _ _ (among-names same.digest c.args.message.now.digest _ ∙ has) (sym c.in_ok-found.ensures.place ∙ c.in-None.is))

pub returns-in_err-found-clause-sheds : goal.returns-in_err-found-clause-sheds
returns-in_err-found-clause-sheds g c = rw (c.in_err-found.ensures.err, c.self.view_is) (Sheds-none (eq_by_cmp g.M.Digest.Ord.cmp) c.args.self.now)

pub returns-in_err-found-clause-named : goal.returns-in_err-found-clause-named
returns-in_err-found-clause-named g c = rw c.in_err-found.ensures.err c.self.invariant.0.indexed.named

pub returns-in_err-bytes-in-None-clause-sheds : goal.returns-in_err-bytes-in-None-clause-sheds
returns-in_err-bytes-in-None-clause-sheds g c = rw (kept g c) (Sheds-none (eq_by_cmp g.M.Digest.Ord.cmp) c.args.self.now)

pub returns-in_err-bytes-in-None-clause-named : goal.returns-in_err-bytes-in-None-clause-named
returns-in_err-bytes-in-None-clause-named g c = (refused g c).0.indexed.named

-- what both arms leave: the invariant, and the taking
made : (g : Over) (c : goal.After-outcome g) → let same = same_listed g.M.Digest.Ord.cmp in let now = c.match-found.self-inside in let x = at_charge c.args.message.now.digest c.args.charge in
    IsShelved same (names_of now.table) now.lists.lists (items_of now.table)
    × Stores same c.args.list c.args.message.now (take c.self.inside.deque_size (x ∷ without (same_charged same.digest) x (items_at same.key c.args.list (shelved_of c.self.inside.lists.lists c.self.inside.table).lists)))
    (shelved_of c.self.inside.lists.lists c.self.inside.table) (shelved_of now.lists.lists now.table)
made g c =
    let same = same_listed g.M.Digest.Ord.cmp in
    let laws = eq_by_cmp_equiv (g.met.M.Digest.Ord g.world.𝓛 g.world.𝓜 g.world.𝓡 (λ s x. x, λ x. x, λ x. x, λ x. x)).total in
    let names = names_of c.self.inside.table in
    let items = items_of c.self.inside.table in
    let fits = subst (λ s. length (items_at same.key c.args.list s.stored.lists) ≤ s.deque_size) (sym c.self.view_is) c.requires.size in
    elim c.match-found.branch [
      | in-Some w ↦
          let stays = c.in_ok-found.ensures.stays (ap is_some w.in-Some.is) in
          let item = rw stays at (item-named g.M.Digest.Ord.cmp (λ m. m.digest) c.args.message.now.digest c.insert.new.self c.in_ok-found.found.item g.met.M.Digestible.exact c.in_ok-found.ensures.item) in
          rw (w.self-inside-is, stays) (Shelved-moved same number_laws laws c.args.list c.args.message.now c.args.charge c.self.inside.deque_size names c.self.inside.lists.lists w.promote-bytes.new.self.lists items c.self.invariant.0
          w.in-Some.place c.in_ok-found.found.item item w.promote-bytes.ensures.apart (sym c.in_ok-found.ensures.place ∙ w.in-Some.is) w.promote-bytes.ensures.moved fits)
      | in-None+in_ok-bytes-in-None w ↦
          let none = sym c.in_ok-found.ensures.place ∙ w.in-None.is in
          let pushes = pushes-item g.M.Digest.Ord.cmp c.args.list _ c.self.inside.deque_size c.self.inside.lists.lists w.push.new.lists.lists c.insert.new.self w.push.new.table (subst (λ i. Pushes g.M.Digest.Ord.cmp c.args.list (i, at_charge c.in_ok-found.found.item c.args.charge) c.self.inside.deque_size c.self.inside.lists.lists w.push.new.lists.lists c.insert.new.self w.push.new.table)
          (sym c.vacant.ensures) w.in_ok-bytes-in-None.ensures.ok) in
          rw w.self-inside-is (Shelved-pushed same number_laws laws c.args.list c.args.message.now c.args.charge c.self.inside.deque_size names c.self.inside.lists.lists w.push.new.lists.lists items c.self.invariant.0
          c.in_ok-found.ensures.names (item-named g.M.Digest.Ord.cmp (λ m. m.digest) c.args.message.now.digest c.insert.new.self c.in_ok-found.found.item g.met.M.Digestible.exact c.in_ok-found.ensures.item) none (Holds-joined same number_laws laws _ g.M.Digest.Ord.cmp c.args.list c.args.message.now _ (items_of c.self.inside.table) (items_of c.insert.new.self) (λ copy is. is) (c.in_ok-found.ensures.joined w.in-None.is)) c.in_ok-found.ensures.tabled.placed w.push.ensures.tabled.placed (omega (arith, fits, length-digests same.key c.args.list (named_lists names c.self.inside.lists.lists))) pushes)
    ]

-- there is room for each message that is there
room : (g : Over) (c : goal.After-outcome g) → HasRoom (length (messages_of (items_of c.match-found.self-inside.table))) c.match-found.self-inside.left
room g c = elim c.match-found.branch [
  | in-Some w ↦ rw (w.self-inside-is, c.in_ok-found.ensures.stays (ap is_some w.in-Some.is)) c.self.invariant.1
  | in-None+in_ok-bytes-in-None w ↦ rw w.self-inside-is w.in_ok-bytes-in-None.ensures.left_room
]

pub invariant_of-self-2 : goal.invariant_of-self-2
invariant_of-self-2 g c = ((made g c).0, room g c)

pub returns-clause-outcome : goal.returns-clause-outcome
returns-clause-outcome g c =
    let same = same_listed g.M.Digest.Ord.cmp in
    let laws = eq_by_cmp_equiv (g.met.M.Digest.Ord g.world.𝓛 g.world.𝓜 g.world.𝓡 (λ s x. x, λ x. x, λ x. x, λ x. x)).total in
    let has = among-indexed same number_laws laws (named_lists (names_of c.self.inside.table) c.self.inside.lists.lists) (items_of c.self.inside.table) c.self.invariant.0.indexed c.args.message.now.digest c.args.list in
    rw (← c.self.view_is) (c.outcome.ensures ∙ ap (outcome_of true true) (ap is_some c.in_ok-found.ensures.place ∙ sym has))

pub returns-clause-ok : goal.returns-clause-ok
returns-clause-ok g c = rw (← c.self.view_is) (made g c).1

pub returns-clause-cached : goal.returns-clause-cached
returns-clause-cached g c = rw (← c.self.view_is) (c.in_ok-found.ensures.there ∙ sym (cached-there (eq_by_cmp g.M.Digest.Ord.cmp c.args.message.now.digest) (items_of c.self.inside.table)))

pub returns-clause-entered : goal.returns-clause-entered
returns-clause-entered g c = rw (← c.self.view_is) (ap not (c.in_ok-found.ensures.there ∙ sym (cached-there (eq_by_cmp g.M.Digest.Ord.cmp c.args.message.now.digest) (items_of c.self.inside.table))))

pub returns-clause-bytes : goal.returns-clause-bytes
returns-clause-bytes g c =
    let invariant = (made g c).0 in
    let names = names_of c.match-found.self-inside.table in
    let lists = c.match-found.self-inside.lists.lists in
    let is = bytes-listed names same_number c.args.list lists invariant.named in
    elim c.match-found.branch [
      | in-Some w ↦ w.bytes-is ∙ w.promote-bytes.ensures.bytes ∙ sym (ap (λ l. bytes_of (values_of (nodes_at same_number c.args.list l.lists.lists))) w.self-inside-is) ∙ sym is
      | in-None+in_ok-bytes-in-None w ↦ w.bytes-is ∙ w.in_ok-bytes-in-None.ensures.bytes ∙ sym (ap (λ l. bytes_of (values_of (nodes_at same_number c.args.list l.lists.lists))) w.self-inside-is) ∙ sym is
    ]

-- the message that was taken is there
there : (g : Over) (c : goal.After-outcome g) → is_some (lookup (eq_by_cmp g.M.Digest.Ord.cmp c.args.message.now.digest) (messages_of (items_of c.match-found.self-inside.table))) ≡ true
there g c =
    let same = same_listed g.M.Digest.Ord.cmp in
    let laws = eq_by_cmp_equiv (g.met.M.Digest.Ord g.world.𝓛 g.world.𝓜 g.world.𝓡 (λ s x. x, λ x. x, λ x. x, λ x. x)).total in
    let now = c.match-found.self-inside in
    let made_is = made g c in
    front-there same number_laws laws c.args.list c.args.message.now c.args.charge c.self.inside.deque_size _ (named_lists (names_of now.table) now.lists.lists) (items_of now.table) made_is.0.indexed (rw (← c.self.view_is) at c.requires.some)
    (made_is.1.put.lists c.args.list ∙ cond_true (same.key c.args.list c.args.list) _ _ (number_laws.refl c.args.list))

pub returns-clause-there : goal.returns-clause-there
returns-clause-there g c = there g c

pub returns-clause-named : goal.returns-clause-named
returns-clause-named g c = (made g c).0.indexed.named

-- what left is said
sheds : (g : Over) (c : goal.After-outcome g) → Sheds (eq_by_cmp g.M.Digest.Ord.cmp)
    (record { deque_size = c.self.inside.deque_size; byte_budget = c.self.inside.byte_budget; stored = shelved_of c.self.inside.lists.lists c.self.inside.table; left = c.self.inside.left.items })
    (record { deque_size = c.match-found.self-inside.deque_size; byte_budget = c.match-found.self-inside.byte_budget; stored = shelved_of c.match-found.self-inside.lists.lists c.match-found.self-inside.table; left = c.match-found.self-inside.left.items })
sheds g c =
    let same = same_listed g.M.Digest.Ord.cmp in
    let laws = eq_by_cmp_equiv (g.met.M.Digest.Ord g.world.𝓛 g.world.𝓜 g.world.𝓡 (λ s x. x, λ x. x, λ x. x, λ x. x)).total in
    let old = messages_of (items_of c.self.inside.table) in
    let left = c.self.inside.left.items in
    elim c.match-found.branch [
      | in-Some w ↦ rw (w.self-inside-is, c.in_ok-found.ensures.stays (ap is_some w.in-Some.is)) (record { deque_size = refl; byte_budget = refl; left = Adds-none same.digest old left left refl })
      | in-None+in_ok-bytes-in-None w ↦
          let mid = messages_of (items_of c.insert.new.self) in
          let joined = c.in_ok-found.ensures.joined w.in-None.is in
          let holds = Holds-joined same number_laws laws _ g.M.Digest.Ord.cmp c.args.list c.args.message.now _ (items_of c.self.inside.table) (items_of c.insert.new.self) (λ copy is. is) joined in
          let entered = Adds-joined c.args.message.now c.args.list _ (items_of c.self.inside.table) (items_of c.insert.new.self) left left joined refl in
          rw w.self-inside-is (record {
            deque_size = refl;
            byte_budget = refl;
            left = Adds-entered laws c.args.message.now old mid (messages_of (items_of w.push.new.table)) left left w.push.new.left.items entered w.in_ok-bytes-in-None.ensures.left
                (λ d y h. elim (holds.origin d y h) [ inl was ↦ inl was | inr one ↦ inr one.2 ])
                (pushes-fewer c.insert.new.self w.push.new.table w.in_ok-bytes-in-None.ensures.ok)
                (rw w.self-inside-is at (there g c));
          })
    ]

pub returns-clause-sheds : goal.returns-clause-sheds
returns-clause-sheds g c = rw (← c.self.view_is) (sheds g c)

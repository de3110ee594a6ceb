use Rattle.std.proofs.Common.{◌∷◌, [], refl, sym}
use Rattle.std.specs.Ordering.{eq_by_cmp}
use Rattle.entries.specs.Table.{items_of, messages_of}
use Rattle.broadcast_core.proofs.Parting.{parts-is, Adds-none, room-one, room-pushed}
use Rattle.broadcast_core.proofs.buffer.left.leave.Goals as goal

pub push-requires-after_bounds : goal.push-requires-after_bounds
push-requires-after_bounds g c κs within =
    let order = (g.met.M.Digest.Ord g.world.𝓛 g.world.𝓜 g.world.𝓡 (λ s x. x, λ x. x, λ x. x, λ x. x)).total in
    let parts = parts-is order c.args.item c.args.list c.args.table.now c.remove.new.self c.len-names.ensures.tabled c.len-names.ensures.distinct c.in-Some.ensures.taken in
    room-one _ _ c.args.left.now (parts.fewer c.in-Some.message (sym c.in-Some.ensures.left)) c.requires

pub returns-in-Some-clause-left : goal.returns-in-Some-clause-left
returns-in-Some-clause-left g c =
    let order = (g.met.M.Digest.Ord g.world.𝓛 g.world.𝓜 g.world.𝓡 (λ s x. x, λ x. x, λ x. x, λ x. x)).total in
    let parts = rw (← c.in-Some.ensures.left) at (parts-is order c.args.item c.args.list c.args.table.now c.remove.new.self c.len-names.ensures.tabled c.len-names.ensures.distinct c.in-Some.ensures.taken) in
    record { gone = c.in-Some.message ∷ []; added = c.push.ensures.added; each = parts.each }

pub returns-in-Some-clause-room : goal.returns-in-Some-clause-room
returns-in-Some-clause-room g c =
    let order = (g.met.M.Digest.Ord g.world.𝓛 g.world.𝓜 g.world.𝓡 (λ s x. x, λ x. x, λ x. x, λ x. x)).total in
    let parts = parts-is order c.args.item c.args.list c.args.table.now c.remove.new.self c.len-names.ensures.tabled c.len-names.ensures.distinct c.in-Some.ensures.taken in
    room-pushed _ _ c.in-Some.message c.args.left.now c.push.new.self c.push.ensures.added c.push.ensures.room (parts.fewer c.in-Some.message (sym c.in-Some.ensures.left)) c.requires

pub returns-in_default-clause-left : goal.returns-in_default-clause-left
returns-in_default-clause-left g c =
    let order = (g.met.M.Digest.Ord g.world.𝓛 g.world.𝓜 g.world.𝓡 (λ s x. x, λ x. x, λ x. x, λ x. x)).total in
    let parts = parts-is order c.args.item c.args.list c.args.table.now c.remove.new.self c.len-names.ensures.tabled c.len-names.ensures.distinct c.in_default.ensures.taken in
    rw (parts.stays (sym c.in_default.ensures.left)) (Adds-none (eq_by_cmp g.M.Digest.Ord.cmp) (messages_of (items_of c.args.table.now)) c.args.left.now.items c.args.left.now.items refl)

pub returns-in_default-clause-room : goal.returns-in_default-clause-room
returns-in_default-clause-room g c =
    let order = (g.met.M.Digest.Ord g.world.𝓛 g.world.𝓜 g.world.𝓡 (λ s x. x, λ x. x, λ x. x, λ x. x)).total in
    let parts = parts-is order c.args.item c.args.list c.args.table.now c.remove.new.self c.len-names.ensures.tabled c.len-names.ensures.distinct c.in_default.ensures.taken in
    rw (parts.stays (sym c.in_default.ensures.left)) c.requires

use Rattle.std.proofs.Common.{sym}
use Rattle.broadcast_core.specs.Waiters.{is_gone}
use Rattle.broadcast_core.proofs.WaitersLemmas.{digests_apart}
use Rattle.broadcast_core.proofs.Cleaning.{Cleaning-start, Cleaning-step, smaller, all_kept, all_removed}
use Rattle.broadcast_core.proofs.buffer.waiters.Waiters.cleanup.Goals as goal

pub loop-digest-init : goal.loop-digest-init
loop-digest-init g c = Cleaning-start g.met.D.Ord.total (is_gone g.W.Ticketed.ticket_of c.new-gone.result) c.self.inside.by_digest.entries c.self.invariant

pub loop-digest-preserved : goal.loop-digest-preserved
loop-digest-preserved g c =
    let test = is_gone g.W.Ticketed.ticket_of c.new-gone.result in
    let dropped = c.drop_gone-dropped.ensures in
    rw c.saturating_add-removed.ensures (Cleaning-step g.met.D.Ord.total test c.self.inside.by_digest.entries c.loop-digest.self-inside.by_digest.entries c.drop_gone-dropped.new.by_digest.entries
    c.loop-digest.after c.loop-digest.removed c.drop_gone-dropped.result c.in-Some.digest c.loop-digest.invariant (sym c.in-Some.ensures) dropped.awaited dropped.lists dropped.removed)

pub loop-digest-smaller : goal.loop-digest-smaller
loop-digest-smaller g c =
    let test = is_gone g.W.Ticketed.ticket_of c.new-gone.result in
    let dropped = c.drop_gone-dropped.ensures in
    smaller g.met.D.Ord.total test c.self.inside.by_digest.entries c.loop-digest.self-inside.by_digest.entries c.drop_gone-dropped.new.by_digest.entries
    c.loop-digest.after c.loop-digest.removed c.drop_gone-dropped.result c.in-Some.digest c.loop-digest.invariant (sym c.in-Some.ensures) dropped.dropped dropped.removed

pub returns-clause-kept : goal.returns-clause-kept
returns-clause-kept g c =
    rw (← c.self.view_is, ← c.new-gone.ensures) (all_kept g.met.D.Ord.total (is_gone g.W.Ticketed.ticket_of c.new-gone.result) c.self.inside.by_digest.entries c.loop-digest.self-inside.by_digest.entries
    c.loop-digest.after c.loop-digest.removed c.loop-digest.invariant (sym c.in_default.ensures))

pub returns-clause-removed : goal.returns-clause-removed
returns-clause-removed g c =
    rw (← c.self.view_is, ← c.new-gone.ensures) (all_removed g.met.D.Ord.total (is_gone g.W.Ticketed.ticket_of c.new-gone.result) c.self.inside.by_digest.entries c.loop-digest.self-inside.by_digest.entries
    c.loop-digest.after c.loop-digest.removed c.loop-digest.invariant (sym c.in_default.ensures))

pub returns-clause-distinct : goal.returns-clause-distinct
returns-clause-distinct g c = rw (← c.self.view_is) (digests_apart c.self.inside.by_digest.entries c.self.invariant)

pub returns-clause-distinct_left : goal.returns-clause-distinct_left
returns-clause-distinct_left g c = digests_apart c.loop-digest.self-inside.by_digest.entries c.loop-digest.invariant.awaited

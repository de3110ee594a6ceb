use Rattle.gossip.proofs.Reporting.{is_coverage, within, listed, floor_shown, not_known}
use Rattle.gossip.proofs.log.Log.report.Goals as goal

pub of-requires : goal.of-requires
of-requires c = rw c.shown.ensures (is_coverage c.self.inside.kept.floor c.self.inside.kept.list.items c.self.invariant.2.rises c.self.invariant.2.later)

pub returns-clause-coverage : goal.returns-clause-coverage
returns-clause-coverage c = rw (c.of.ensures, c.shown.ensures) (is_coverage c.self.inside.kept.floor c.self.inside.kept.list.items c.self.invariant.2.rises c.self.invariant.2.later)

pub returns-clause-within : goal.returns-clause-within
returns-clause-within c = λ s h.
    rw (← c.self.view_is) (within s 63 (record { from = 0; to = c.self.inside.kept.floor }) c.self.inside.kept.list.items (rw (c.of.ensures, c.shown.ensures) at h))

pub returns-clause-listed : goal.returns-clause-listed
returns-clause-listed c = λ m h.
    rw (c.of.ensures, c.shown.ensures)
    (listed c.self.inside.kept.floor c.self.inside.kept.list.items m c.self.invariant.2.rises c.self.invariant.2.later (rw (← c.self.view_is) at h))

pub returns-clause-up_to_floor : goal.returns-clause-up_to_floor
returns-clause-up_to_floor c = λ s h g.
    rw (c.of.ensures, c.shown.ensures)
    (floor_shown s c.self.inside.kept.floor c.self.inside.kept.list.items c.self.invariant.2.rises h (rw (← c.self.view_is) at g))

pub returns-clause-news : goal.returns-clause-news
returns-clause-news c = λ s pos low hidden.
    rw (← c.self.view_is) (not_known s c.self.inside.kept.floor c.self.inside.kept.list.items c.self.invariant.2.rises c.self.invariant.2.later pos
    (rw (c.of.ensures, c.shown.ensures) at low) (rw (c.of.ensures, c.shown.ensures) at hidden))

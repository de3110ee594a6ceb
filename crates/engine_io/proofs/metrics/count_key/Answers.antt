use Rattle.std.proofs.Common.{sym, ap, ◌∙◌}
use Rattle.std.specs.Cmp.{eq_by_cmp_equiv}
use Rattle.std.specs.Option.{option_copied_mut}
use Rattle.broadcast_core.proofs.Entries.{none_from_not_some}
use Rattle.engine_io.proofs.PeerCounts.{counted-first}
use Rattle.engine_io.proofs.metrics.count_key.Goals as goal

pub returns-clause-ok : goal.returns-clause-ok
returns-clause-ok g c =
    let copied = g.met.P.PublicKey.copies c.args.key.now c.in_ok-clone.field-0 c.in_ok-clone.ensures.cases in
    let none = sym c.get_mut.ensures.value ∙ ap option_copied_mut (none_from_not_some c.get_mut.result c.in_default.not-Some) in
    counted-first (eq_by_cmp_equiv g.met.P.Ord.total) c.args.key.now c.in_ok-clone.field-0
    c.args.numbers.now.entries c.get_mut.follows.lender-at-none.entries c.insert.new.self.entries
    copied none (ap (λ m. m.entries) c.get_mut.follows.holds-at-none) c.in_ok-insert.ensures.updates.0

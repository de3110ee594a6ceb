use Rattle.std.proofs.Common.{rules, sym, ◌∙◌}
use Rattle.broadcast_core.proofs.Gone.{found-sorted, none_seen}
use Rattle.broadcast_core.proofs.buffer.gone.Gone.has.Goals as goal

pub returns-then-self-gt-FEW : goal.returns-then-self-gt-FEW
returns-then-self-gt-FEW c =
    rw (← c.self.view_is) (c.is_ok.ensures.value ∙ found-sorted c.self.inside.tickets.now c.args.ticket c.binary_search.result (c.self.invariant.0 c.if-self.true) c.binary_search.ensures.position)

pub returns-then-not-self-ticket : goal.returns-then-not-self-ticket
returns-then-not-self-ticket c =
    rw (← c.self.view_is) (sym (none_seen c.self.inside.tickets.now c.args.ticket c.self.inside.low_bits c.self.invariant.1 (search rules)))

use Rattle.std.proofs.Common.{Some, None, sym, ◌∙◌}
use Rattle.entries.proofs.Tabled.{message-found}
use Rattle.entries.proofs.table.Table.get.Goals as goal

pub returns-in-Some : goal.returns-in-Some
returns-in-Some g c =
    rw (← c.self.view_is) ((rw (← c.self.view_is) at c.at.ensures) ∙ sym (message-found g.met.T.Name.Ord.total _ c.self.invariant c.args.name.now (Some c.in-Some.item.now) c.in-Some.ensures.value))

pub returns-in-None : goal.returns-in-None
returns-in-None g c =
    rw (← c.self.view_is) (sym (message-found g.met.T.Name.Ord.total _ c.self.invariant c.args.name.now None c.in-None.ensures.value))

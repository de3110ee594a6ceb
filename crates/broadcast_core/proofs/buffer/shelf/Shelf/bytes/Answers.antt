use Rattle.entries.specs.Overlaid.{same_number}
use Rattle.std.proofs.Common.{sym, ◌∙◌}
use Rattle.broadcast_core.specs.Indexed.{names_of}
use Rattle.broadcast_core.proofs.Naming.{bytes-listed}
use Rattle.broadcast_core.proofs.buffer.shelf.Shelf.bytes.Goals as goal

pub returns : goal.returns
returns g c = rw (← c.self.view_is) (c.bytes.ensures ∙ sym (bytes-listed (names_of c.self.inside.table) same_number c.args.list c.self.inside.lists.lists c.self.invariant.0.named))

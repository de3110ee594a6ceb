use Rattle.std.proofs.Common.{sym, ap, ◌∙◌, arith}
use Rattle.broadcast_core.proofs.OrderedLemmas.{below_from}
use Rattle.broadcast_core.proofs.ordered.start.Goals as goal

pub returns-in-Less : goal.returns-in-Less
returns-in-Less g c =
    below_from g.met.K.Ord.total c.args.keys.now c.requires c.args.key.now c.args.from c.index-keys-from.result (omega arith) (omega arith)
    (ap (λ x. g.K.Ord.cmp x c.args.key.now) (sym c.index-keys-from.is) ∙ sym c.cmp.ensures ∙ c.in-Less.is)

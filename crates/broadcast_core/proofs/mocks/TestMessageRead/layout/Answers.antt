use Rattle.std.proofs.Common.{refl, ◌∙◌, arith}
use Rattle.broadcast_core.proofs.MessageLemmas.{layout_is, layout_found, layout_only, layout_refused}
use Rattle.broadcast_core.proofs.mocks.TestMessageRead.layout.Goals as goal

pub returns-clause-exact : goal.returns-clause-exact
returns-clause-exact c = c.layout.ensures ∙ layout_is c.args.cfg.now c.args.buf.now

pub returns-clause-found : goal.returns-clause-found
returns-clause-found c = layout_found c.args.cfg.now c.args.buf.now _ _ (λ i. omega (arith, c.type_inv.buf i)) refl (returns-clause-exact c)

pub returns-clause-only : goal.returns-clause-only
returns-clause-only c = layout_only c.args.cfg.now c.args.buf.now _ (returns-clause-exact c)

pub returns-clause-refused : goal.returns-clause-refused
returns-clause-refused c = layout_refused c.args.cfg.now c.args.buf.now _ _ (λ i. omega (arith, c.type_inv.buf i)) refl (returns-clause-exact c)

use Rattle.std.proofs.Common.{rules, arith}
use Rattle.broadcast_core.specs.TestMessage.{read_message}
use Rattle.broadcast_core.proofs.MessageLemmas.{read_found, read_only, read_refused}
use Rattle.broadcast_core.proofs.mocks.TestMessageRead.read_cfg.Goals as goal

pub returns-clause-exact : goal.returns-clause-exact
unfolding read_message
returns-clause-exact c = search rules

pub returns-clause-found : goal.returns-clause-found
returns-clause-found c = read_found c.args.cfg.now c.args.buf.now _ (λ i. omega (arith, c.type_inv.buf i)) (returns-clause-exact c)

pub returns-clause-only : goal.returns-clause-only
returns-clause-only c = read_only c.args.cfg.now c.args.buf.now _ (returns-clause-exact c)

pub returns-clause-refused : goal.returns-clause-refused
returns-clause-refused c = read_refused c.args.cfg.now c.args.buf.now _ (λ i. omega (arith, c.type_inv.buf i)) (returns-clause-exact c)

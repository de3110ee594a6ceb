use Rattle.std.proofs.Common.{◌∙◌}
use Rattle.entries.proofs.Numbers.{widened-same, shifted}
use Rattle.entries.proofs.parts.widened.Goals as goal

pub returns-then-buckets-bits-clause-same : goal.returns-then-buckets-bits-clause-same
returns-then-buckets-bits-clause-same c word = widened-same c.args.bits c.args.buckets word (c.if-buckets-bits.true ∙ shifted c.args.bits c.requires)

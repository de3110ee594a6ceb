use Rattle.entries.specs.Parts.{spread}
use Rattle.entries.proofs.Numbers.{is-wide, is-low}
use Rattle.entries.proofs.bucket.place_of.Goals as goal

pub returns-then-wide-buckets : goal.returns-then-wide-buckets
returns-then-wide-buckets c = is-wide (spread c.args.word) c.args.bits c.args.buckets c.requires c.if-wide-buckets.true

pub returns-else-wide-buckets : goal.returns-else-wide-buckets
returns-else-wide-buckets c = is-low (spread c.args.word) c.args.bits c.args.buckets c.requires c.if-wide-buckets.false

use Rattle.std.proofs.Common.{◌≡◌, ℕ, length, sym, subst, arith}
use Rattle.entries.specs.Parts.{number, AreBuckets}
use Rattle.entries.proofs.Bucketed.{are-widened}
use Rattle.entries.proofs.parts.grow.Goals as goal

pub split-requires-clause-are : goal.split-requires-clause-are
split-requires-clause-are g c =
    let size : c.len-count.result ≡ length c.args.buckets.now.items = omega (arith, c.len-count.ensures) in
    subst (λ l. AreBuckets g.K.Ord.cmp g.K.Leading.leading_of c.widened.result l c.args.more.now.entries) (sym c.reserve.ensures.items)
    (are-widened c.widened.ensures.small (subst (λ n. (word : ℕ) → number c.widened.result n word ≡ number c.args.bits.now n word) size c.widened.ensures.same) c.requires)

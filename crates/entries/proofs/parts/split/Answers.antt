use Rattle.std.proofs.Common.{◌≡◌, ◌<◌, ◌+◌, ◌*◌, ◌-◌, ◌%◌, ◌^◌, length, ap, ◌∙◌, sym, subst, arith, not}
use Rattle.std.specs.Prelude.{nat_eq, bit_and}
use Rattle.std.specs.List.{filter}
use Rattle.entries.specs.Parts.{gathered, number, spread, AreBuckets}
use Rattle.entries.proofs.Bucketed.{first-bucket, are-grown, gathered-grown}
use Rattle.entries.proofs.Numbers.{low-mask}
use Rattle.entries.proofs.parts.split.Goals as goal

pub returns-then-count-eq0-clause-are : goal.returns-then-count-eq0-clause-are
returns-then-count-eq0-clause-are g c = first-bucket c.new.result c.push_reserved.new.self.items c.requires.are (omega (arith, c.len-count.ensures)) c.new.ensures c.push_reserved.ensures.items

pub returns-in-Ok-clause-same : goal.returns-in-Ok-clause-same
returns-in-Ok-clause-same g c =
    let size : c.len-count.result ≡ length c.args.buckets.now.items = omega (arith, c.len-count.ensures) in
    let is_from : bit_and c.len-count.result (1 * 2 ^ c.args.bits % 18446744073709551616 - 1) ≡ length c.args.buckets.now.items % 2 ^ c.args.bits = low-mask c.len-count.result c.args.bits c.requires.are.few ∙ ap (λ n. n % 2 ^ c.args.bits) size in
    let kept : c.split.new.self ≡ filter (λ e. not (nat_eq (number c.args.bits (length c.args.buckets.now.items + 1) (spread (g.K.Leading.leading_of e.0))) (length c.args.buckets.now.items + 1 - 1))) c.index_mut.result.now =
    subst (λ n. c.split.new.self ≡ filter (λ e. not (nat_eq (number c.args.bits (n + 1) (spread (g.K.Leading.leading_of e.0))) (n + 1 - 1))) c.index_mut.result.now) size c.in-Ok.ensures.kept in
    let moved : c.in-Ok.bucket ≡ filter (λ e. nat_eq (number c.args.bits (length c.args.buckets.now.items + 1) (spread (g.K.Leading.leading_of e.0))) (length c.args.buckets.now.items + 1 - 1)) c.index_mut.result.now =
    subst (λ n. c.in-Ok.bucket ≡ filter (λ e. nat_eq (number c.args.bits (n + 1) (spread (g.K.Leading.leading_of e.0))) (n + 1 - 1)) c.index_mut.result.now) size c.in-Ok.ensures.moved in
    let there : bit_and c.len-count.result (1 * 2 ^ c.args.bits % 18446744073709551616 - 1) < length c.args.buckets.now.items = subst (λ n. bit_and c.len-count.result (1 * 2 ^ c.args.bits % 18446744073709551616 - 1) < n) size c.if-from-count.true in
    ap (gathered g.K.Ord.cmp c.args.more.now.entries) c.push_reserved-in-Ok.ensures.items ∙ gathered-grown g.met.K.Ord.total g.K.Leading.leading_of g.met.K.Leading.shared c.args.bits c.args.buckets.now.items c.args.more.now.entries c.requires.are (bit_and c.len-count.result (1 * 2 ^ c.args.bits % 18446744073709551616 - 1)) there is_from c.index_mut.result.now c.split.new.self c.in-Ok.bucket c.index_mut.ensures.value kept moved

pub returns-in-Ok-clause-are : goal.returns-in-Ok-clause-are
returns-in-Ok-clause-are g c =
    let size : c.len-count.result ≡ length c.args.buckets.now.items = omega (arith, c.len-count.ensures) in
    let is_from : bit_and c.len-count.result (1 * 2 ^ c.args.bits % 18446744073709551616 - 1) ≡ length c.args.buckets.now.items % 2 ^ c.args.bits = low-mask c.len-count.result c.args.bits c.requires.are.few ∙ ap (λ n. n % 2 ^ c.args.bits) size in
    let kept : c.split.new.self ≡ filter (λ e. not (nat_eq (number c.args.bits (length c.args.buckets.now.items + 1) (spread (g.K.Leading.leading_of e.0))) (length c.args.buckets.now.items + 1 - 1))) c.index_mut.result.now =
    subst (λ n. c.split.new.self ≡ filter (λ e. not (nat_eq (number c.args.bits (n + 1) (spread (g.K.Leading.leading_of e.0))) (n + 1 - 1))) c.index_mut.result.now) size c.in-Ok.ensures.kept in
    let moved : c.in-Ok.bucket ≡ filter (λ e. nat_eq (number c.args.bits (length c.args.buckets.now.items + 1) (spread (g.K.Leading.leading_of e.0))) (length c.args.buckets.now.items + 1 - 1)) c.index_mut.result.now =
    subst (λ n. c.in-Ok.bucket ≡ filter (λ e. nat_eq (number c.args.bits (n + 1) (spread (g.K.Leading.leading_of e.0))) (n + 1 - 1)) c.index_mut.result.now) size c.in-Ok.ensures.moved in
    let there : bit_and c.len-count.result (1 * 2 ^ c.args.bits % 18446744073709551616 - 1) < length c.args.buckets.now.items = subst (λ n. bit_and c.len-count.result (1 * 2 ^ c.args.bits % 18446744073709551616 - 1) < n) size c.if-from-count.true in
    subst (λ l. AreBuckets g.K.Ord.cmp g.K.Leading.leading_of c.args.bits l c.args.more.now.entries) (sym c.push_reserved-in-Ok.ensures.items) (are-grown g.met.K.Ord.total g.K.Leading.leading_of g.met.K.Leading.shared c.args.bits c.args.buckets.now.items c.args.more.now.entries c.requires.are (bit_and c.len-count.result (1 * 2 ^ c.args.bits % 18446744073709551616 - 1)) there is_from c.index_mut.result.now c.split.new.self c.in-Ok.bucket c.index_mut.ensures.value kept moved)

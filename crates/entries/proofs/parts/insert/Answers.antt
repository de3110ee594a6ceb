use Rattle.std.proofs.Common.{◌≡◌, ◌<◌, length, ap, ◌∙◌, sym, subst, arith}
use Rattle.std.specs.Prelude.{slice_set}
use Rattle.entries.specs.Parts.{gathered, number, spread, AreBuckets}
use Rattle.entries.proofs.Bucketed.{put-in, put-beside, set-same, by_result, on_ok}
use Rattle.entries.proofs.parts.insert.Goals as goal

pub returns-then-len-lt-FULL-clause-ok : goal.returns-then-len-lt-FULL-clause-ok
returns-then-len-lt-FULL-clause-ok g c =
    let size : c.len.result ≡ length c.args.buckets.now.items = omega (arith, c.len.ensures) in
    let is : c.place_of-place.result ≡ number c.args.bits (length c.args.buckets.now.items) (spread (g.K.Leading.leading_of c.args.key)) = c.place_of-place.ensures ∙ ap (λ n. number c.args.bits n (spread c.leading.result)) size ∙ ap (λ w. number c.args.bits (length c.args.buckets.now.items) (spread w)) c.leading.ensures in
    let there : c.place_of-place.result < length c.args.buckets.now.items = omega arith in
    on_ok c.push.result c.push.ensures.ok (λ put. (put-in g.met.K.Ord.total g.K.Leading.leading_of g.met.K.Leading.shared c.args.bits c.args.buckets.now.items c.args.more.now.entries c.requires.are
    c.args.key c.place_of-place.result is c.index_mut.result.now c.index_mut.ensures.value there c.args.value c.push.new.self c.requires.new put).1)

pub returns-then-len-lt-FULL-clause-are : goal.returns-then-len-lt-FULL-clause-are
returns-then-len-lt-FULL-clause-are g c =
    let size : c.len.result ≡ length c.args.buckets.now.items = omega (arith, c.len.ensures) in
    let is : c.place_of-place.result ≡ number c.args.bits (length c.args.buckets.now.items) (spread (g.K.Leading.leading_of c.args.key)) = c.place_of-place.ensures ∙ ap (λ n. number c.args.bits n (spread c.leading.result)) size ∙ ap (λ w. number c.args.bits (length c.args.buckets.now.items) (spread w)) c.leading.ensures in
    let there : c.place_of-place.result < length c.args.buckets.now.items = omega arith in
    by_result c.push.result c.push.ensures.ok c.push.ensures.err (λ put. (put-in g.met.K.Ord.total g.K.Leading.leading_of g.met.K.Leading.shared c.args.bits c.args.buckets.now.items c.args.more.now.entries c.requires.are
    c.args.key c.place_of-place.result is c.index_mut.result.now c.index_mut.ensures.value there c.args.value c.push.new.self c.requires.new put).0)
    (λ kept. subst (λ l. AreBuckets g.K.Ord.cmp g.K.Leading.leading_of c.args.bits l c.args.more.now.entries)
    (sym (ap (slice_set c.args.buckets.now.items c.place_of-place.result) kept ∙ set-same c.args.buckets.now.items c.place_of-place.result c.index_mut.result.now c.index_mut.ensures.value)) c.requires.are)

pub returns-clause-ok : goal.returns-clause-ok
returns-clause-ok g c = ap (λ es. gathered g.K.Ord.cmp es c.args.buckets.now.items) c.in_ok-insert.ensures.entries
    ∙ (put-beside g.met.K.Ord.total g.K.Leading.leading_of g.met.K.Leading.shared c.args.bits c.args.buckets.now.items c.args.more.now.entries c.requires.are c.args.key c.args.value c.requires.new).1

pub returns-clause-are : goal.returns-clause-are
returns-clause-are g c = subst (λ es. AreBuckets g.K.Ord.cmp g.K.Leading.leading_of c.args.bits c.args.buckets.now.items es) (sym c.in_ok-insert.ensures.entries)
    (put-beside g.met.K.Ord.total g.K.Leading.leading_of g.met.K.Leading.shared c.args.bits c.args.buckets.now.items c.args.more.now.entries c.requires.are c.args.key c.args.value c.requires.new).0

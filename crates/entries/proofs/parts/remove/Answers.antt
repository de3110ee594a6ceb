use Rattle.std.proofs.Common.{◌≡◌, ◌<◌, length, refl, ap, ◌∙◌, sym, subst, arith}
use Rattle.std.specs.Prelude.{slice_set, is_some}
use Rattle.entries.specs.Parts.{gathered, number, spread, AreBuckets}
use Rattle.entries.proofs.Bucketed.{found-past, past-left, found-in, taken-out, found-not, not-left, set-same}
use Rattle.entries.proofs.parts.remove.Goals as goal

pub returns-then-place-len-clause-value : goal.returns-then-place-len-clause-value
returns-then-place-len-clause-value g c =
    let size : c.len.result ≡ length c.args.buckets.now.items = omega (arith, c.len.ensures) in
    let is : c.place_of-place.result ≡ number c.args.bits (length c.args.buckets.now.items) (spread (g.K.Leading.leading_of c.args.key.now)) = c.place_of-place.ensures ∙ ap (λ n. number c.args.bits n (spread c.leading.result)) size ∙ ap (λ w. number c.args.bits (length c.args.buckets.now.items) (spread w)) c.leading.ensures in
    c.remove.ensures.value ∙ sym (found-past g.met.K.Ord.total g.K.Leading.leading_of g.met.K.Leading.shared c.args.bits c.args.buckets.now.items c.args.more.now.entries c.requires c.args.key.now c.place_of-place.result is (omega arith))

pub returns-then-place-len-clause-removed : goal.returns-then-place-len-clause-removed
returns-then-place-len-clause-removed g c =
    let size : c.len.result ≡ length c.args.buckets.now.items = omega (arith, c.len.ensures) in
    let is : c.place_of-place.result ≡ number c.args.bits (length c.args.buckets.now.items) (spread (g.K.Leading.leading_of c.args.key.now)) = c.place_of-place.ensures ∙ ap (λ n. number c.args.bits n (spread c.leading.result)) size ∙ ap (λ w. number c.args.bits (length c.args.buckets.now.items) (spread w)) c.leading.ensures in
    ap (λ es. gathered g.K.Ord.cmp es c.args.buckets.now.items) c.remove.ensures.entries ∙ (past-left g.met.K.Ord.total g.K.Leading.leading_of g.met.K.Leading.shared c.args.bits c.args.buckets.now.items c.args.more.now.entries c.requires c.args.key.now c.place_of-place.result is (omega arith)).1

pub returns-then-place-len-clause-are : goal.returns-then-place-len-clause-are
returns-then-place-len-clause-are g c =
    let size : c.len.result ≡ length c.args.buckets.now.items = omega (arith, c.len.ensures) in
    let is : c.place_of-place.result ≡ number c.args.bits (length c.args.buckets.now.items) (spread (g.K.Leading.leading_of c.args.key.now)) = c.place_of-place.ensures ∙ ap (λ n. number c.args.bits n (spread c.leading.result)) size ∙ ap (λ w. number c.args.bits (length c.args.buckets.now.items) (spread w)) c.leading.ensures in
    subst (λ es. AreBuckets g.K.Ord.cmp g.K.Leading.leading_of c.args.bits c.args.buckets.now.items es) (sym c.remove.ensures.entries) (past-left g.met.K.Ord.total g.K.Leading.leading_of g.met.K.Leading.shared c.args.bits c.args.buckets.now.items c.args.more.now.entries c.requires c.args.key.now c.place_of-place.result is (omega arith)).0

pub returns-in-Some-clause-value : goal.returns-in-Some-clause-value
returns-in-Some-clause-value g c =
    let size : c.len.result ≡ length c.args.buckets.now.items = omega (arith, c.len.ensures) in
    let is : c.place_of-place.result ≡ number c.args.bits (length c.args.buckets.now.items) (spread (g.K.Leading.leading_of c.args.key.now)) = c.place_of-place.ensures ∙ ap (λ n. number c.args.bits n (spread c.leading.result)) size ∙ ap (λ w. number c.args.bits (length c.args.buckets.now.items) (spread w)) c.leading.ensures in
    let there : c.place_of-place.result < length c.args.buckets.now.items = omega arith in
    sym (found-in g.met.K.Ord.total g.K.Leading.leading_of g.met.K.Leading.shared c.args.bits c.args.buckets.now.items c.args.more.now.entries c.requires c.args.key.now c.place_of-place.result is c.index_mut.result.now c.index_mut.ensures.value there c.in-Some.value (sym c.in-Some.ensures.value))

pub returns-in-Some-clause-removed : goal.returns-in-Some-clause-removed
returns-in-Some-clause-removed g c =
    let size : c.len.result ≡ length c.args.buckets.now.items = omega (arith, c.len.ensures) in
    let is : c.place_of-place.result ≡ number c.args.bits (length c.args.buckets.now.items) (spread (g.K.Leading.leading_of c.args.key.now)) = c.place_of-place.ensures ∙ ap (λ n. number c.args.bits n (spread c.leading.result)) size ∙ ap (λ w. number c.args.bits (length c.args.buckets.now.items) (spread w)) c.leading.ensures in
    let there : c.place_of-place.result < length c.args.buckets.now.items = omega arith in
    (taken-out g.met.K.Ord.total g.K.Leading.leading_of g.met.K.Leading.shared c.args.bits c.args.buckets.now.items c.args.more.now.entries c.requires c.args.key.now c.place_of-place.result is c.index_mut.result.now c.index_mut.ensures.value there c.remove-2.new.self (ap is_some (sym c.in-Some.ensures.value)) (c.in-Some.ensures.removed refl)).1

pub returns-in-Some-clause-are : goal.returns-in-Some-clause-are
returns-in-Some-clause-are g c =
    let size : c.len.result ≡ length c.args.buckets.now.items = omega (arith, c.len.ensures) in
    let is : c.place_of-place.result ≡ number c.args.bits (length c.args.buckets.now.items) (spread (g.K.Leading.leading_of c.args.key.now)) = c.place_of-place.ensures ∙ ap (λ n. number c.args.bits n (spread c.leading.result)) size ∙ ap (λ w. number c.args.bits (length c.args.buckets.now.items) (spread w)) c.leading.ensures in
    let there : c.place_of-place.result < length c.args.buckets.now.items = omega arith in
    (taken-out g.met.K.Ord.total g.K.Leading.leading_of g.met.K.Leading.shared c.args.bits c.args.buckets.now.items c.args.more.now.entries c.requires c.args.key.now c.place_of-place.result is c.index_mut.result.now c.index_mut.ensures.value there c.remove-2.new.self (ap is_some (sym c.in-Some.ensures.value)) (c.in-Some.ensures.removed refl)).0

pub returns-in-None-clause-value : goal.returns-in-None-clause-value
returns-in-None-clause-value g c =
    let size : c.len.result ≡ length c.args.buckets.now.items = omega (arith, c.len.ensures) in
    let is : c.place_of-place.result ≡ number c.args.bits (length c.args.buckets.now.items) (spread (g.K.Leading.leading_of c.args.key.now)) = c.place_of-place.ensures ∙ ap (λ n. number c.args.bits n (spread c.leading.result)) size ∙ ap (λ w. number c.args.bits (length c.args.buckets.now.items) (spread w)) c.leading.ensures in
    let there : c.place_of-place.result < length c.args.buckets.now.items = omega arith in
    c.remove-in-None.ensures.value ∙ sym (found-not g.met.K.Ord.total g.K.Leading.leading_of g.met.K.Leading.shared c.args.bits c.args.buckets.now.items c.args.more.now.entries c.requires c.args.key.now c.place_of-place.result is c.index_mut.result.now c.index_mut.ensures.value there (sym c.in-None.ensures.value))

pub returns-in-None-clause-removed : goal.returns-in-None-clause-removed
returns-in-None-clause-removed g c =
    let size : c.len.result ≡ length c.args.buckets.now.items = omega (arith, c.len.ensures) in
    let is : c.place_of-place.result ≡ number c.args.bits (length c.args.buckets.now.items) (spread (g.K.Leading.leading_of c.args.key.now)) = c.place_of-place.ensures ∙ ap (λ n. number c.args.bits n (spread c.leading.result)) size ∙ ap (λ w. number c.args.bits (length c.args.buckets.now.items) (spread w)) c.leading.ensures in
    let there : c.place_of-place.result < length c.args.buckets.now.items = omega arith in
    ap (gathered g.K.Ord.cmp c.remove-in-None.new.self.entries) (ap (slice_set c.args.buckets.now.items c.place_of-place.result) (c.in-None.ensures.stays refl) ∙ set-same c.args.buckets.now.items c.place_of-place.result c.index_mut.result.now c.index_mut.ensures.value)
    ∙ ap (λ es. gathered g.K.Ord.cmp es c.args.buckets.now.items) c.remove-in-None.ensures.entries ∙ (not-left g.met.K.Ord.total g.K.Leading.leading_of g.met.K.Leading.shared c.args.bits c.args.buckets.now.items c.args.more.now.entries c.requires c.args.key.now c.place_of-place.result is c.index_mut.result.now c.index_mut.ensures.value there (sym c.in-None.ensures.value)).1

pub returns-in-None-clause-are : goal.returns-in-None-clause-are
returns-in-None-clause-are g c =
    let size : c.len.result ≡ length c.args.buckets.now.items = omega (arith, c.len.ensures) in
    let is : c.place_of-place.result ≡ number c.args.bits (length c.args.buckets.now.items) (spread (g.K.Leading.leading_of c.args.key.now)) = c.place_of-place.ensures ∙ ap (λ n. number c.args.bits n (spread c.leading.result)) size ∙ ap (λ w. number c.args.bits (length c.args.buckets.now.items) (spread w)) c.leading.ensures in
    let there : c.place_of-place.result < length c.args.buckets.now.items = omega arith in
    subst (λ l. AreBuckets g.K.Ord.cmp g.K.Leading.leading_of c.args.bits l c.remove-in-None.new.self.entries) (sym (ap (slice_set c.args.buckets.now.items c.place_of-place.result) (c.in-None.ensures.stays refl) ∙ set-same c.args.buckets.now.items c.place_of-place.result c.index_mut.result.now c.index_mut.ensures.value))
    (subst (λ es. AreBuckets g.K.Ord.cmp g.K.Leading.leading_of c.args.bits c.args.buckets.now.items es) (sym c.remove-in-None.ensures.entries) (not-left g.met.K.Ord.total g.K.Leading.leading_of g.met.K.Leading.shared c.args.bits c.args.buckets.now.items c.args.more.now.entries c.requires c.args.key.now c.place_of-place.result is c.index_mut.result.now c.index_mut.ensures.value there (sym c.in-None.ensures.value)).0)

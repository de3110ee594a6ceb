use Rattle.std.proofs.Common.{◌≡◌, ◌<◌, ◌≤◌, length, sym, ap, ◌∙◌, arith}
use Rattle.std.specs.Prelude.{slice_index_or}
use Rattle.std.proofs.lemmas.Bool.Decides.{nat_tests}
use Rattle.entries.specs.Parts.{number, spread}
use Rattle.entries.proofs.Bucketed.{found-in, found-not, found-past}
use Rattle.entries.proofs.parts.Parts.get.Goals as goal

pub returns-in-Some-get : goal.returns-in-Some-get
returns-in-Some-get g c =
    let size : c.len.result ≡ length c.self.inside.buckets.items = omega (arith, c.len.ensures) in
    let is : c.place_of-place.result ≡ number c.self.inside.bits (length c.self.inside.buckets.items) (spread (g.K.Leading.leading_of c.args.key.now)) = c.place_of-place.ensures ∙ ap (λ n. number c.self.inside.bits n (spread c.leading.result)) size ∙ ap (λ w. number c.self.inside.bits (length c.self.inside.buckets.items) (spread w)) c.leading.ensures in
    let at : c.in-Some.bucket.now ≡ slice_index_or c.self.inside.buckets.items c.place_of-place.result c.in-Some.bucket.now = rw (← c.deref.ensures.value) c.in-Some.ensures.lookup.1 in
    let there : c.place_of-place.result < length c.self.inside.buckets.items = rw (← c.deref.ensures.value) c.in-Some.ensures.lookup.3.0 in
    rw (← c.self.view_is) (record { value = sym (found-in g.met.K.Ord.total g.K.Leading.leading_of g.met.K.Leading.shared c.self.inside.bits c.self.inside.buckets.items c.self.inside.more.entries c.self.invariant.are c.args.key.now c.place_of-place.result is c.in-Some.bucket.now at there c.in-Some-get.value.now (sym c.in-Some-get.ensures)) })

pub returns-in-None-get : goal.returns-in-None-get
returns-in-None-get g c =
    let size : c.len.result ≡ length c.self.inside.buckets.items = omega (arith, c.len.ensures) in
    let is : c.place_of-place.result ≡ number c.self.inside.bits (length c.self.inside.buckets.items) (spread (g.K.Leading.leading_of c.args.key.now)) = c.place_of-place.ensures ∙ ap (λ n. number c.self.inside.bits n (spread c.leading.result)) size ∙ ap (λ w. number c.self.inside.bits (length c.self.inside.buckets.items) (spread w)) c.leading.ensures in
    let at : c.in-Some.bucket.now ≡ slice_index_or c.self.inside.buckets.items c.place_of-place.result c.in-Some.bucket.now = rw (← c.deref.ensures.value) c.in-Some.ensures.lookup.1 in
    let there : c.place_of-place.result < length c.self.inside.buckets.items = rw (← c.deref.ensures.value) c.in-Some.ensures.lookup.3.0 in
    rw (← c.self.view_is) (record { value = c.get-in-None-get.ensures.value ∙ sym (found-not g.met.K.Ord.total g.K.Leading.leading_of g.met.K.Leading.shared c.self.inside.bits c.self.inside.buckets.items c.self.inside.more.entries c.self.invariant.are c.args.key.now c.place_of-place.result is c.in-Some.bucket.now at there (sym c.in-None-get.ensures)) })

pub returns-in-None : goal.returns-in-None
returns-in-None g c =
    let size : c.len.result ≡ length c.self.inside.buckets.items = omega (arith, c.len.ensures) in
    let is : c.place_of-place.result ≡ number c.self.inside.bits (length c.self.inside.buckets.items) (spread (g.K.Leading.leading_of c.args.key.now)) = c.place_of-place.ensures ∙ ap (λ n. number c.self.inside.bits n (spread c.leading.result)) size ∙ ap (λ w. number c.self.inside.bits (length c.self.inside.buckets.items) (spread w)) c.leading.ensures in
    let past : length c.self.inside.buckets.items ≤ c.place_of-place.result = rw (← c.deref.ensures.value) (grind (arith, nat_tests, c.in-None.ensures.lookup)) in
    rw (← c.self.view_is) (record { value = c.get-in-None.ensures.value ∙ sym (found-past g.met.K.Ord.total g.K.Leading.leading_of g.met.K.Leading.shared c.self.inside.bits c.self.inside.buckets.items c.self.inside.more.entries c.self.invariant.are c.args.key.now c.place_of-place.result is past) })

use Rattle.std.proofs.Common.{◌∙◌, sym, slice_index_or}
use Rattle.std.specs.Cmp.{eq_by_cmp_equiv}
use Rattle.std.proofs.lemmas.List.Folds.{list_any_at}
use Rattle.broadcast_core.specs.Content.{same_by, items_at, digests_of}
use Rattle.broadcast_core.proofs.Caching.{stored-at}
use Rattle.broadcast_core.proofs.Taking.{among-names, distinct-names}
use Rattle.broadcast_core.proofs.buffer.Core.list.Goals as goal

pub returns-clause-cached : goal.returns-clause-cached
returns-clause-cached g c =
    let same = same_by g.P.Ord.cmp g.M.Digest.Ord.cmp in
    let st = c.self-inside.inside.0.1.0.cache in
    let laws = eq_by_cmp_equiv (g.met.M.Digest.Ord g.world.𝓛 g.world.𝓜 g.world.𝓡 (λ s x. x, λ x. x, λ x. x, λ x. x)).total in
    let lists = st.shelf.stored.lists in
    let digests = digests_of (items_at same.key c.args.peer.now lists) in
    rw (← c.self.view_is, ← c.self-inside.view_is) (λ i other h.
    let d = slice_index_or digests i other in
    c.list.ensures.lawful.messages d ∙ stored-at same c.args.peer.now d lists (sym (among-names same.digest d (items_at same.key c.args.peer.now lists)) ∙ list_any_at (same.digest d) digests i other h (laws.refl d)))

pub returns-clause-distinct : goal.returns-clause-distinct
returns-clause-distinct g c =
    let same = same_by g.P.Ord.cmp g.M.Digest.Ord.cmp in
    rw (← c.self.view_is, ← c.self-inside.view_is) (distinct-names same.digest _ c.list.ensures.distinct)

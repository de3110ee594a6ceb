use Rattle.std.proofs.Common.{◌∙◌}
use Rattle.std.specs.Cmp.{eq_by_cmp_equiv}
use Rattle.broadcast_core.specs.Content.{same_by}
use Rattle.broadcast_core.proofs.Taking.{stored-listed}
use Rattle.broadcast_core.proofs.buffer.Core.get.Goals as goal

pub returns-clause-cached_iff_listed : goal.returns-clause-cached_iff_listed
returns-clause-cached_iff_listed g c =
    let same = same_by g.P.Ord.cmp g.M.Digest.Ord.cmp in
    let st = c.self-inside.inside.0.1.0.cache in
    let laws = eq_by_cmp_equiv g.met.P.Ord.total in
    rw (← c.self.view_is, ← c.self-inside.view_is) (c.get.ensures.lawful.messages c.args.digest.now ∙ stored-listed same laws st.shelf.deque_size st.shelf.byte_budget st.primary st.shelf.stored c.get.ensures.lawful c.args.digest.now)

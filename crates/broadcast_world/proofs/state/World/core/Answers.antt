use Rattle.std.proofs.Common.{◌≡◌, true, None, sym, ap, ◌∙◌, subst}
use Rattle.std.specs.Arc.{arc_value}
use Rattle.std.specs.List.{list_any, slice_get}
use Rattle.std.specs.List.Sorted.{IsStrictlySortedBy}
use Rattle.std.specs.Prelude.{IsSomeAnd}
use Rattle.std.specs.Option.{option_copied}
use Rattle.std.specs.Cmp.{eq_by_cmp_equiv}
use Rattle.std.specs.Ordering.{eq_by_cmp}
use Rattle.broadcast_world.specs.Made.{content_of}
use Rattle.broadcast_world.proofs.Places.{found-zip, find-zip-none}
use Rattle.broadcast_world.proofs.state.World.core.Goals as goal

pub returns-in-None : goal.returns-in-None
returns-in-None g c =
    let cmp = g.P.Ord.cmp in
    let total = g.met.P.Ord.total in
    let nodes = arc_value c.self.inside.nodes.keys in
    let none = ap (λ ns. list_any (eq_by_cmp cmp c.args.key.now) ns) (sym c.deref-nodes.ensures) ∙ sym c.in-None.ensures.some in
    subst (λ now. None ≡ content_of cmp now c.args.key.now) c.self.view_is
    (sym (find-zip-none (eq_by_cmp cmp) (eq_by_cmp_equiv total) c.args.key.now nodes c.self.inside.nodes.cores.items none))

pub returns-in-Some : goal.returns-in-Some
returns-in-Some g c =
    let cmp = g.P.Ord.cmp in
    let total = g.met.P.Ord.total in
    let nodes = arc_value c.self.inside.nodes.keys in
    let key = c.args.key.now in
    let place = c.in-Some.place in
    subst (λ now. option_copied c.core_at.result ≡ content_of cmp now key) c.self.view_is
    (c.core_at.ensures ∙ ap (λ cs. slice_get cs place) c.deref.ensures.value
    ∙ sym (found-zip total key nodes c.self.inside.nodes.cores.items place
    (subst (λ ns. IsStrictlySortedBy cmp ns) c.deref-nodes.ensures c.as_slice-sorted.ensures.sorted) c.self.inside.nodes.one_each
    (subst (λ ns. IsSomeAnd (slice_get ns place) (λ q. eq_by_cmp cmp key q ≡ true)) c.deref-nodes.ensures c.in-Some.ensures.place)))

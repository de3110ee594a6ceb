use Rattle.std.proofs.Common.{sym, ◌∙◌, arith}
use Rattle.entries.specs.Linked.{with_newer}
use Rattle.entries.proofs.Placing.{stands, reads, relinks, rewrites}
use Rattle.entries.proofs.places.Places.set_newer.Goals as goal

pub index_mut-requires : goal.index_mut-requires
index_mut-requires c =
    let s = stands c.self.inside.entries.items c.in-Some.at (rw (← c.self.view_is) at (c.requires.there c.in-Some.at (sym c.get.ensures ∙ c.in-Some.is))) in
    omega (arith, s.within)

pub invariant_of-self : goal.invariant_of-self
invariant_of-self c =
    let s = stands c.self.inside.entries.items c.in-Some.at (rw (← c.self.view_is) at (c.requires.there c.in-Some.at (sym c.get.ensures ∙ c.in-Some.is))) in
    let r = reads c.self.inside.entries.items c.in-Some.at c.index_mut.result.now s c.index_mut.ensures.value in
    rewrites c.self.inside.entries.items c.self.inside.free c.in-Some.at c.index_mut.result.now _ c.self.invariant r.found r.there

pub returns-in-Some : goal.returns-in-Some
returns-in-Some c =
    let at_is = sym c.get.ensures ∙ c.in-Some.is in
    let s = stands c.self.inside.entries.items c.in-Some.at (rw (← c.self.view_is) at (c.requires.there c.in-Some.at at_is)) in
    let r = reads c.self.inside.entries.items c.in-Some.at c.index_mut.result.now s c.index_mut.ensures.value in
    rw (at_is, ← c.self.view_is) (relinks c.self.inside.entries.items c.in-Some.at c.index_mut.result.now (with_newer c.args.newer) r.found r.there c.requires.unmarked)

use Rattle.std.proofs.Common.{refl}
use Rattle.entries.specs.Linked.{as_newest}
use Rattle.entries.proofs.Placing.{stands, relinks, rewrites}
use Rattle.entries.proofs.places.Places.set_newest.Goals as goal

pub invariant_of-self : goal.invariant_of-self
invariant_of-self c =
    let s = stands c.self.inside.entries.items c.args.place (rw (← c.self.view_is) at c.requires) in
    rewrites c.self.inside.entries.items c.self.inside.free c.args.place s.entry _ c.self.invariant s.found s.there

pub returns : goal.returns
returns c =
    let s = stands c.self.inside.entries.items c.args.place (rw (← c.self.view_is) at c.requires) in
    rw (← c.self.view_is, c.none.ensures) (relinks c.self.inside.entries.items c.args.place s.entry (as_newest c.args.digest c.args.older) s.found s.there refl)

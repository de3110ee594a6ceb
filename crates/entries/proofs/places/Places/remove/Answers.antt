use Rattle.std.proofs.Common.{refl, ap}
use Rattle.entries.specs.Places.{is_mark}
use Rattle.entries.proofs.Placing.{stands, frees, freed_seen, seen_elsewhere}
use Rattle.entries.proofs.places.Places.remove.Goals as goal

pub invariant_of-self : goal.invariant_of-self
invariant_of-self c =
    let s = stands c.self.inside.entries.items c.args.place (rw (← c.self.view_is) at c.requires.there) in
    rw c.to-self-inside.ensures (frees c.self.inside.entries.items c.self.inside.free c.args.place s.entry _ c.self.invariant s.found s.there (ap is_mark c.mark.ensures) refl)

pub returns-clause-updates : goal.returns-clause-updates
returns-clause-updates c =
    let s = stands c.self.inside.entries.items c.args.place (rw (← c.self.view_is) at c.requires.there) in
    rw (← c.self.view_is) (record {
      changed = freed_seen c.self.inside.entries.items c.args.place _ s.within (ap is_mark c.mark.ensures);
      others = λ j differs. seen_elsewhere c.self.inside.entries.items c.args.place j _ differs;
    })

use Rattle.std.proofs.Common.{Some, sym, ◌∙◌}
use Rattle.entries.proofs.Placing.{free_within, reads_free, takes, vacant_seen, seen_set, seen_elsewhere}
use Rattle.entries.proofs.places.Places.insert.Goals as goal

pub invariant_of-self : goal.invariant_of-self
invariant_of-self c =
    let placed = rw (sym c.get.ensures ∙ c.in-Some.is) at c.self.invariant in
    let within = free_within c.self.inside.entries.items c.in-Some.place placed in
    takes c.self.inside.entries.items c.in-Some.place c.index.result.now _ placed (reads_free c.self.inside.entries.items c.in-Some.place c.index.result.now within c.index.ensures)

pub returns-in-Some-clause-was_free : goal.returns-in-Some-clause-was_free
returns-in-Some-clause-was_free c =
    let placed = rw (sym c.get.ensures ∙ c.in-Some.is) at c.self.invariant in
    rw (← c.self.view_is) (vacant_seen c.self.inside.entries.items (Some c.in-Some.place) placed)

pub returns-in-Some-clause-updates : goal.returns-in-Some-clause-updates
returns-in-Some-clause-updates c =
    let placed = rw (sym c.get.ensures ∙ c.in-Some.is) at c.self.invariant in
    let within = free_within c.self.inside.entries.items c.in-Some.place placed in
    rw (← c.self.view_is, c.none.ensures, c.none-2.ensures) (record {
      changed = seen_set c.self.inside.entries.items c.in-Some.place _ within;
      others = λ j differs. seen_elsewhere c.self.inside.entries.items c.in-Some.place j _ differs;
    })

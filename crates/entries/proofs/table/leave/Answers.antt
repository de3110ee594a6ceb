use Rattle.std.proofs.Common.{refl}
use Rattle.entries.proofs.table.leave.Goals as goal

pub returns-in-Some : goal.returns-in-Some
returns-in-Some g c =
    rw (← c.in-Some.ensures.value) (record {
      now = c.remove.new.self;
      written = refl;
      message = c.remove.ensures.message;
      places = c.remove.ensures.places;
      last = c.remove.ensures.empty;
    })

pub returns-in-None : goal.returns-in-None
returns-in-None g c = rw (← c.in-None.ensures.value) (refl, refl)

use Rattle.std.proofs.Common.{refl, sym}
use Rattle.entries.proofs.table.join.Goals as goal

pub returns-in-Ok : goal.returns-in-Ok
returns-in-Ok g c = record {
  was = _;
  now = c.join.new.self;
  there = sym c.in-Some.ensures.value;
  written = refl;
  message = c.join.ensures.message;
  item = (refl, refl);
  found = c.in-Ok.ensures.found;
  stays = c.in-Ok.ensures.stays;
  places = c.in-Ok.ensures.places;
  fails_for_new_places = tt;
  err = tt;
}

pub returns-in-Err : goal.returns-in-Err
returns-in-Err g c = record {
  was = _;
  now = c.join.new.self;
  there = sym c.in-Some.ensures.value;
  written = refl;
  message = c.join.ensures.message;
  item = tt;
  found = tt;
  stays = tt;
  places = tt;
  fails_for_new_places = c.in-Err.ensures.fails_for_new_places;
  err = c.in-Err.ensures.err;
}

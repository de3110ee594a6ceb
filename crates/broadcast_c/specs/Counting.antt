-- Believed.
-- How payloads are counted: each number stops at the greatest of 64 bits.
use Rattle.std.specs.Prelude.{ℕ, ◌+◌, ◌-◌, ◌^◌, ◌==◌, if◌then◌else◌, min}
use Rattle.broadcast_core.specs.declared.outcome.Outcome.{Outcome}
use Rattle.broadcast_core.specs.declared.outcome.Outcome.TheVariants.{Inserted, Duplicate, Ineligible, Oversize}
use Rattle.broadcast_c.specs.declared.counters.Counters.{Counters}

-- a number after it was raised, as far as 64 bits go
abbrev pub raised : ℕ → ℕ → ℕ
raised number more = number + min more (2 ^ 64 - 1 - number)

-- the counters with one more message of this outcome
abbrev pub counted : Outcome → Counters → Counters
counted Inserted c = record c { inserted = raised c.inserted 1 }
counted Duplicate c = record c { duplicate = raised c.duplicate 1 }
counted Ineligible c = record c { ineligible = raised c.ineligible 1 }
counted Oversize c = record c { oversize = raised c.oversize 1 }

-- the counters with one more payload of this number: that of an outcome, or 4 for one that does not
-- decode; any other number leaves the counters as they are
abbrev pub counted_as : ℕ → Counters → Counters
counted_as what c =
    if what == 0 then counted Inserted c
    else (if what == 1 then counted Duplicate c
    else (if what == 2 then counted Ineligible c
    else (if what == 3 then counted Oversize c
    else (if what == 4 then record c { invalid = raised c.invalid 1 }
    else c))))

-- the counters, to which others were added
abbrev pub summed : Counters → Counters → Counters
summed more c = record {
  inserted = raised c.inserted more.inserted;
  duplicate = raised c.duplicate more.duplicate;
  ineligible = raised c.ineligible more.ineligible;
  oversize = raised c.oversize more.oversize;
  invalid = raised c.invalid more.invalid;
}

use Rattle.std.proofs.Common.{◌≡◌, ◌<◌, ◌≤◌, ◌+◌, ◌*◌, ◌-◌, ◌^◌, arith}
use Rattle.gossip.proofs.Readying.{before, none_at_once}
use Rattle.gossip.proofs.bucket.Bucket.wait.Goals as goal

pub returns-clause-first : goal.returns-clause-first
returns-clause-first c = λ t lt.
    let inside = c.self.inside in
    let lacking = inside.high * 2 ^ 64 + inside.low in
    let cost = c.args.cost * 1000000000 in
    let full = inside.burst * 1000000000 in
    let holds = rw (← c.self.view_is) at c.requires.holds in
    let gains = rw (← c.self.view_is) at c.requires.gains in
    let lacks = rw (← c.self.view_is) at c.requires.lacks in
    let lacked = rw (← c.self.view_is) at c.lacking.ensures in
    let none = none_at_once inside.rate inside.at in
    let e : c.lacking.result - c.from-spare.result * 1000000000 ≡ lacking - (full - cost) = omega (arith, none, lacked, holds) in
    let fits : cost ≤ full = omega (arith, holds) in
    let some : 0 < lacking - (full - cost) = omega (arith, lacks, fits) in
    let lt' = rw (c.div_ceil.ensures, e, c.from.ensures, ← c.self.view_is) at lt in
    rw (← c.self.view_is) (before full lacking inside.rate inside.at cost t gains fits (omega (arith, lacks)) some lt')

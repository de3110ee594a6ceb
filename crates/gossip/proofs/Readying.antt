-- When a bucket does not yet have as many tokens.
use Rattle.std.proofs.Common.{◌≡◌, ◌≤◌, ◌<◌, ℕ, ◌+◌, ◌*◌, ◌-◌, arith, zero, suc}
use Rattle.std.specs.Int.{div_ceil}
use Rattle.std.proofs.lemmas.Grind.{div_ceil_times}
use Rattle.std.proofs.Math.Nat.{mul-le-mul_left}

-- one nanosecond less is too short
short : (rate lack wait : ℕ) → 0 < lack → wait * rate < lack + rate → rate * (wait - 1) < lack
short rate lack zero l h = let e : 0 - 1 ≡ 0 = omega arith in rw e (omega arith)
short rate lack (suc w) l h = let e : suc w - 1 ≡ w = omega arith in rw e (omega (arith, h))

-- until the wait is over it lacks too much
pub before : (full lacking rate at cost t : ℕ) → 0 < rate → cost ≤ full → 0 < cost → 0 < lacking - (full - cost)
    → t < at + div_ceil (lacking - (full - cost)) rate → full - (lacking - rate * (t - at)) < cost
before full lacking rate at cost t gains fits some lacks lt =
    let lack = lacking - (full - cost) in
    let wait = div_ceil lack rate in
    let least : wait * rate < lack + rate = (div_ceil_times lack rate gains).1 in
    let s = short rate lack wait lacks least in
    let m : rate * (t - at) ≤ rate * (wait - 1) = mul-le-mul_left rate (let le : t - at ≤ wait - 1 = omega arith in le) in
    omega (arith, m, s, fits, some)

-- nothing comes in at once
pub none_at_once : (rate at : ℕ) → rate * (at - at) ≡ 0
none_at_once rate at = let e : at - at ≡ 0 = omega arith in rw e (omega arith)

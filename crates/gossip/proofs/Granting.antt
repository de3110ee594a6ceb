-- What calls are charged over a span.
use Rattle.std.proofs.Common.{◌≡◌, ◌≤◌, ◌⊎◌, ℕ, ◌+◌, ◌*◌, ◌-◌, min, max, true, false, List, [], ◌∷◌, arith, refl, ap, inl, inr, le-leb}
use Rattle.std.specs.Prelude.{if◌then◌else◌}
use Rattle.std.proofs.lemmas.Bool.{leb-true}
use Rattle.std.proofs.Math.Nat.{mul-le-mul_left}
use Rattle.gossip.specs.declared.bucket.Call.{Call}
use Rattle.gossip.specs.Tokens.{Tokens, lacking_at, level_at, owed_at, after_charging, is_charged, after_call, after_calls, charged, AreRested, cost_of, GoesOn, end_of, excess, IsBounded}

-- an earlier lack is at most what came in between above a later one
pub more : (lacking rate x y z : ℕ) → x ≤ y + z
    → lacking - rate * y ≤ (lacking - rate * x) + rate * z
more lacking rate x y z h =
    let m : rate * x ≤ rate * (y + z) = mul-le-mul_left rate h in
    omega (arith, m)

pub lacks_less : (b : Tokens) (s t : ℕ) → s ≤ t → lacking_at b s ≤ lacking_at b t + b.rate * (t - s)
lacks_less b s t h = more b.lacking b.rate (t - b.at) (s - b.at) (t - s) (omega arith)

-- the last call is no earlier
pub ends_after : (from : ℕ) (cs : List Call) → GoesOn from cs → from ≤ end_of from cs
ends_after from [] g = omega arith
ends_after from (c ∷ cs) g = let h = ends_after c.now cs g.1 in omega (arith, g.0, h)

-- the parts of a span add up
adds_up : (rate from mid end : ℕ) → from ≤ mid → mid ≤ end → rate * (mid - from) + rate * (end - mid) ≡ rate * (end - from)
adds_up rate from mid end h g =
    let e : end - from ≡ (mid - from) + (end - mid) = omega arith in
    rw e (omega arith)

-- what comes in pays the debt first
pub paid : (b : Tokens) (now t : ℕ) → b.at ≤ now → now ≤ t
    → level_at b t ≡ min (b.burst * 1000000000) (level_at b now + (b.rate * (t - now) - owed_at b now))
paid b now t h g = let sum = adds_up b.rate b.at now t h g in omega (arith, sum)

-- nothing has come in when a call was charged
at_once : (lacking rate at now : ℕ) → lacking - rate * (now - max at now) ≡ lacking
at_once lacking rate at now =
    let e : now - max at now ≡ 0 = omega arith in
    rw e (omega arith)

-- nothing was charged, or what was charged and had been lacking came in, but for the excess
abbrev Within : Tokens → ℕ → List Call → Type 0
Within b from cs = (charged b cs ≡ 0)
    ⊎ (charged b cs * 1000000000 + lacking_at b from ≤ (b.burst + excess cs) * 1000000000 + b.rate * (end_of from cs - from))

within : (b : Tokens) (from : ℕ) (cs : List Call) → GoesOn from cs → Within b from cs
within b from [] g = inl refl
within b from (c ∷ cs) g =
    let end = end_of c.now cs in
    let grown = lacks_less b from c.now g.0 in
    let sum = adds_up b.rate from c.now end g.0 (ends_after c.now cs g.1) in
    let is = is_charged b c in
    (elim is as (λ t. is ≡ t → ((if t then c.cost else 0) + charged (if t then after_charging b c.now c.cost else b) cs ≡ 0)
    ⊎ (((if t then c.cost else 0) + charged (if t then after_charging b c.now c.cost else b) cs) * 1000000000 + lacking_at b from
    ≤ (b.burst + excess (c ∷ cs)) * 1000000000 + b.rate * (end - from))) [
      | true ↦ λ e.
          let had : max 1 c.needed * 1000000000 ≤ level_at b c.now = leb-true _ _ e in
          let after = after_charging b c.now c.cost in
          let start = at_once (lacking_at b c.now + c.cost * 1000000000) b.rate b.at c.now in
          (elim (within after c.now cs g.1) [
            | inl none ↦ inr (omega (arith, none, had, grown, sum))
            | inr most ↦ inr (omega (arith, most, start, had, grown, sum))
          ])
      | false ↦ λ e. (elim (within b c.now cs g.1) [
        | inl none ↦ inl (omega (arith, none))
        | inr most ↦ inr (omega (arith, most, grown, sum))
      ])
    ]) refl

call_keeps_rate : (b : Tokens) (c : Call) → (after_call b c).rate ≡ b.rate
call_keeps_rate b c = elim (is_charged b c) as (λ t. (if t then after_charging b c.now c.cost else b).rate ≡ b.rate) [ true ↦ refl | false ↦ refl ]

call_keeps_burst : (b : Tokens) (c : Call) → (after_call b c).burst ≡ b.burst
call_keeps_burst b c = elim (is_charged b c) as (λ t. (if t then after_charging b c.now c.cost else b).burst ≡ b.burst) [ true ↦ refl | false ↦ refl ]

pub keeps_rate : (b : Tokens) (cs : List Call) → (after_calls b cs).rate ≡ b.rate
keeps_rate b [] = refl
keeps_rate b (c ∷ cs) = rw (keeps_rate (after_call b c) cs) (call_keeps_rate b c)

pub keeps_burst : (b : Tokens) (cs : List Call) → (after_calls b cs).burst ≡ b.burst
keeps_burst b [] = refl
keeps_burst b (c ∷ cs) = rw (keeps_burst (after_call b c) cs) (call_keeps_burst b c)

pub bounded : (b : Tokens) (calls : List Call) → IsBounded b calls
bounded b calls before span after from e g =
    let b' = after_calls b before in
    let rate = ap (λ (r : ℕ). r * (end_of from span - from)) (keeps_rate b before) in
    let burst = keeps_burst b before in
    (elim (within b' from span g) [
      | inl none ↦ omega (arith, none)
      | inr most ↦ omega (arith, most, rate, burst)
    ])

-- whoever rests until the tokens are there is charged at each call
pub rested : (b : Tokens) (cs : List Call) → AreRested b cs → charged b cs ≡ cost_of cs
rested b [] r = refl
rested b (c ∷ cs) r = rw (le-leb (max 1 c.needed * 1000000000) (level_at b c.now) r.0)
    (ap (λ (x : ℕ). c.cost + x) (rested (after_charging b c.now c.cost) cs r.1))

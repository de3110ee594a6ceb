-- Believed.
-- What a bucket has and owes, in billionths of a token, and what calls are charged.
use Rattle.std.specs.Prelude.{◌≡◌, ◌≤◌, ℕ, Bool, ◌+◌, ◌*◌, ◌-◌, ◌^◌, min, max, nat_le, if◌then◌else◌, List, [], ◌∷◌, ◌++◌}
use Rattle.gossip.specs.declared.bucket.Call.{Call}

-- how a bucket is seen: what it gains a second, what it holds at most, and how many billionths it lacked
-- at a time to be full
pub record Tokens : Type 0 where
  pub rate : ℕ
  pub burst : ℕ
  pub at : ℕ
  pub lacking : ℕ

-- what it lacks at this time: what it lacked, less `rate` for each nanosecond since
abbrev pub lacking_at : Tokens → ℕ → ℕ
lacking_at b now = b.lacking - b.rate * (now - b.at)

-- what it has at this time: nothing while it lacks all that it holds, or more
abbrev pub level_at : Tokens → ℕ → ℕ
level_at b now = b.burst * 1000000000 - lacking_at b now

-- what it owes at this time: what it lacks beyond all that it holds
abbrev pub owed_at : Tokens → ℕ → ℕ
owed_at b now = lacking_at b now - b.burst * 1000000000

-- what a charge leaves, also if its cost was not there
abbrev pub after_charging : Tokens → ℕ → ℕ → Tokens
after_charging b now cost = record b {
  lacking = lacking_at b now + cost * 1000000000;
  at = max b.at now;
}

-- no more is lacking than a number of 128 bits can say
abbrev pub capped : Tokens → Tokens
capped b = record b { lacking = min (2 ^ 128 - 1) b.lacking }

-- whether a call is charged: the bucket has what the call needs, and at least a token
abbrev pub is_charged : Tokens → Call → Bool
is_charged b c = nat_le (max 1 c.needed * 1000000000) (level_at b c.now)

-- what a call leaves
abbrev pub after_call : Tokens → Call → Tokens
after_call b c = if is_charged b c then after_charging b c.now c.cost else b

-- what a call is charged
abbrev pub charge_of : Tokens → Call → ℕ
charge_of b c = if is_charged b c then c.cost else 0

-- what calls leave, one after another
abbrev pub after_calls : Tokens → List Call → Tokens
after_calls b [] = b
after_calls b (c ∷ cs) = after_calls (after_call b c) cs

-- what calls are charged together
abbrev pub charged : Tokens → List Call → ℕ
charged b [] = 0
charged b (c ∷ cs) = charge_of b c + charged (after_call b c) cs

-- each call is made when what it needs is there, and at least a token, as after a rest until then
abbrev pub AreRested : Tokens → List Call → Type 0
AreRested b [] = Unit {0}
AreRested b (c ∷ cs) = (max 1 c.needed * 1000000000 ≤ level_at b c.now)
    × AreRested (after_charging b c.now c.cost) cs

-- what calls cost together
abbrev pub cost_of : List Call → ℕ
cost_of [] = 0
cost_of (c ∷ cs) = c.cost + cost_of cs

-- from this time on, the times of calls do not go back
abbrev pub GoesOn : ℕ → List Call → Type 0
GoesOn from [] = Unit {0}
GoesOn from (c ∷ cs) = (from ≤ c.now) × GoesOn c.now cs

-- the time of the last call
abbrev pub end_of : ℕ → List Call → ℕ
end_of from [] = from
end_of from (c ∷ cs) = end_of c.now cs

-- by how much a call costs more than it needs, at most
abbrev pub excess : List Call → ℕ
excess [] = 0
excess (c ∷ cs) = max (c.cost - c.needed) (excess cs)

-- over any span of the calls in which times do not go back, however many calls there are before it and
-- after it, no more is charged than the burst, the rate for each nanosecond of the span, and the excess
abbrev pub IsBounded : Tokens → List Call → Type 0
IsBounded b calls = (before span after : List Call) (from : ℕ)
    → calls ≡ before ++ span ++ after → GoesOn from span
    → charged (after_calls b before) span * 1000000000
    ≤ (b.burst + excess span) * 1000000000 + b.rate * (end_of from span - from)

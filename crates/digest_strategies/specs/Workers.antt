-- Believed.
-- Workers that digest messages on other threads.
use Rattle.std.specs.Prelude.{ℕ, Option, None, Some}

-- a message that a worker digests, and the source that fires once it has
pub record Digesting (M : Type 0) : Type 0 where
  pub message : M
  pub source : ℕ

-- the worker waits for this source, if it is not joined yet
abbrev pub MayWaitFor : {W : Type 0} → (W → ℕ → Type 0) → Option W → ℕ → Type 0
MayWaitFor needs None source = ⊥
MayWaitFor needs (Some worker) source = needs worker source

-- the worker is not joined yet, and is one of this message
abbrev pub HoldsWorkerOf : {M W : Type 0} → (W → M → Type 0) → Option W → M → Type 0
HoldsWorkerOf is_of None message = ⊥
HoldsWorkerOf is_of (Some worker) message = is_of worker message

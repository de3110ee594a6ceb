-- Believed.
-- What a poll has registered with.
use Rattle.std.specs.Prelude.{ℕ, Option, Some, None, ⊤}
use Rattle.futures.specs.Task.{Hears}
use Rattle.futures.specs.declared.task.context.Context.{Context}

-- with each of these sources, or it has asked for another poll
abbrev pub HearsAll : Context → (ℕ → Type 0) → Type 0
HearsAll cx needs = (source : ℕ) → needs source → Hears cx source

-- with each source that the job in the slot waits for, if one is there
abbrev pub HearsJob : {P J : Type 0} → (J → ℕ → Type 0) → Context → Option (P × J) → Type 0
HearsJob needs cx None = ⊤
HearsJob needs cx (Some job) = HearsAll cx (needs job.1)

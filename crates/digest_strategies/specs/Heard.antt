-- Believed.
-- What a poll of a job has registered with.
use Rattle.std.specs.Prelude.{ℕ}
use Rattle.futures.specs.Task.{Hears}
use Rattle.futures.specs.declared.task.context.Context.{Context}

-- with each of these sources, or it has asked for another poll
abbrev pub HearsAll : Context → (ℕ → Type 0) → Type 0
HearsAll cx needs = (source : ℕ) → needs source → Hears cx source

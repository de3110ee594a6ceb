-- Believed.
-- What the programs run.
use Rattle.std.specs.Prelude.{◌≡◌, ◌^◌, ◌-◌, ℕ, false, List}
use Rattle.std.specs.List.{list_any}
use Rattle.std.specs.Ordering.{eq_by_cmp, nat_cmp}
use Rattle.std.specs.Cmp.Lexicographic.{slice_cmp}
use Rattle.sha2.specs.Sha256.{sha256}
use Rattle.broadcast_core.specs.Setting.{whole, Setting, setting}
use Rattle.broadcast_core.specs.Content.{same_by}
use Rattle.broadcast_core.specs.TestMessage.{Parts, encoding_of, read_message}
use Rattle.broadcast_world.specs.TwoRuns.{IsRun, without_hostile}
use Rattle.broadcast_world.specs.declared.step.Step.{Step}
use Rattle.broadcast_world.specs.declared.two_runs.Comparison.{Comparison}
use Rattle.programs.specs.declared.replay.settings.Settings.{Settings as ReplaySettings}
use Rattle.programs.specs.declared.world.settings.Settings.{Settings as WorldSettings}

-- what a run of `replay` with these settings is read by: no message is sent as priority
abbrev pub setting_of : ReplaySettings → Setting ℕ Parts (List ℕ)
setting_of it = setting it.own it.deque_size it.byte_budget false (same_by nat_cmp (slice_cmp nat_cmp))
    (λ m. sha256 m.content) encoding_of (whole (read_message it.range))

-- the two worlds have the nodes, hostile keys and limits of the settings, take messages of any length, and were left by
-- the runs of the steps, with the hostile ones and without
pub record AreRuns (it : WorldSettings) (steps : List (Step ℕ)) (both : Comparison ℕ) : Type 0 where
  pub nodes : (p : ℕ) → list_any (eq_by_cmp nat_cmp p) both.with_world.scene.nodes ≡ list_any (eq_by_cmp nat_cmp p) it.nodes
  pub hostile : (p : ℕ) → list_any (eq_by_cmp nat_cmp p) both.with_world.scene.hostile ≡ list_any (eq_by_cmp nat_cmp p) it.hostile
  pub deque_size : both.with_world.scene.deque_size ≡ it.deque_size
  pub byte_budget : both.with_world.scene.byte_budget ≡ it.byte_budget
  pub range : both.with_world.scene.range ≡ record { min = 0; max = 2 ^ 64 - 1 }
  pub same_scene : both.without_world.scene ≡ both.with_world.scene
  pub with_run : IsRun nat_cmp steps both.with_log.answers both.with_world
  pub without_run : IsRun nat_cmp (without_hostile steps) both.without_log.answers both.without_world

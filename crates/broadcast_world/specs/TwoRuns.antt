-- Believed.
-- Two runs: that of all steps, and the clean one, of the steps without the hostile ones.
use Rattle.std.specs.Prelude.{◌≡◌, ℕ, ◌*◌, ◌≤◌, Bool, true, false, not, ◌||◌, List, [], ◌++◌, length, map}
use Rattle.std.specs.List.{filter, list_any}
use Rattle.std.specs.Ordering.{eq_by_cmp}
use Rattle.std.specs.declared.cmp.Ordering.{Ordering}
use Rattle.broadcast_core.specs.Content.{among}
use Rattle.broadcast_core.specs.TestMessage.{Parts}
use Rattle.broadcast_core.specs.Happening.{Happening, peers}
use Rattle.broadcast_core.specs.Peers.{primary}
use Rattle.broadcast_core.specs.Lists.{list}
use Rattle.broadcast_core.specs.Cache.{is_listed, message}
use Rattle.broadcast_core.specs.declared.event.Cause.TheVariants.{Memory}
use Rattle.broadcast_core.specs.declared.event.Answer.TheVariants.{Refused}
use Rattle.broadcast_world.specs.Scene.{Scene, State}
use Rattle.broadcast_world.specs.World.{Log, log_of, at, history, AreAnswered}
use Rattle.broadcast_world.specs.Steps.{HasWorld}
use Rattle.broadcast_world.specs.declared.step.Step.{Step}
use Rattle.broadcast_world.specs.declared.step.Step.TheVariants.{Hostile}
use Rattle.broadcast_world.specs.declared.step.WorldAnswer.{WorldAnswer}
use Rattle.broadcast_world.specs.declared.step.WorldAnswer.TheVariants.{Given}

abbrev pub is_hostile : {P : Type 0} → Step P → Bool
is_hostile (Hostile from to bytes) = true
is_hostile _ = false

abbrev pub without_hostile : {P : Type 0} → List (Step P) → List (Step P)
without_hostile steps = filter (λ s. not (is_hostile s)) steps

abbrev pub refused_for_memory : WorldAnswer → Bool
refused_for_memory (Given (Refused Memory)) = true
refused_for_memory _ = false

module _ {P : Type 0} where
  -- no step of the log was refused for memory
  abbrev pub NoneRefused : Log P → Type 0
  NoneRefused log = list_any (λ x. refused_for_memory x.1) log ≡ false

  -- a moment of a run: its log up to some step
  abbrev pub IsMoment : Log P → Log P → Type 0
  IsMoment now log = (later : Log P) × (log ≡ later ++ now)

  -- corresponding moments: after the same steps, hostile ones not counted
  abbrev pub Corresponds : Log P → Log P → Type 0
  Corresponds now clean = map (λ x. x.0) clean ≡ without_hostile (map (λ x. x.0) now)

  -- corresponding moments of two runs, until which neither was refused for memory
  pub record AreMoments (log clean_log now clean : Log P) : Type 0 where
    pub reached : IsMoment now log
    pub clean_reached : IsMoment clean clean_log
    pub same_steps : Corresponds now clean
    pub unrefused : NoneRefused now
    pub unrefused_clean : NoneRefused clean

module _ {P : Type 0} (cmp : P → P → Ordering) where
  -- the steps were run in a new world, gave these answers, and left this world
  pub record IsRun (steps : List (Step P)) (answers : List WorldAnswer) (last : State P)
      : Type 0 where
    pub one_each : length answers ≡ length steps
    pub answered : AreAnswered cmp last.scene (log_of steps answers) []
    pub world : HasWorld cmp (log_of steps answers) last

  -- at corresponding moments, a node with no primary key that is hostile caches the digests that it
  -- caches in the clean run
  abbrev pub HasCleanDigests : Scene P → Log P → Log P → Type 0
  HasCleanDigests w log clean_log = (now clean : Log P) → AreMoments log clean_log now clean
      → (n : P) → list_any (λ p. list_any (eq_by_cmp cmp p) w.hostile)
      (primary (at cmp w n) (history cmp w n now)) ≡ false
      → (d : List ℕ) → is_listed (at cmp w n) d (history cmp w n now)
      ≡ is_listed (at cmp w n) d (history cmp w n clean)

  -- at corresponding moments, each node's list for each key that is not hostile is that of the clean
  -- run
  abbrev pub HasHonestLists : Scene P → Log P → Log P → Type 0
  HasHonestLists w log clean_log = (now clean : Log P) → AreMoments log clean_log now clean
      → (n p : P) → list_any (eq_by_cmp cmp p) w.hostile ≡ false
      → list (at cmp w n) p (history cmp w n now) ≡ list (at cmp w n) p (history cmp w n clean)

  module _ (w : Scene P) where
    -- the keys that are hostile
    abbrev pub hostile_among : List P → List P
    hostile_among ps = filter (λ p. list_any (eq_by_cmp cmp p) w.hostile) ps

    -- whether a happening is a peer set with a hostile key
    abbrev pub admits : Happening P Parts (List ℕ) ℕ ℕ → Bool
    admits (peers ps) = list_any (λ p. list_any (eq_by_cmp cmp p) w.hostile) ps
    admits _ = false

    -- no peer set of the node ever held a hostile key
    abbrev pub AdmitsNone : P → Log P → Type 0
    AdmitsNone n log = list_any admits (history cmp w n log) ≡ false

    -- a node caches what it caches in the clean run, and at most `deque_size` digests more for each
    -- hostile key in its primary set
    pub record HasFewMore (n : P) (now clean : Log P) : Type 0 where
      pub more : List (List ℕ)
      pub few : length more
          ≤ w.deque_size * length (hostile_among (primary (at cmp w n) (history cmp w n now)))
      pub cached : (d : List ℕ) → is_listed (at cmp w n) d (history cmp w n now)
          ≡ (is_listed (at cmp w n) d (history cmp w n clean) || among (at cmp w n).same.digest d more)

  -- at corresponding moments, each node caches few digests more than in the clean run
  abbrev pub HasFewMoreDigests : Scene P → Log P → Log P → Type 0
  HasFewMoreDigests w log clean_log = (now clean : Log P) → AreMoments log clean_log now clean
      → (n : P) → HasFewMore w n now clean

  -- at corresponding moments, a node whose peer sets never held a hostile key caches the messages
  -- that it caches in the clean run
  abbrev pub HasCleanCaches : Scene P → Log P → Log P → Type 0
  HasCleanCaches w log clean_log = (now clean : Log P) → AreMoments log clean_log now clean
      → (n : P) → AdmitsNone w n now
      → (d : List ℕ) → message (at cmp w n) d (history cmp w n now)
      ≡ message (at cmp w n) d (history cmp w n clean)

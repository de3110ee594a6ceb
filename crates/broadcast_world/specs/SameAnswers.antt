-- Believed.
-- The answers of two runs: that of all steps, and the clean one.
use Rattle.std.specs.Prelude.{◌≡◌, ℕ, Bool, true, false, ◌&&◌, List, ◌∷◌, ◌++◌, None, Some, Result, Ok, Err}
use Rattle.std.specs.List.{list_any}
use Rattle.std.specs.Ordering.{eq_by_cmp, nat_cmp}
use Rattle.std.specs.Cmp.Lexicographic.{slice_cmp}
use Rattle.std.specs.declared.cmp.Ordering.{Ordering}
use Rattle.sha2.specs.Sha256.{sha256}
use Rattle.broadcast_core.specs.Carried.{Carried}
use Rattle.broadcast_core.specs.Setting.{whole}
use Rattle.broadcast_core.specs.TestMessage.{Parts, read_message}
use Rattle.broadcast_core.specs.declared.codec.CodecError.{CodecError}
use Rattle.broadcast_core.specs.declared.event.Event.TheVariants as event
use Rattle.broadcast_world.specs.Scene.{Scene}
use Rattle.broadcast_world.specs.World.{Log, NodeEvent, history}
use Rattle.broadcast_world.specs.TwoRuns.{AdmitsNone, AreMoments}
use Rattle.broadcast_world.specs.Requests.{HandsOwnDigests, IsTaken, SharesNoDigest, answer_so_far, asked_for, newest, waits_so_far}
use Rattle.broadcast_world.specs.declared.step.Step.{Step}
use Rattle.broadcast_world.specs.declared.step.Step.TheVariants.{Hostile}
use Rattle.broadcast_world.specs.declared.step.WorldAnswer.{WorldAnswer}

module _ {P : Type 0} (cmp : P → P → Ordering) (w : Scene P) where
  -- an event of a node is the newest step at corresponding moments, and moments correspond again once
  -- newer steps were taken
  pub record IsAsked (log clean_log : Log P) (n : P) (e : NodeEvent P)
      (asked newer clean newer_clean : Log P) : Type 0 where
    pub newest : newest cmp w asked ≡ Some (n, e)
    pub at_first : AreMoments log clean_log asked clean
    pub at_last : AreMoments log clean_log (newer ++ asked) (newer_clean ++ clean)

  -- an answer in the run of all steps, beside that of the clean run: its message was taken at the
  -- node under the digest that was asked for; that is its own digest, if the node's broadcasts hand
  -- in their own digests; and it is the clean run's message, if no two different messages that the
  -- node took go by one digest
  pub record IsAnswerBeside (n : P) (d : List ℕ) (now : Log P)
      (clean answer : Carried Parts (List ℕ)) : Type 0 where
    pub taken : IsTaken cmp w n answer (history cmp w n now)
    pub digest : answer.digest ≡ d
    pub own : HandsOwnDigests cmp w (history cmp w n now) → d ≡ sha256 answer.message.content
    pub same : SharesNoDigest cmp w n (history cmp w n now) → answer ≡ clean

  -- each request that is answered with a message in the clean run is answered with one in the run of
  -- all steps, no later
  abbrev pub KeepsAnswers : Log P → Log P → Type 0
  KeepsAnswers log clean_log = (n : P) (e : NodeEvent P) (asked newer clean newer_clean : Log P)
      → IsAsked log clean_log n e asked newer clean newer_clean
      → (c : Carried Parts (List ℕ)) → answer_so_far cmp w n e clean newer_clean ≡ Some c
      → (a : Carried Parts (List ℕ)) × (answer_so_far cmp w n e asked newer ≡ Some a)
      × IsAnswerBeside n (asked_for e) (newer ++ asked) c a

  -- each subscribe that waits in the run of all steps waits in the clean run
  abbrev pub WaitsInBoth : Log P → Log P → Type 0
  WaitsInBoth log clean_log = (n : P) (e : NodeEvent P) (asked newer clean newer_clean : Log P)
      → IsAsked log clean_log n e asked newer clean newer_clean
      → waits_so_far cmp w n e asked newer ≡ true → waits_so_far cmp w n e clean newer_clean ≡ true

  -- each get at a node whose peer sets never held a hostile key has the answer that it has in the
  -- clean run
  abbrev pub HasCleanGets : Log P → Log P → Type 0
  HasCleanGets log clean_log = (x y : Step P × WorldAnswer) (now clean : Log P)
      → AreMoments log clean_log (x ∷ now) (y ∷ clean)
      → (n : P) (t : ℕ) (d : List ℕ) → newest cmp w (x ∷ now) ≡ Some (n, event.Get t d)
      → AdmitsNone cmp w n (x ∷ now) → x.1 ≡ y.1

  -- whether the bytes that were read are a message with this own digest
  abbrev pub is_message_of : List ℕ → Result Parts CodecError → Bool
  is_message_of d (Ok m) = eq_by_cmp (slice_cmp nat_cmp) d (sha256 m.content)
  is_message_of d (Err why) = false

  -- whether a step hands a node a payload of a hostile key whose message has this own digest
  abbrev pub hands : P → List ℕ → Step P → Bool
  hands n d (Hostile from to bytes) = list_any (eq_by_cmp cmp from) w.hostile
      && (eq_by_cmp cmp n to && is_message_of d (whole (read_message w.range) bytes))
  hands n d _ = false

  -- a request that is answered with a message before the clean run answers it, or though the clean
  -- run never does, asks for a digest that a hostile step has handed to the node
  abbrev pub AddsHostileAnswers : Log P → Log P → Type 0
  AddsHostileAnswers log clean_log =
      (n : P) (e : NodeEvent P) (asked newer clean newer_clean : Log P)
      → IsAsked log clean_log n e asked newer clean newer_clean
      → (a : Carried Parts (List ℕ)) → answer_so_far cmp w n e asked newer ≡ Some a
      → answer_so_far cmp w n e clean newer_clean ≡ None
      → list_any (λ x. hands n (asked_for e) x.0) (newer ++ asked) ≡ true

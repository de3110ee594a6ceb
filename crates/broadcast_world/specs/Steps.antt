-- Believed.
-- What steps leave of a world.
use Rattle.std.specs.Prelude.{◌≡◌, ℕ, IsTrue, List, ◌++◌, length}
use Rattle.std.specs.List.{AllZip}
use Rattle.std.specs.declared.cmp.Ordering.{Ordering}
use Rattle.std.specs.Ordering.{eq_by_cmp}
use Rattle.broadcast_core.specs.Content.{Content, charged_at, message_at, waiting_at}
use Rattle.broadcast_core.specs.Concerns.{AreEqual}
use Rattle.broadcast_core.specs.Peers.{primary}
use Rattle.broadcast_core.specs.Lists.{charged_list}
use Rattle.broadcast_core.specs.Cache.{message}
use Rattle.broadcast_core.specs.Waiting.{waiting_for}
use Rattle.broadcast_core.specs.TestMessage.{Parts}
use Rattle.broadcast_world.specs.Packet.{Packet}
use Rattle.broadcast_world.specs.Scene.{Scene, State}
use Rattle.broadcast_world.specs.World.{Log, log_of, NodeHistory, at, packets, history, AreAnswered}
use Rattle.broadcast_world.specs.declared.step.Step.{Step}
use Rattle.broadcast_world.specs.declared.step.WorldAnswer.{WorldAnswer}

abbrev pub NodeContent : Type 0 → Type 0
NodeContent P = Content P Parts (List ℕ) ℕ

module _ {P : Type 0} (cmp : P → P → Ordering) (w : Scene P) where
  -- a node has what the history of its key gives; it holds copies of keys, which equal those given
  pub record HasNode (n : P) (past : NodeHistory P) (core : NodeContent P) : Type 0 where
    pub own : IsTrue (eq_by_cmp cmp n core.own)
    pub deque_size : core.deque_size ≡ w.deque_size
    pub byte_budget : core.byte_budget ≡ w.byte_budget
    pub primary : AreEqual (eq_by_cmp cmp) (primary (at cmp w n) past) core.primary
    pub lists : (p : P) → charged_at (at cmp w n).same core p ≡ charged_list (at cmp w n) p past
    pub cached : (d : List ℕ) → message_at (at cmp w n).same core d ≡ message (at cmp w n) d past
    pub waiters :
        (d : List ℕ) → waiting_at (at cmp w n).same core d ≡ waiting_for (at cmp w n) d past

module _ {P : Type 0} (cmp : P → P → Ordering) where
  -- the packets are the same, one by one; their keys are copies, which equal those given
  abbrev pub AreCopies : List (Packet P) → List (Packet P) → Type 0
  AreCopies copies given = AllZip (λ a b. IsTrue (eq_by_cmp cmp a.sender b.sender)
      × IsTrue (eq_by_cmp cmp a.addressee b.addressee) × (a.bytes ≡ b.bytes)) copies given

  -- the world has what the steps of the log leave: the packets, and each node the content of its
  -- history
  pub record HasWorld (log : Log P) (now : State P) : Type 0 where
    pub cores : AllZip (λ n core. HasNode cmp now.scene n (history cmp now.scene n log) core)
        now.scene.nodes now.cores
    pub packets : AreCopies now.packets (packets cmp now.scene log)

  -- a list of steps, after a log
  pub record TakesSteps (log : Log P) (steps : List (Step P)) (answers : List WorldAnswer)
      (old new : State P) : Type 0 where
    pub scene : new.scene ≡ old.scene
    -- each step has its answer
    pub one_each : length answers ≡ length steps
    -- one that it may be given after all steps before it
    pub answered : AreAnswered cmp old.scene (log_of steps answers) log
    -- contents and packets are those of all steps
    pub world : HasWorld (log_of steps answers ++ log) new

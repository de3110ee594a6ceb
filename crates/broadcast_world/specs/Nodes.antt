-- Internal.
-- What the nodes of a world have at first, and what one event at a node leaves.
use Rattle.std.specs.Prelude.{◌≡◌, ℕ, if◌then◌else◌, List, ◌∷◌, Option, None, Some, slice_set, IsTrue}
use Rattle.std.specs.List.{slice_get, AllZip}
use Rattle.std.specs.declared.cmp.Ordering.{Ordering}
use Rattle.broadcast_core.specs.TestMessage.{Parts}
use Rattle.broadcast_core.specs.Log.{after, is_refused}
use Rattle.broadcast_core.specs.declared.event.Answer.{Answer}
use Rattle.broadcast_world.specs.Scene.{Scene, State}
use Rattle.broadcast_world.specs.World.{Log, NodeEvent, NodeHistory, NodeMayAnswer, at, MayAnswer}
use Rattle.broadcast_world.specs.declared.step.Step.{Step}
use Rattle.broadcast_world.specs.declared.step.WorldAnswer.{WorldAnswer}
use Rattle.broadcast_world.specs.declared.step.WorldAnswer.TheVariants.{Given, NoSuch}
use Rattle.broadcast_world.specs.Steps.{NodeContent, HasNode, HasWorld}
use Rattle.std.specs.Ordering.{eq_by_cmp}
use Rattle.broadcast_core.specs.Empty.{empty}

module _ {P : Type 0} (cmp : P → P → Ordering) (w : Scene P) where
  -- an event at node n, after a history of it, is given an answer that it may have; refused, it
  -- changes nothing
  pub record NodeTakes (n : P) (past : NodeHistory P) (e : NodeEvent P)
      (a : Answer Parts (List ℕ)) (new : NodeContent P) : Type 0 where
    pub answered : NodeMayAnswer cmp w n e past a
    pub content : HasNode cmp w n (if is_refused a then past else after (at cmp w n) e past) new

  -- whatever history gave the node its content
  abbrev pub NodeFollows : P → NodeEvent P → NodeContent P → NodeContent P
      → Answer Parts (List ℕ) → Type 0
  NodeFollows n e old new a =
      (past : NodeHistory P) → HasNode cmp w n past old → NodeTakes n past e a new

  -- an event at node n changes that node's content alone
  pub record ChangesNode (n : P) (e : NodeEvent P) (a : Answer Parts (List ℕ))
      (old new : List (NodeContent P)) : Type 0 where
    pub place : ℕ
    pub is_node : slice_get w.nodes place ≡ Some n
    pub before : NodeContent P
    pub was : slice_get old place ≡ Some before
    pub core : NodeContent P
    pub only : new ≡ slice_set old place core
    pub follows : NodeFollows n e before core a

  -- an event at a node is given the node's answer; without an event nothing changes
  abbrev pub AtNode : Option (P × NodeEvent P) → List (NodeContent P) → List (NodeContent P)
      → WorldAnswer → Type 0
  AtNode None old new answer = (answer ≡ NoSuch) × (new ≡ old)
  AtNode (Some e) old new answer =
      (a : Answer Parts (List ℕ)) × (answer ≡ Given a) × ChangesNode e.0 e.1 a old new

module _ {P : Type 0} (cmp : P → P → Ordering) where
  -- one more step, after a log
  pub record TakesStep (log : Log P) (step : Step P) (answer : WorldAnswer)
      (old new : State P) : Type 0 where
    pub scene : new.scene ≡ old.scene
    pub answered : MayAnswer cmp old.scene (step, answer) log
    pub world : HasWorld cmp ((step, answer) ∷ log) new

-- one node without a history for each key; its own key is a copy, which equals that given
abbrev pub AreEmpty : {P : Type 0} → (P → P → Ordering) → ℕ → ℕ → List P → List (NodeContent P)
    → Type 0
AreEmpty cmp deque_size byte_budget nodes cores = AllZip (λ n core.
    IsTrue (eq_by_cmp cmp n core.own) × (core ≡ empty core.own deque_size byte_budget)) nodes cores

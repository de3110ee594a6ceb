-- One step of a world, from what it makes of one node.
use Rattle.std.proofs.Common.{◌≡◌, ℕ, false, if◌then◌else◌, List, ◌++◌, Option, Some, None, refl, sym, subst}
use Rattle.std.specs.List.{AllZip, IsDistinct}
use Rattle.std.specs.Cmp.{IsTotalOrder, eq_by_cmp_equiv}
use Rattle.std.specs.Ordering.{eq_by_cmp}
use Rattle.std.specs.declared.cmp.Ordering.{Ordering}
use Rattle.broadcast_core.proofs.Distinct.{by_test}
use Rattle.broadcast_core.specs.Log.{after, is_refused}
use Rattle.broadcast_core.specs.TestMessage.{Parts}
use Rattle.broadcast_core.specs.declared.event.Answer.{Answer}
use Rattle.broadcast_world.specs.Packet.{Packet}
use Rattle.broadcast_world.specs.Scene.{Scene}
use Rattle.broadcast_world.specs.World.{Log, NodeEvent, NodeHistory, at, packets, made_by, unless_refused, event_of, history, history_with}
use Rattle.broadcast_world.specs.Steps.{AreCopies, HasNode, HasWorld, NodeContent}
use Rattle.broadcast_world.specs.Nodes.{AtNode, ChangesNode, TakesStep}
use Rattle.broadcast_world.specs.declared.step.Step.{Step}
use Rattle.broadcast_world.specs.declared.step.WorldAnswer.{WorldAnswer}
use Rattle.broadcast_world.specs.declared.step.WorldAnswer.TheVariants.{Given}
use Rattle.broadcast_world.proofs.Places.{AllZip-at, AllZip-changed}

module _ {P : Type 0} (cmp : P → P → Ordering) (w : Scene P) where
  module _ (o : IsTotalOrder cmp) (apart : IsDistinct (eq_by_cmp cmp) w.nodes) where
    -- the node's history grows by what it accepted, and no other
    own_history : (n : P) (e : NodeEvent P) (a : Answer Parts (List ℕ)) (past : NodeHistory P)
        → history_with cmp w n (unless_refused cmp w (Given a) (Some (n, e))) past ≡ (if is_refused a then past else after (at cmp w n) e past)
    own_history n e a past = by_test (is_refused a)
        (λ t. rw t refl)
        (λ t. rw (t, (eq_by_cmp_equiv o).refl n) refl)

    other_history : (n q : P) (e : NodeEvent P) (a : Answer Parts (List ℕ)) (past : NodeHistory P) → eq_by_cmp cmp q n ≡ false
        → history_with cmp w q (unless_refused cmp w (Given a) (Some (n, e))) past ≡ past
    other_history n q e a past h = by_test (is_refused a)
        (λ t. rw t refl)
        (λ t. rw (t, h) refl)

    contents : (n : P) (e : NodeEvent P) (a : Answer Parts (List ℕ)) (past : P → NodeHistory P) (old new : List (NodeContent P))
        → AllZip (λ q core. HasNode cmp w q (past q) core) w.nodes old → ChangesNode cmp w n e a old new
        → AllZip (λ q core. HasNode cmp w q (history_with cmp w q (unless_refused cmp w (Given a) (Some (n, e))) (past q)) core) w.nodes new
    contents n e a past old new has changes =
        let was = AllZip-at (λ q core. HasNode cmp w q (past q) core) w.nodes old changes.place n changes.before has changes.is_node changes.was in
        let now = changes.follows (past n) was in
        rw changes.only (AllZip-changed (eq_by_cmp cmp) (eq_by_cmp_equiv o)
        (λ q core. HasNode cmp w q (past q) core)
        (λ q core. HasNode cmp w q (history_with cmp w q (unless_refused cmp w (Given a) (Some (n, e))) (past q)) core)
        n
        (λ q core h has. subst (λ es. HasNode cmp w q es core) (sym (other_history n q e a (past q) h)) has)
        w.nodes old changes.place changes.core apart changes.is_node has
        (subst (λ es. HasNode cmp w n es changes.core) (sym (own_history n e a (past n))) now.content))

    -- a step that gives a node an event, or gives none
    pub TakesStep-at : (log : Log P) (step : Step P) (answer : WorldAnswer) (e : Option (P × NodeEvent P))
        {old_cores new_cores : List (NodeContent P)} {old_packets new_packets : List (Packet P)}
        → event_of cmp w step (packets cmp w log) ≡ e
        → AtNode cmp w e old_cores new_cores answer
        → AreCopies cmp new_packets (packets cmp w log ++ made_by cmp w (unless_refused cmp w answer (event_of cmp w step (packets cmp w log))))
        → HasWorld cmp log (record { scene = w; cores = old_cores; packets = old_packets })
        → TakesStep cmp log step answer (record { scene = w; cores = old_cores; packets = old_packets }) (record { scene = w; cores = new_cores; packets = new_packets })
    TakesStep-at log step answer None is done made has =
        record {
          scene = refl;
          answered = rw is done.0;
          world = record { cores = rw (done.0, is, done.1) has.cores; packets = made };
        }
    TakesStep-at log step answer (Some e) {old_cores} {new_cores} is done made has =
        let was = AllZip-at (λ q core. HasNode cmp w q (history cmp w q log) core) w.nodes old_cores done.2.place e.0 done.2.before has.cores done.2.is_node done.2.was in
        let now = done.2.follows (history cmp w e.0 log) was in
        record {
          scene = refl;
          answered = rw (is, done.1) now.answered;
          world = record {
            cores = rw (done.1, is) (contents e.0 e.1 done.0 (λ q. history cmp w q log) old_cores new_cores has.cores done.2);
            packets = made;
          };
        }

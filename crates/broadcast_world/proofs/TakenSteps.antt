-- A list of steps, one after the other.
use Rattle.std.proofs.Common.{◌≡◌, ℕ, ◌+◌, ◌<◌, List, [], ◌∷◌, ◌++◌, length, reverse, take, get_or, refl, sym, ap, ◌∙◌, subst, arith, length-append}
use Rattle.std.specs.List.{zip}
use Rattle.std.specs.declared.cmp.Ordering.{Ordering}
use Rattle.std.proofs.lemmas.List.{reverse-append, take_more}
use Rattle.broadcast_world.specs.Scene.{State}
use Rattle.broadcast_world.specs.World.{Log, log_of, MayAnswer, AreAnswered}
use Rattle.broadcast_world.specs.Steps.{HasWorld, TakesSteps}
use Rattle.broadcast_world.specs.Nodes.{TakesStep}
use Rattle.broadcast_world.specs.declared.step.Step.{Step}
use Rattle.broadcast_world.specs.declared.step.WorldAnswer.{WorldAnswer}

zip-push : {A B : Type 0} (xs : List A) (ys : List B) (x : A) (y : B) → length ys ≡ length xs → zip (xs ++ x ∷ []) (ys ++ y ∷ []) ≡ zip xs ys ++ (x, y) ∷ []
zip-push [] [] x y h = refl
zip-push [] (b ∷ ys) x y h = absurd (omega arith)
zip-push (a ∷ xs) [] x y h = absurd (omega arith)
zip-push (a ∷ xs) (b ∷ ys) x y h = ap (λ zs. (a, b) ∷ zs) (zip-push xs ys x y (omega arith))

module _ {P : Type 0} (cmp : P → P → Ordering) where
  log_of-push : (steps : List (Step P)) (answers : List WorldAnswer) (step : Step P) (a : WorldAnswer) → length answers ≡ length steps
      → log_of (steps ++ step ∷ []) (answers ++ a ∷ []) ≡ (step, a) ∷ log_of steps answers
  log_of-push steps answers step a h = ap (λ zs. reverse zs) (zip-push steps answers step a h) ∙ reverse-append (zip steps answers) ((step, a) ∷ [])

  -- one step more
  pub TakesSteps-push : {log : Log P} {steps : List (Step P)} {answers : List WorldAnswer} {step : Step P} {a : WorldAnswer} {old now new : State P}
      → TakesSteps cmp log steps answers old now → ((past : Log P) → HasWorld cmp past now → TakesStep cmp past step a now new)
      → TakesSteps cmp log (steps ++ step ∷ []) (answers ++ a ∷ []) old new
  TakesSteps-push {log} {steps} {answers} {step} {a} {old} {now} {new} before next =
      let taken = next (log_of steps answers ++ log) before.world in
      let more : log_of (steps ++ step ∷ []) (answers ++ a ∷ []) ≡ (step, a) ∷ log_of steps answers = log_of-push steps answers step a before.one_each in
      let given : MayAnswer cmp old.scene (step, a) (log_of steps answers ++ log) = subst (λ w. MayAnswer cmp w (step, a) (log_of steps answers ++ log)) before.scene taken.answered in
      record {
        scene = taken.scene ∙ before.scene;
        one_each = omega (arith, length-append answers (a ∷ []), length-append steps (step ∷ []), before.one_each);
        answered = subst (λ l. AreAnswered cmp old.scene l log) (sym more) (given, before.answered);
        world = subst (λ l. HasWorld cmp (l ++ log) new) (sym more) taken.world;
      }

  -- the step at the next place
  pub TakesSteps-next : {log : Log P} (all : List (Step P)) (i : ℕ) {answers others : List WorldAnswer} {step : Step P} {a : WorldAnswer} {old now new : State P}
      → i < length all → step ≡ get_or all i step → others ≡ answers ++ a ∷ []
      → TakesSteps cmp log (take i all) answers old now → ((past : Log P) → HasWorld cmp past now → TakesStep cmp past step a now new)
      → TakesSteps cmp log (take (i + 1) all) others old new
  TakesSteps-next all i {step = step} within is pushed before next =
      let more : take (i + 1) all ≡ take i all ++ step ∷ [] = take_more all i step within ∙ ap (λ s. take i all ++ s ∷ []) (sym is) in
      rw (more, pushed) (TakesSteps-push before next)

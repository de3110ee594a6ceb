-- What holds of the output of a closure that is polled until it is ready.
use Rattle.std.proofs.Common.{List, [], ◌∷◌, sym, subst}
use Rattle.std.specs.Fn.{Called}
use denote.Ref.{MutBor}
use Rattle.futures.specs.Polling.{Poller, Waited, PollsTo}
use Rattle.futures.specs.declared.task.Poll.TheVariants.{Ready, Pending}
use Rattle.futures.specs.declared.task.context.Context.{Context}

Waited-back : {F A : Type 0} (g : Poller F A) (V : F → A → Type 0)
    → ((p : F) (cx left : MutBor Context) (q : F) → Called g p (cx, tt) (Pending, (left, tt)) q → (x : A) → V q x → V p x)
    → (before : List (MutBor Context)) (p q : F) → Waited g p before q → (x : A) → V q x → V p x
Waited-back g V pending [] p q waited x h = subst (λ f. V f x) (sym waited) h
Waited-back g V pending (cx ∷ rest) p q waited x h =
    pending p cx waited.1.0 waited.0 waited.1.1 x (Waited-back g V pending rest waited.0 q waited.2 x h)

-- what holds of a call that is ready, and goes back over one that is pending, holds from the first call on
pub PollsTo-from : {F A : Type 0} {g : Poller F A} {f : F} {x : A} → PollsTo g f x → (V : F → A → Type 0)
    → ((p : F) (cx left : MutBor Context) (q : F) → Called g p (cx, tt) (Pending, (left, tt)) q → (y : A) → V q y → V p y)
    → ((p : F) (cx left : MutBor Context) (q : F) (y : A) → Called g p (cx, tt) (Ready y, (left, tt)) q → V p y) → V f x
PollsTo-from {F} {A} {g} {f} {x} polled V pending ready = Waited-back g V pending polled.before f polled.state polled.waited x
    (ready polled.state polled.ready.0 polled.ready.1 polled.ready.2 x polled.ready.3)

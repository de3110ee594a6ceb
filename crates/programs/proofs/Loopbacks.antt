-- Broadcasts that pass an inbox.
use Rattle.std.proofs.Common.{◌≡◌, ℕ, zero, suc, ◌+◌, ◌<◌, ◌≤◌, List, [], ◌∷◌, length, take, get_or, set, refl, sym, ap, ◌∙◌, subst, arith}
use Rattle.broadcast_core.specs.declared.event.Event.{Event}
use Rattle.broadcast_mailbox.specs.Mailbox.{MailboxState}
use Rattle.programs.specs.Loopback.{IsIdle, passed, broadcasts_by, broadcasts_in}

-- an element that is written as it was
pub set-same : {X : Type 0} (xs : List X) (i : ℕ) (last d : X) → last ≡ get_or xs i d → set xs i last ≡ xs
set-same [] i last d is = refl
set-same (x ∷ xs) zero last d is = ap (λ y. y ∷ xs) is
set-same (x ∷ xs) (suc i) last d is = ap (λ ys. x ∷ ys) (set-same xs i last d is)

module _ {P M D : Type 0} where
  -- one event more
  more : (events : List (Event P M D)) (i : ℕ) (d : Event P M D) → i < length events
      → broadcasts_in (take (suc i) events) ≡ broadcasts_in (take i events) + broadcasts_by (get_or events i d)
  more [] i d inside = absurd (omega (arith, inside))
  more (event ∷ events) zero d inside = omega arith
  more (event ∷ events) (suc i) d inside = omega (arith, more events i d (omega (arith, inside)))

  pub broadcasts_in-more : (events : List (Event P M D)) (i : ℕ) (d : Event P M D) → i < length events
      → broadcasts_in (take (i + 1) events) ≡ broadcasts_in (take i events) + broadcasts_by (get_or events i d)
  broadcasts_in-more events i d inside =
      let next : i + 1 ≡ suc i = omega arith in
      ap (λ (n : ℕ). broadcasts_in (take n events)) next ∙ more events i d inside

  -- no more than there are
  pub broadcasts_in-take : (events : List (Event P M D)) (i : ℕ) → broadcasts_in (take i events) ≤ broadcasts_in events
  broadcasts_in-take events zero = omega arith
  broadcasts_in-take [] (suc i) = omega arith
  broadcasts_in-take (event ∷ events) (suc i) = omega (arith, broadcasts_in-take events i)

module _ {T : Type 0} where
  -- the mailbox with another next ticket, and another number of requests that were taken
  abbrev counted : MailboxState T → ℕ → ℕ → MailboxState T
  counted state next taken = record state { queue = record state.queue { next = next }; taken = taken }

  -- some requests pass, and then others
  pub passed-more : (old mid new : MailboxState T) (some others all : ℕ) → mid ≡ passed old some → new ≡ passed mid others → all ≡ some + others → new ≡ passed old all
  passed-more old mid new some others all first second is =
      let both : new ≡ counted old (old.queue.next + some + others) (old.taken + some + others) = subst (λ (s : MailboxState T). new ≡ passed s others) first second in
      let next : old.queue.next + some + others ≡ old.queue.next + all = omega (arith, is) in
      let taken : old.taken + some + others ≡ old.taken + all = omega (arith, is) in
      both ∙ ap (λ (n : ℕ). counted old n (old.taken + some + others)) next ∙ ap (λ (n : ℕ). counted old (old.queue.next + all) n) taken

  -- a mailbox that was idle still is, with fewer tickets left
  pub IsIdle-passed : (old new : MailboxState T) (some others all : ℕ) → new ≡ passed old some → some + others ≤ all → IsIdle old all → IsIdle new others
  IsIdle-passed old new some others all is fits idle =
      subst (λ (s : MailboxState T). IsIdle s others) (sym is) (record {
        is_open = idle.is_open;
        nobody = idle.nobody;
        left = omega (arith, idle.left, fits);
      })

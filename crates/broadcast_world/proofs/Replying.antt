-- The messages that a run's answers tell of are those with which its history replied.
use Rattle.std.proofs.Common.{◌≡◌, ℕ, if◌then◌else◌, List, [], ◌∷◌, ◌++◌, length, map, reverse, Option, Some, None, Result, Ok, Err, inl, inr, refl, sym, ap, ◌∙◌, subst, arith, append-nil}
use Rattle.std.specs.List.{flat_map, zip}
use Rattle.std.proofs.lemmas.List.{reverse-append, reverse-reverse}
use Rattle.std.proofs.lemmas.Grind.{flat_map-append}
use Rattle.broadcast_core.specs.Carried.{Carried}
use Rattle.broadcast_core.specs.Content.{first_places}
use Rattle.broadcast_core.specs.Setting.{Setting, own_digested}
use Rattle.broadcast_core.specs.Happening.{History, broadcast, arrival, subscribe, peers, get}
use Rattle.broadcast_core.specs.Cache.{message}
use Rattle.broadcast_core.specs.Waiting.{Awaiting, replied_at}
use Rattle.broadcast_core.specs.Log.{Log, after, history, log_of, is_refused}
use Rattle.broadcast_core.specs.Answers.{answer_to, answer_to_broadcast, answer_to_payload, answer_to_subscribe, MayAnswer}
use Rattle.broadcast_core.specs.HasRun.{IsAnswered}
use Rattle.broadcast_core.specs.declared.codec.CodecError.{CodecError}
use Rattle.broadcast_core.specs.declared.ordered.Recipients.{Recipients}
use Rattle.broadcast_core.specs.declared.event.Event.{Event}
use Rattle.broadcast_core.specs.declared.event.Event.TheVariants.{Peers, Broadcast, Payload, Subscribe, Get, Cleanup}
use Rattle.broadcast_core.specs.declared.event.Answer.{Answer}
use Rattle.broadcast_world.specs.Relay.{unless_empty, same_digest, replied, relay}
use Rattle.broadcast_world.specs.Relayed.{told, relayed, places_from, after_each, history_but}
use Rattle.broadcast_world.proofs.FirstPlaces.{by_test}
use Rattle.broadcast_world.proofs.RefusedPlaces.{kept, kept-reverse, but_at-kept}

nothing : {A B : Type 0} (ys : List B) → unless_empty {A = A} [] ys ≡ []
nothing [] = refl
nothing (y ∷ ys) = refl

-- a list is empty exactly if its image is
of_image : {A B C : Type 0} (xs : List A) (f : B → C) (ys : List B) → unless_empty xs ys ≡ unless_empty xs (map f ys)
of_image xs f [] = refl
of_image xs f (y ∷ ys) = refl

module _ {P M D : Type 0} (s : Setting P M D) where
  -- the history after an event with this answer
  abbrev next : Event P M D → Answer M D → History P M D ℕ ℕ → History P M D ℕ ℕ
  next e a past = if is_refused a then past else after s e past

  abbrev Tells : Event P M D → Answer M D → History P M D ℕ ℕ → Type 0
  Tells e a past = replied s (next e a past) ≡ replied s past ++ told a

  tells-broadcast : (r : Recipients P) (c : Carried M D) (bytes : Option (List ℕ)) (past : History P M D ℕ ℕ)
      → Tells (Broadcast r c) (answer_to_broadcast s r c bytes past) past
  tells-broadcast r c None past = sym (append-nil (replied s past))
  tells-broadcast r c (Some bytes) past =
      ap (λ cs. replied s past ++ cs) (of_image (c ∷ []) (λ w. w.waiter) (replied_at s (broadcast r c) past))

  tells-payload : (p : P) (b : List ℕ) (read : Result M CodecError) (past : History P M D ℕ ℕ) → s.reading b ≡ read
      → Tells (Payload p b) (answer_to_payload s p read past) past
  tells-payload p b (Ok m) past h = rw h
      (ap (λ cs. replied s past ++ cs) (of_image (own_digested s m ∷ []) (λ w. w.waiter) (replied_at s (arrival p (own_digested s m)) past)))
  tells-payload p b (Err why) past h = rw h (sym (append-nil (replied s past)))

  tells-subscribe : (k : ℕ) (d : D) (found : Option (Carried M D)) (past : History P M D ℕ ℕ) → message s d (subscribe k d ∷ past) ≡ found
      → Tells (Subscribe k d) (answer_to_subscribe s found) past
  tells-subscribe k d None past h = rw h refl
  tells-subscribe k d (Some c) past h = rw h refl

  tells-none : (past : History P M D ℕ ℕ) (ws : List (Awaiting ℕ D)) → replied s past ++ unless_empty [] ws ≡ replied s past ++ []
  tells-none past ws = ap (λ cs. replied s past ++ cs) (nothing ws)

  tells-exact : (e : Event P M D) (past : History P M D ℕ ℕ) → Tells e (answer_to s e past) past
  tells-exact (Peers ps) past = tells-none past (replied_at s (peers ps) past)
  tells-exact (Broadcast r c) past = tells-broadcast r c (s.encoding c.message) past
  tells-exact (Payload p b) past = tells-payload p b (s.reading b) past refl
  tells-exact (Subscribe k d) past = tells-subscribe k d (message s d (subscribe k d ∷ past)) past refl
  tells-exact (Get k d) past = tells-none past (replied_at s (get k d) past)
  tells-exact (Cleanup gone) past = tells-none past _

  tells : (e : Event P M D) (a : Answer M D) (past : History P M D ℕ ℕ) → MayAnswer s e past a → Tells e a past
  tells e a past (inl is) = subst (λ b. Tells e b past) (sym is) (tells-exact e past)
  tells e a past (inr failed) = subst (λ b. Tells e b past) (sym failed.0) (sym (append-nil (replied s past)))

  -- the messages that the answers of a log tell of, the oldest first
  abbrev told_by : Log P M D → List (Carried M D)
  told_by log = flat_map (λ x. told x.1) (reverse log)

  told_by-next : (x : Event P M D × Answer M D) (log : Log P M D) → told_by (x ∷ log) ≡ told_by log ++ told x.1
  told_by-next x log = ap (flat_map (λ y. told y.1)) (reverse-append (x ∷ []) log)
      ∙ flat_map-append (λ y. told y.1) (reverse log) (x ∷ []) ∙ ap (λ cs. told_by log ++ cs) (append-nil (told x.1))

  replied-log : (log : Log P M D) → IsAnswered s log → replied s (history s log) ≡ told_by log
  replied-log [] h = refl
  replied-log (x ∷ log) h = tells x.0 x.1 (history s log) h.0
      ∙ ap (λ cs. cs ++ told x.1) (replied-log log h.1) ∙ sym (told_by-next x log)

  told_by-zip : (es : List (Event P M D)) (rs : List (Answer M D)) → length rs ≡ length es
      → flat_map (λ x. told x.1) (zip es rs) ≡ flat_map told rs
  told_by-zip [] [] h = refl
  told_by-zip [] (a ∷ rs) h = absurd (omega (arith, h))
  told_by-zip (e ∷ es) [] h = absurd (omega (arith, h))
  told_by-zip (e ∷ es) (a ∷ rs) h = ap (λ cs. told a ++ cs) (told_by-zip es rs (omega (arith, h)))

  -- what was relayed of the answers is the relay of the history
  relay-answers : (es : List (Event P M D)) (rs : List (Answer M D)) → length rs ≡ length es → IsAnswered s (log_of es rs)
      → relay s (history s (log_of es rs)) ≡ relayed s.same.digest rs
  relay-answers es rs each h = ap (first_places (same_digest s.same.digest))
      (replied-log (log_of es rs) h ∙ ap (flat_map (λ x. told x.1)) (reverse-reverse (zip es rs)) ∙ told_by-zip es rs each)

  pub history-kept : (log : Log P M D) → history s log ≡ after_each s (kept is_refused log)
  history-kept [] = refl
  history-kept (x ∷ log) = by_test (is_refused x.1)
      (λ t. rw t (history-kept log)) (λ t. rw t (ap (after s x.0) (history-kept log)))

  -- the history of the run is that of the events that were not refused
  pub history_but-refused : (es : List (Event P M D)) (rs : List (Answer M D)) → length rs ≡ length es
      → history s (log_of es rs) ≡ history_but s (places_from is_refused 0 rs) es
  history_but-refused es rs each = history-kept (log_of es rs)
      ∙ ap (after_each s) (kept-reverse is_refused (zip es rs)
      ∙ ap (λ xs. reverse xs) (sym (but_at-kept is_refused (places_from is_refused 0 rs) 0 es rs each (λ k above below. refl))))

  pub relay-run : (es : List (Event P M D)) (rs : List (Answer M D)) → length rs ≡ length es → IsAnswered s (log_of es rs)
      → relayed s.same.digest rs ≡ relay s (history_but s (places_from is_refused 0 rs) es)
  relay-run es rs each h = sym (relay-answers es rs each h) ∙ ap (relay s) (history_but-refused es rs each)

-- The events that a run refused may be refused.
use Rattle.std.proofs.Common.{◌≡◌, ℕ, suc, Bool, true, false, List, [], ◌∷◌, ◌++◌, length, reverse, Option, Some, None, Result, Ok, Err, inl, inr, refl, sym, ap, ◌∙◌, subst, arith, rules, append_assoc}
use Rattle.std.specs.Prelude.{IsTrue, ◌==◌}
use Rattle.std.specs.List.{zip, list_any}
use Rattle.std.proofs.lemmas.List.{reverse-append}
use Rattle.broadcast_core.specs.Carried.{Carried}
use Rattle.broadcast_core.specs.Setting.{Setting}
use Rattle.broadcast_core.specs.Happening.{History}
use Rattle.broadcast_core.specs.Log.{Log, history, log_of, is_refused}
use Rattle.broadcast_core.specs.Answers.{answer_to, answer_to_payload, answer_to_subscribe, may_allocate, MayAnswer}
use Rattle.broadcast_core.specs.HasRun.{IsAnswered}
use Rattle.broadcast_core.specs.declared.codec.CodecError.{CodecError}
use Rattle.broadcast_core.specs.declared.event.Event.{Event}
use Rattle.broadcast_core.specs.declared.event.Event.TheVariants.{Peers, Broadcast, Payload, Subscribe, Get, Cleanup}
use Rattle.broadcast_core.specs.declared.event.Answer.{Answer}
use Rattle.broadcast_world.specs.Relayed.{AreRefusable, may_be_refused, places_from, history_but, after_each}
use Rattle.broadcast_world.proofs.RefusedPlaces.{has-front, has-at, kept-reverse, but_at-kept}
use Rattle.broadcast_world.proofs.Replying.{history-kept}

-- a list that is as long as one in two parts
pub record Parts {Y : Type 0} (n : ℕ) (ys : List Y) : Type 0 where
  pub front : List Y
  pub here : Y
  pub back : List Y
  pub are : ys ≡ front ++ here ∷ back
  pub long : length front ≡ n

parts : {X Y : Type 0} (xs : List X) (x : X) (zs : List X) (ys : List Y) → length ys ≡ length (xs ++ x ∷ zs) → Parts (length xs) ys
parts xs x zs [] h = absurd (none xs x zs h)
  where
    none : {X : Type 0} (xs : List X) (x : X) (zs : List X) → 0 ≡ length (xs ++ x ∷ zs) → ⊥
    none [] x zs h = omega (arith, h)
    none (y ∷ xs) x zs h = omega (arith, h)
parts [] x zs (y ∷ ys) h = record { front = []; here = y; back = ys; are = refl; long = refl }
parts (w ∷ xs) x zs (y ∷ ys) h =
    let rest = parts xs x zs ys (omega (arith, h)) in
    record { front = y ∷ rest.front; here = rest.here; back = rest.back; are = ap (λ l. y ∷ l) rest.are; long = ap suc rest.long }

zip-parts : {X Y : Type 0} (xs : List X) (zs : List X) (ys ws : List Y) → length ys ≡ length xs → zip (xs ++ zs) (ys ++ ws) ≡ zip xs ys ++ zip zs ws
zip-parts [] zs [] ws h = refl
zip-parts [] zs (y ∷ ys) ws h = absurd (omega (arith, h))
zip-parts (x ∷ xs) zs [] ws h = absurd (omega (arith, h))
zip-parts (x ∷ xs) zs (y ∷ ys) ws h = ap (λ l. (x, y) ∷ l) (zip-parts xs zs ys ws (omega (arith, h)))

module _ {P M D : Type 0} (s : Setting P M D) where
  answered-tail : (newer log : Log P M D) → IsAnswered s (newer ++ log) → IsAnswered s log
  answered-tail [] log h = h
  answered-tail (x ∷ newer) log h = answered-tail newer log h.1

  exact-payload : (read : Result M CodecError) (p : P) (past : History P M D ℕ ℕ) → is_refused (answer_to_payload s p read past) ≡ false
  exact-payload (Ok m) p past = refl
  exact-payload (Err why) p past = refl

  exact-subscribe : (found : Option (Carried M D)) → is_refused (answer_to_subscribe s found) ≡ false
  exact-subscribe None = refl
  exact-subscribe (Some c) = refl

  -- only a broadcast is refused but for memory
  refusable-exact : (e : Event P M D) (past : History P M D ℕ ℕ) → is_refused (answer_to s e past) ≡ true → may_be_refused s e past ≡ true
  refusable-exact (Peers ps) past h = absurd cc
  refusable-exact (Broadcast r c) past h = refl
  refusable-exact (Payload p b) past h = absurd (let no = exact-payload (s.reading b) p past in cc)
  refusable-exact (Subscribe k d) past h = refl
  refusable-exact (Get k d) past h = absurd cc
  refusable-exact (Cleanup gone) past h = absurd cc

  refusable-memory : (e : Event P M D) (past : History P M D ℕ ℕ) → may_allocate s e past ≡ true → may_be_refused s e past ≡ true
  refusable-memory (Peers ps) past h = h
  refusable-memory (Broadcast r c) past h = refl
  refusable-memory (Payload p b) past h = h
  refusable-memory (Subscribe k d) past h = h
  refusable-memory (Get k d) past h = h
  refusable-memory (Cleanup gone) past h = h

  is : (b : Bool) → IsTrue b → b ≡ true
  is b h = search rules

  refusable : (e : Event P M D) (past : History P M D ℕ ℕ) (a : Answer M D) → MayAnswer s e past a → is_refused a ≡ true → may_be_refused s e past ≡ true
  refusable e past a (inl same) h = refusable-exact e past (ap is_refused (sym same) ∙ h)
  refusable e past a (inr failed) h = refusable-memory e past (is (may_allocate s e past) failed.1)

  -- the log up to an event, whose answer is the newest
  answered-at : (before : List (Event P M D)) (e : Event P M D) (newer : List (Event P M D)) (rs : List (Answer M D)) (p : Parts (length before) rs)
      → IsAnswered s (log_of (before ++ e ∷ newer) rs) → MayAnswer s e (history s (log_of before p.front)) p.here
  answered-at before e newer rs p h =
      let early = zip before p.front in
      let late = zip newer p.back in
      let split : log_of (before ++ e ∷ newer) rs ≡ reverse late ++ ((e, p.here) ∷ log_of before p.front) =
      ap (λ l. reverse (zip (before ++ e ∷ newer) l)) p.are
      ∙ ap (λ l. reverse l) (zip-parts before (e ∷ newer) p.front (p.here ∷ p.back) p.long)
      ∙ reverse-append early ((e, p.here) ∷ late) ∙ ap (λ l. l ++ reverse early) (reverse-append ((e, p.here) ∷ []) late)
      ∙ append_assoc (reverse late) ((e, p.here) ∷ []) (reverse early) in
      (answered-tail (reverse late) ((e, p.here) ∷ log_of before p.front) (subst (IsAnswered s) split h)).0

  -- the history of the events before a place needs no later refusal
  history-before : (before : List (Event P M D)) (front back : List (Answer M D)) → length front ≡ length before
      → history s (log_of before front) ≡ history_but s (places_from is_refused 0 (front ++ back)) before
  history-before before front back long = history-kept s (log_of before front)
      ∙ ap (after_each s) (kept-reverse is_refused (zip before front)
      ∙ ap (λ xs. reverse xs) (sym (but_at-kept is_refused (places_from is_refused 0 (front ++ back)) 0 before front long
      (λ k above below. has-front is_refused k front back (omega (arith, below))))))

  refusable-at : (before : List (Event P M D)) (e : Event P M D) (newer : List (Event P M D)) (rs : List (Answer M D)) (p : Parts (length before) rs)
      → IsAnswered s (log_of (before ++ e ∷ newer) rs) → is_refused p.here ≡ true
      → may_be_refused s e (history_but s (places_from is_refused 0 rs) before) ≡ true
  refusable-at before e newer rs p h refused =
      let past = history-before before p.front (p.here ∷ p.back) p.long ∙ ap (λ l. history_but s (places_from is_refused 0 l) before) (sym p.are) in
      subst (λ b. may_be_refused s e b ≡ true) past (refusable e (history s (log_of before p.front)) p.here (answered-at before e newer rs p h) refused)

  pub AreRefusable-run : (es : List (Event P M D)) (rs : List (Answer M D)) → length rs ≡ length es → IsAnswered s (log_of es rs)
      → AreRefusable s es (places_from is_refused 0 rs)
  AreRefusable-run es rs each h before e newer are listed =
      let p = parts before e newer rs (each ∙ ap length are) in
      let refused : is_refused p.here ≡ true = sym (has-at is_refused (length before) p.front p.here p.back (sym p.long))
      ∙ ap (λ l. list_any (λ k. k == length before) (places_from is_refused 0 l)) (sym p.are) ∙ listed in
      refusable-at before e newer rs p (subst (λ l. IsAnswered s (log_of l rs)) are h) refused

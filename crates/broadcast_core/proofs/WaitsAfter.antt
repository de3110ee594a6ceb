-- What each happening makes of those who wait for a digest.
use Rattle.std.proofs.Common.{◌≡◌, ℕ, suc, ◌+◌, ◌<◌, ◌≤◌, Bool, true, false, not, ◌&&◌, if◌then◌else◌, cond, is_some, List, [], ◌∷◌, ◌++◌, length, map, filter, Some, refl, sym, ap, ◌∙◌, append-nil, arith}
use Rattle.std.specs.Cmp.{IsEquivalence}
use Rattle.std.proofs.lemmas.List.{map-append}
use Rattle.std.proofs.lemmas.List.Elements.{filter-append}
use Rattle.broadcast_core.specs.Setting.{Setting}
use Rattle.broadcast_core.specs.Happening.{Taking, of_digest, Happening, History, peers, broadcast, arrival, subscribe, get, cleanup, taken, takes}
use Rattle.broadcast_core.proofs.Distinct.{by_test, filter-same}
use Rattle.broadcast_core.specs.Cache.{is_listed, message}
use Rattle.broadcast_core.specs.Waiting.{Awaiting, waiters_of, with_digest, cleans, waits, subscribes, waiting, waiting_for, replied_at}
use Rattle.broadcast_core.proofs.Choice.{Rises}
use Rattle.broadcast_core.proofs.Waits.{leaves, waits-listed, waits-unlisted, waiting-last, replied_at-last}

and_true : (b : Bool) → (b && true) ≡ b
and_true true = refl
and_true false = refl

filter_true : {X : Type 0} (xs : List X) → filter (λ x. true) xs ≡ xs
filter_true [] = refl
filter_true (x ∷ xs) = ap (λ ys. x ∷ ys) (filter_true xs)

module _ {W D : Type 0} where
  -- one more at the end, at a place that is not before them
  abbrev AllBelow : ℕ → List (Awaiting W D) → Type 0
  AllBelow n [] = Unit {0}
  AllBelow n (w ∷ ws) = (w.place < n) × AllBelow n ws

  AllBelow-more : (n : ℕ) (ws : List (Awaiting W D)) → AllBelow n ws → AllBelow (suc n) ws
  AllBelow-more n [] h = tt
  AllBelow-more n (w ∷ ws) h = (omega (arith, h.0), AllBelow-more n ws h.1)

  AllBelow-last : (n : ℕ) (p : Awaiting W D → Bool) (w : Awaiting W D) (ws : List (Awaiting W D)) → w.place ≡ n → AllBelow n ws → AllBelow (suc n) (ws ++ filter p (w ∷ []))
  AllBelow-last n p w [] at h = by_test (p w) (λ t. rw t (omega (arith, at), tt)) (λ t. rw t tt)
  AllBelow-last n p w (x ∷ ws) at h = (omega (arith, h.0), AllBelow-last n p w ws at h.1)

  Rises-last : (k n : ℕ) (p : Awaiting W D → Bool) (w : Awaiting W D) (ws : List (Awaiting W D)) → w.place ≡ n → k ≤ n → AllBelow n ws → Rises k ws → Rises k (ws ++ filter p (w ∷ []))
  Rises-last k n p w [] at le below rises = by_test (p w) (λ t. rw t (omega (arith, at, le), tt)) (λ t. rw t tt)
  Rises-last k n p w (x ∷ ws) at le below rises = (rises.0, Rises-last (x.place + 1) n p w ws at (omega (arith, below.0)) below.1 rises.1)

-- those who wait, with their places
module _ {W D : Type 0} (same : D → D → Bool) where
  with_digest-append : (d : D) (xs ys : List (Awaiting W D)) → with_digest same d (xs ++ ys) ≡ with_digest same d xs ++ with_digest same d ys
  with_digest-append d xs ys = ap (λ ws. map (λ w. w.waiter) ws) (filter-append (λ w. same d w.digest) xs ys)
      ∙ map-append (λ w. w.waiter) (filter (λ w. same d w.digest) xs) (filter (λ w. same d w.digest) ys)

  -- those whom a test of the waiter alone names are taken out
  pub with_digest-cleaned : (gone : W → Bool) (d : D) (ws : List (Awaiting W D)) → with_digest same d (filter (λ w. not (gone w.waiter)) ws) ≡ filter (λ k. not (gone k)) (with_digest same d ws)
  with_digest-cleaned gone d [] = refl
  with_digest-cleaned gone d (w ∷ ws) = by_test (gone w.waiter)
      (λ h. by_test (same d w.digest) (λ c. rw (h, c, h) (with_digest-cleaned gone d ws)) (λ c. rw (h, c) (with_digest-cleaned gone d ws)))
      (λ h. by_test (same d w.digest) (λ c. rw (h, c, h) (ap (λ ks. w.waiter ∷ ks) (with_digest-cleaned gone d ws))) (λ c. rw (h, c) (with_digest-cleaned gone d ws)))

  module _ (laws : IsEquivalence same) where
    -- those of one digest are taken out
    none_left : (x d : D) (ws : List (Awaiting W D)) → same x d ≡ true → filter (λ w. same d w.digest) (filter (λ w. not (same x w.digest)) ws) ≡ []
    none_left x d [] e = refl
    none_left x d (w ∷ ws) e = by_test (same x w.digest)
        (λ h. rw h (none_left x d ws e))
        (λ h. let apart : same d w.digest ≡ false = sym (laws.congr x d w.digest e) ∙ h in rw (h, apart) (none_left x d ws e))

    others_left : (x d : D) (ws : List (Awaiting W D)) → same x d ≡ false → filter (λ w. same d w.digest) (filter (λ w. not (same x w.digest)) ws) ≡ filter (λ w. same d w.digest) ws
    others_left x d [] e = refl
    others_left x d (w ∷ ws) e = by_test (same x w.digest)
        (λ h. let apart : same d w.digest ≡ false = laws.symm d w.digest ∙ sym (laws.congr x w.digest d h) ∙ e in rw (h, apart) (others_left x d ws e))
        (λ h. rw h (ap (λ vs. cond (same d w.digest) (w ∷ vs) vs) (others_left x d ws e)))

    pub with_digest-other : (x d : D) (ws : List (Awaiting W D)) → with_digest same d (filter (λ w. not (same x w.digest)) ws) ≡ (if same x d then [] else with_digest same d ws)
    with_digest-other x d ws = by_test (same x d)
        (λ e. rw e (ap (λ vs. map (λ w. w.waiter) vs) (none_left x d ws e)))
        (λ e. rw e (ap (λ vs. map (λ w. w.waiter) vs) (others_left x d ws e)))

    -- one more behind the others
    with_digest-one : (w : Awaiting W D) (d : D) (ws : List (Awaiting W D)) → with_digest same d (ws ++ w ∷ [])
        ≡ (if same w.digest d then with_digest same d ws ++ w.waiter ∷ [] else with_digest same d ws)
    with_digest-one w d ws = with_digest-append d ws (w ∷ []) ∙ by_test (same w.digest d)
        (λ e. let turned : same d w.digest ≡ true = laws.symm d w.digest ∙ e in rw (turned, e) refl)
        (λ e. let turned : same d w.digest ≡ false = laws.symm d w.digest ∙ e in rw (turned, e) (append-nil (with_digest same d ws)))

module _ {P M D W V : Type 0} (s : Setting P M D) where
  module _ (test : Awaiting W D → History P M D W V → History P M D W V → Bool) where
    -- places are below the history's length, and rise
    subscribes-below : (es older : History P M D W V) → AllBelow (length older) (subscribes s test es older)
    subscribes-below es [] = tt
    subscribes-below es (peers ps ∷ older) = AllBelow-more (length older) (subscribes s test (peers ps ∷ es) older) (subscribes-below (peers ps ∷ es) older)
    subscribes-below es (broadcast r c ∷ older) = AllBelow-more (length older) (subscribes s test (broadcast r c ∷ es) older) (subscribes-below (broadcast r c ∷ es) older)
    subscribes-below es (arrival p c ∷ older) = AllBelow-more (length older) (subscribes s test (arrival p c ∷ es) older) (subscribes-below (arrival p c ∷ es) older)
    subscribes-below es (subscribe w d ∷ older) =
        AllBelow-last (length older) (λ a. test a (subscribe w d ∷ older) es) (record { place = length older; waiter = w; digest = d })
        (subscribes s test (subscribe w d ∷ es) older) refl (subscribes-below (subscribe w d ∷ es) older)
    subscribes-below es (get v d ∷ older) = AllBelow-more (length older) (subscribes s test (get v d ∷ es) older) (subscribes-below (get v d ∷ es) older)
    subscribes-below es (cleanup named ∷ older) = AllBelow-more (length older) (subscribes s test (cleanup named ∷ es) older) (subscribes-below (cleanup named ∷ es) older)

    subscribes-rise : (es older : History P M D W V) → Rises 0 (subscribes s test es older)
    subscribes-rise es [] = tt
    subscribes-rise es (subscribe w d ∷ older) =
        Rises-last 0 (length older) (λ a. test a (subscribe w d ∷ older) es) (record { place = length older; waiter = w; digest = d })
        (subscribes s test (subscribe w d ∷ es) older) refl (omega arith) (subscribes-below (subscribe w d ∷ es) older) (subscribes-rise (subscribe w d ∷ es) older)
    subscribes-rise es (e ∷ older) = subscribes-rise (e ∷ es) older

  pub waiting-rises : (past : History P M D W V) → Rises 0 (waiting s past)
  waiting-rises past = subscribes-rise (waits s) [] past

module _ {P M D W V : Type 0} (s : Setting P M D) (laws : IsEquivalence s.same.digest)
    (held : (d : D) (past : List (Happening P M D W V)) → is_listed s d past ≡ true → is_some (message s d past) ≡ true) where
  takes-taken : (d : D) (e : Happening P M D W V) (t : Taking P M D) → taken s e ≡ Some t → takes s d e ≡ s.same.digest t.carried.digest d
  takes-taken d e t h = ap (of_digest s d) h ∙ laws.symm d t.carried.digest

  taking_step : (e : Happening P M D W V) (past : List (Happening P M D W V)) (t : Taking P M D) → taken s e ≡ Some t → waiting s (e ∷ past) ≡ subscribes s (waits s) (e ∷ []) past
  taking_step (peers ps) past t h = absurd cc
  taking_step (broadcast r c) past t h = refl
  taking_step (arrival p c) past t h = refl
  taking_step (subscribe w d) past t h = absurd cc
  taking_step (get v d) past t h = absurd cc
  taking_step (cleanup test) past t h = absurd cc

  taking_cleans : (w : Awaiting W D) (e : Happening P M D W V) (t : Taking P M D) → taken s e ≡ Some t → cleans s w e ≡ false
  taking_cleans w (peers ps) t h = absurd cc
  taking_cleans w (broadcast r c) t h = refl
  taking_cleans w (arrival p c) t h = refl
  taking_cleans w (subscribe v d) t h = absurd cc
  taking_cleans w (get v d) t h = absurd cc
  taking_cleans w (cleanup test) t h = absurd cc

  leaves-taken : (e : Happening P M D W V) (t : Taking P M D) → taken s e ≡ Some t → (w : Awaiting W D) → leaves s e w ≡ not (s.same.digest t.carried.digest w.digest)
  leaves-taken e t h w = ap (λ b. not (takes s w.digest e) && not b) (taking_cleans w e t h) ∙ and_true (not (takes s w.digest e)) ∙ ap not (takes-taken w.digest e t h)

  -- the happening is the reply to those who wait for its digest
  pub replied_at-taking : (e : Happening P M D W V) (past : List (Happening P M D W V)) (t : Taking P M D) → taken s e ≡ Some t → waiters_of (replied_at s e past) ≡ waiting_for s t.carried.digest past
  replied_at-taking e past t h = ap waiters_of (replied_at-last s held e past
      ∙ filter-same (λ w. takes s w.digest e) (λ w. s.same.digest t.carried.digest w.digest) (waiting s past) (λ w. takes-taken w.digest e t h))

  -- nobody waits any more for what is taken
  pub waiting_for-taking : (e : Happening P M D W V) (past : List (Happening P M D W V)) (t : Taking P M D) → taken s e ≡ Some t → (d : D)
      → waiting_for s d (e ∷ past) ≡ (if s.same.digest t.carried.digest d then [] else waiting_for s d past)
  waiting_for-taking e past t h d =
      ap (with_digest s.same.digest d) (taking_step e past t h ∙ waiting-last s held e past
      ∙ filter-same (leaves s e) (λ w. not (s.same.digest t.carried.digest w.digest)) (waiting s past) (leaves-taken e t h))
      ∙ with_digest-other s.same.digest laws t.carried.digest d (waiting s past)

  -- who waits stays at a happening that takes nothing and cleans nothing
  pub waiting_for-peers : (ps : List P) (past : List (Happening P M D W V)) (d : D) → waiting_for s d (peers ps ∷ past) ≡ waiting_for s d past
  waiting_for-peers ps past d = ap (with_digest s.same.digest d) (waiting-last s held (peers ps) past ∙ filter_true (waiting s past))

  pub waiting_for-get : (v : V) (x : D) (past : List (Happening P M D W V)) (d : D) → waiting_for s d (get v x ∷ past) ≡ waiting_for s d past
  waiting_for-get v x past d = ap (with_digest s.same.digest d) (waiting-last s held (get v x) past ∙ filter_true (waiting s past))

  -- a cleanup takes out the subscribes that it names
  pub waiting-cleanup : (test : ℕ → W → Bool) (past : List (Happening P M D W V)) → waiting s (cleanup test ∷ past) ≡ filter (λ w. not (test w.place w.waiter)) (waiting s past)
  waiting-cleanup test past = waiting-last s held (cleanup test) past

  -- one that names by the waiter alone
  pub waiting_for-cleanup : (gone : W → Bool) (past : List (Happening P M D W V)) (d : D)
      → waiting_for s d (cleanup (λ n w. gone w) ∷ past) ≡ filter (λ w. not (gone w)) (waiting_for s d past)
  waiting_for-cleanup gone past d =
      ap (with_digest s.same.digest d) (waiting-cleanup (λ n w. gone w) past) ∙ with_digest-cleaned s.same.digest gone d (waiting s past)

  -- a subscribe leaves the others, and waits itself or not
  subscribe_step : (w : W) (x : D) (past : List (Happening P M D W V)) (b : Bool)
      → waits s (record { place = length past; waiter = w; digest = x }) (subscribe w x ∷ past) [] ≡ b
      → waiting s (subscribe w x ∷ past) ≡ waiting s past ++ (if b then record { place = length past; waiter = w; digest = x } ∷ [] else [])
  subscribe_step w x past b h =
      ap (λ ws. ws ++ filter (λ a. waits s a (subscribe w x ∷ past) []) (record { place = length past; waiter = w; digest = x } ∷ []))
      (waiting-last s held (subscribe w x) past ∙ filter_true (waiting s past))
      ∙ ap (λ c. waiting s past ++ (if c then record { place = length past; waiter = w; digest = x } ∷ [] else [])) h

  -- a subscribe with a reply does not wait
  pub waiting_for-listed : (w : W) (x : D) (past : List (Happening P M D W V)) (d : D) → is_listed s x (subscribe w x ∷ past) ≡ true → waiting_for s d (subscribe w x ∷ past) ≡ waiting_for s d past
  waiting_for-listed w x past d h = ap (with_digest s.same.digest d)
      (subscribe_step w x past false (waits-listed s held (record { place = length past; waiter = w; digest = x }) (subscribe w x ∷ past) h) ∙ append-nil (waiting s past))

  -- one without waits behind the others
  pub waiting_for-subscribe : (w : W) (x : D) (past : List (Happening P M D W V)) (d : D) → is_listed s x (subscribe w x ∷ past) ≡ false
      → waiting_for s d (subscribe w x ∷ past) ≡ (if s.same.digest x d then waiting_for s d past ++ w ∷ [] else waiting_for s d past)
  waiting_for-subscribe w x past d h = ap (with_digest s.same.digest d)
      (subscribe_step w x past true (waits-unlisted s (record { place = length past; waiter = w; digest = x }) (subscribe w x ∷ past) h))
      ∙ with_digest-one s.same.digest laws (record { place = length past; waiter = w; digest = x }) d (waiting s past)

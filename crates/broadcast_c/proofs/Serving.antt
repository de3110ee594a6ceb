-- A ticket that waits is served once at most.
use Rattle.std.proofs.Common.{◌≡◌, ◌≤◌, ℕ, ◌+◌, Bool, true, false, not, ◌==◌, cond, List, [], ◌∷◌, ◌++◌, filter, ap, ◌∙◌, arith}
use Rattle.std.specs.List.{count_by}
use Rattle.std.proofs.lemmas.List.Sums.{sum_by-append}
use Rattle.broadcast_core.specs.Content.{waiting_at}
use Rattle.broadcast_core.specs.Waiters.{is_gone}
use Rattle.broadcast_core.proofs.Distinct.{by_test}
use Rattle.broadcast_c.proofs.Lawful.{same_digest}
use Rattle.broadcast_c.specs.Storing.{same_bytes}
use Rattle.broadcast_c.specs.Law.{Call, store_peers, store_take, store_subscribe, store_cleanup, store_cleanup_of, store_left, store_served, store_get, store_is_primary, store_bytes, store_list, store_count, Does, Calls, store_after, AreDone, waits_by, serves_by, waited, served}
use Rattle.broadcast_c.specs.declared.store.Store.{Store}

module _ (t : ℕ) where
  abbrev times : List ℕ → ℕ
  times xs = count_by (λ x. x == t) xs

  times-append : (xs ys : List ℕ) → times (xs ++ ys) ≡ times xs + times ys
  times-append xs ys = sum_by-append (λ x. cond (x == t) 1 0) xs ys

  times-kept : (x : ℕ) (xs ys : List ℕ) (b : Bool) → times ys ≤ times xs → times (cond b (x ∷ ys) ys) ≤ times (x ∷ xs)
  times-kept x xs ys true h = omega (arith, h, times-append (x ∷ []) xs, times-append (x ∷ []) ys)
  times-kept x xs ys false h = omega (arith, h, times-append (x ∷ []) xs)

  times-filter : (p : ℕ → Bool) (xs : List ℕ) → times (filter p xs) ≤ times xs
  times-filter p [] = omega arith
  times-filter p (x ∷ xs) = times-kept x xs (filter p xs) (p x) (times-filter p xs)

  module _ (d : List ℕ) where
    abbrev now_in : Store → ℕ
    now_in st = times (waiting_at same_bytes st.cache.core d)

    -- one call
    step : (x : Call) (old new : Store) → Does x old new → serves_by t d x new + now_in new ≤ waits_by t d x + now_in old
    step (store_peers names) old new (set, same, takes, kept, reports) = let e = ap times (takes.waiters d) in omega (arith, e)
    step (store_take peer digest charge handle report) old new does =
        let left = ap times (does.0.taken.ok.waiters d) in
        by_test (same_bytes.digest digest d)
        (λ h. let is : digest ≡ d = same_digest digest d h in
        let none : now_in new ≡ 0 = rw h at left in
        let all : times new.served ≡ now_in old = ap times does.0.taken.served ∙ ap (λ e. times (waiting_at same_bytes old.cache.core e)) is in
        rw h (omega (arith, none, all)))
        (λ h. let same : now_in new ≡ now_in old = rw h at left in rw h (omega (arith, same)))
    step (store_subscribe ticket digest true) old new (lacks, awaits, kept, left) =
        let more = ap times (awaits.waiters d) in
        by_test (same_bytes.digest digest d)
        (λ h. let one : now_in new ≡ now_in old + times (ticket ∷ []) = (rw h at more) ∙ times-append (waiting_at same_bytes old.cache.core d) (ticket ∷ []) in
        rw h (omega (arith, one)))
        (λ h. let same : now_in new ≡ now_in old = rw h at more in rw h (omega (arith, same)))
    step (store_subscribe ticket digest false) old new (there, is) = let e = ap now_in is in omega (arith, e)
    step (store_cleanup tickets removed) old new (cleans, kept, left, apart, count) =
        let fewer = ap times (cleans.waiters d) in
        let least = times-filter (λ w. not (is_gone (λ t. t) tickets w)) (waiting_at same_bytes old.cache.core d) in
        omega (arith, fewer, least)
    step (store_cleanup_of digest tickets removed) old new (cleans, kept, left, count) =
        let fewer = ap times (cleans.waiters d) in
        let least = times-filter (λ w. not (is_gone (λ t. t) tickets w)) (waiting_at same_bytes old.cache.core d) in
        by_test (same_bytes.digest digest d)
        (λ h. let some : now_in new ≡ times (filter (λ w. not (is_gone (λ t. t) tickets w)) (waiting_at same_bytes old.cache.core d)) = rw h at fewer in omega (arith, some, least))
        (λ h. let same : now_in new ≡ now_in old = rw h at fewer in omega (arith, same))
    step (store_left room out moved) old new does = let e = ap (λ c. times (waiting_at same_bytes c d)) does.core in omega (arith, e)
    step (store_served room out needed status) old new (is, got) = let e = ap now_in is in omega (arith, e)
    step (store_get digest handle status) old new (is, got) = let e = ap now_in is in omega (arith, e)
    step (store_is_primary peer primary) old new (is, got) = let e = ap now_in is in omega (arith, e)
    step (store_bytes peer bytes) old new (is, got) = let e = ap now_in is in omega (arith, e)
    step (store_list peer room out needed status) old new (is, got) = let e = ap now_in is in omega (arith, e)
    step (store_count counts) old new (is, one, cached, awaited) = let e = ap now_in is in omega (arith, e)

    -- all calls
    pub served_once : (first : Store) → now_in first ≡ 0 → (calls : Calls) → AreDone first calls → served t d calls + now_in (store_after first calls) ≤ waited t d calls
    served_once first none [] done = omega (arith, none)
    served_once first none (x ∷ older) (does, done) =
        let before = served_once first none older done in
        let here = step x.0 (store_after first older) x.1 does in
        omega (arith, before, here)

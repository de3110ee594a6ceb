-- How many of those who wait a cleanup names.
use Rattle.std.proofs.Common.{◌≡◌, ℕ, ◌+◌, is_some, ◌≤◌, Bool, true, false, not, ◌==◌, cond, List, [], ◌∷◌, length, filter, refl, sym, ap, ◌∙◌, arith}
use Rattle.std.specs.List.{list_any, sum_by, count_by, IsDistinct}
use Rattle.std.specs.Map.{keys_of}
use Rattle.std.specs.Cmp.{IsEquivalence}
use Rattle.std.proofs.lemmas.List.{length-append}
use Rattle.std.proofs.lemmas.List.Sums.{sum_by-cons, count_by-le-length}
use Rattle.broadcast_core.specs.Content.{Content, among, items_at}
use Rattle.broadcast_core.specs.Setting.{Setting}
use Rattle.broadcast_core.specs.Happening.{Happening, History, peers, broadcast, arrival, subscribe, get, cleanup}
use Rattle.broadcast_core.specs.HasContent.{HasContent}
use Rattle.broadcast_core.specs.Cleaned.{named_by}
use Rattle.broadcast_core.specs.Answers.{removed}
use Rattle.broadcast_core.specs.Waiting.{Awaiting, with_digest, waits, subscribes, waiting}
use Rattle.broadcast_core.proofs.Distinct.{by_test, length-filter_le, or_false, among-equal, among-head, IsDistinct-rest}
use Rattle.broadcast_core.proofs.WaitersLemmas.{length-filter_not}
use Rattle.broadcast_core.specs.Waiters.{waiting_in}
use Rattle.broadcast_core.specs.Cache.{is_listed, message}
use Rattle.broadcast_core.proofs.WaitsAfter.{with_digest-other, waiting-cleanup}

-- pairs of a ticket and a digest, and entries that have the tickets of each digest
module _ {W D : Type 0} (same : D → D → Bool) (laws : IsEquivalence same) (p : W → Bool) where
  abbrev one_ticket : W → ℕ
  one_ticket k = cond (p k) 1 0

  abbrev one_pair : Awaiting W D → ℕ
  one_pair w = cond (p w.waiter) 1 0

  abbrev one_entry : D × List W → ℕ
  one_entry e = count_by p e.1

  items_at-absent : (d : D) (es : List (D × List W)) → among same d (keys_of es) ≡ false → items_at same d es ≡ []
  items_at-absent d [] h = refl
  items_at-absent d (x ∷ es) h = let both = or_false (same d x.0) (among same d (keys_of es)) h in rw both.0 (items_at-absent d es both.1)

  -- those with a digest and the others
  counted_apart : (x : D) (ws : List (Awaiting W D)) → count_by p (with_digest same x ws) + count_by (λ w. p w.waiter) (filter (λ w. not (same x w.digest)) ws) ≡ count_by (λ w. p w.waiter) ws
  counted_apart x [] = refl
  counted_apart x (w ∷ ws) = by_test (same x w.digest)
      (λ h. rw h (omega (arith, sum_by-cons one_ticket w.waiter (with_digest same x ws), sum_by-cons one_pair w ws, counted_apart x ws)))
      (λ h. rw h (omega (arith, sum_by-cons one_pair w (filter (λ v. not (same x v.digest)) ws), sum_by-cons one_pair w ws, counted_apart x ws)))

  -- one entry and its pairs are taken out
  pub entry_out : (d : D) (x : D × List W) (es : List (D × List W)) (ws : List (Awaiting W D)) → among same x.0 (keys_of es) ≡ false
      → items_at same d (x ∷ es) ≡ with_digest same d ws → items_at same d es ≡ with_digest same d (filter (λ w. not (same x.0 w.digest)) ws)
  entry_out d x es ws absent h = by_test (same x.0 d)
      (λ e. let none : with_digest same d (filter (λ w. not (same x.0 w.digest)) ws) ≡ [] = with_digest-other same laws x.0 d ws ∙ rw e refl in
      items_at-absent d es (sym (among-equal laws x.0 d (keys_of es) e) ∙ absent) ∙ sym none)
      (λ e. let all : with_digest same d (filter (λ w. not (same x.0 w.digest)) ws) ≡ with_digest same d ws = with_digest-other same laws x.0 d ws ∙ rw e refl in
      let turned : same d x.0 ≡ false = laws.symm d x.0 ∙ e in
      let later : items_at same d (x ∷ es) ≡ items_at same d es = rw turned refl in
      sym later ∙ h ∙ sym all)

  -- each pair is counted in the one entry of its digest
  pub counted_by-entries : (es : List (D × List W)) (ws : List (Awaiting W D)) → IsDistinct same (keys_of es)
      → ((d : D) → items_at same d es ≡ with_digest same d ws) → sum_by (λ e. count_by p e.1) es ≡ count_by (λ w. p w.waiter) ws
  counted_by-entries [] [] k h = refl
  counted_by-entries [] (w ∷ ws) k h =
      let some : with_digest same w.digest (w ∷ ws) ≡ w.waiter ∷ with_digest same w.digest ws = rw (laws.refl w.digest) refl in
      let no : [] ≡ w.waiter ∷ with_digest same w.digest ws = h w.digest ∙ some in absurd cc
  counted_by-entries (x ∷ es) ws k h =
      let here : items_at same x.0 (x ∷ es) ≡ x.1 = rw (laws.refl x.0) refl in
      let one : count_by p x.1 ≡ count_by p (with_digest same x.0 ws) = ap (count_by p) (sym here ∙ h x.0) in
      let rest = counted_by-entries es (filter (λ w. not (same x.0 w.digest)) ws) (IsDistinct-rest laws x.0 (keys_of es) k)
      (λ d. entry_out d x es ws (among-head laws x.0 (keys_of es) k) (h d)) in
      omega (arith, sum_by-cons one_entry x es, one, counted_apart x.0 ws, rest)

all_counted : {X : Type 0} (xs : List X) → count_by (λ x. true) xs ≡ length xs
all_counted [] = refl
all_counted {X} (x ∷ xs) = omega (arith, sum_by-cons (λ (y : X). cond true 1 0) x xs, all_counted xs)

waiting_in-counted : {W D : Type 0} (es : List (D × List W)) → sum_by (λ e. count_by (λ w. true) e.1) es ≡ waiting_in es
waiting_in-counted [] = refl
waiting_in-counted {W} {D} (e ∷ es) =
    omega (arith, sum_by-cons (λ (x : D × List W). count_by (λ w. true) x.1) e es, sum_by-cons (λ (x : D × List W). length x.1) e es, all_counted e.1, waiting_in-counted es)

module _ {P M D W V : Type 0} (s : Setting P M D) (laws : IsEquivalence s.same.digest) where
  -- as many wait in a core as after its history
  waiting-counted : (past : List (Happening P M D W V)) (core : Content P M D W) → HasContent s past core → IsDistinct s.same.digest (keys_of core.waiters)
      → waiting_in core.waiters ≡ length (waiting s past)
  waiting-counted past core has distinct =
      sym (waiting_in-counted core.waiters) ∙ counted_by-entries s.same.digest laws (λ w. true) core.waiters (waiting s past) distinct has.waiters ∙ all_counted (waiting s past)

  -- a cleanup removes those that it names
  pub named-counted : (held : (d : D) (es : List (Happening P M D W V)) → is_listed s d es ≡ true → is_some (message s d es) ≡ true)
      → {test : ℕ → W → Bool} {past : List (Happening P M D W V)} {old new : Content P M D W} {n : ℕ} → HasContent s past old → HasContent s (cleanup test ∷ past) new
      → IsDistinct s.same.digest (keys_of old.waiters) → IsDistinct s.same.digest (keys_of new.waiters) → waiting_in old.waiters ≡ waiting_in new.waiters + n
      → n ≡ named_by test (waiting s past)
  named-counted held {test} {past} has then apart apart_then fewer =
      omega (
        arith,
        fewer,
        waiting-counted past _ has apart,
        waiting-counted (cleanup test ∷ past) _ then apart_then,
        ap length (waiting-cleanup s laws held test past),
        length-filter_not (λ w. test w.place w.waiter) (waiting s past),
      )

module _ {P M D W V : Type 0} (s : Setting P M D) where
  length-subscribes : (test : Awaiting W D → History P M D W V → History P M D W V → Bool) (es older : History P M D W V) → length (subscribes s test es older) ≤ length older
  length-subscribes test es [] = omega arith
  length-subscribes test es (peers ps ∷ older) = omega (arith, length-subscribes test (peers ps ∷ es) older)
  length-subscribes test es (broadcast r c ∷ older) = omega (arith, length-subscribes test (broadcast r c ∷ es) older)
  length-subscribes test es (arrival p c ∷ older) = omega (arith, length-subscribes test (arrival p c ∷ es) older)
  length-subscribes test es (subscribe k d ∷ older) =
      let one : List (Awaiting W D) = record { place = length older; waiter = k; digest = d } ∷ [] in
      let passing = λ (a : Awaiting W D). test a (subscribe k d ∷ older) es in
      omega (arith, length-append (subscribes s test (subscribe k d ∷ es) older) (filter passing one), length-filter_le passing one, length-subscribes test (subscribe k d ∷ es) older)
  length-subscribes test es (get k d ∷ older) = omega (arith, length-subscribes test (get k d ∷ es) older)
  length-subscribes test es (cleanup named ∷ older) = omega (arith, length-subscribes test (cleanup named ∷ es) older)

  -- no more wait than happenings came
  length-waiting : (past : History P M D W V) → length (waiting s past) ≤ length past
  length-waiting past = length-subscribes (waits s) [] past

module _ {P M D : Type 0} (s : Setting P M D) where
  pub removed-le : (gone : List ℕ) (past : History P M D ℕ ℕ) → removed s gone past ≤ length past
  removed-le gone past = omega (arith, length-waiting s past, count_by-le-length (λ w. list_any (λ x. w.waiter == x) gone) (waiting s past))

-- What a cleanup of tickets has done between two digests.
use Rattle.std.proofs.Common.{◌≡◌, ℕ, ◌+◌, ◌-◌, ◌^◌, ◌<◌, Bool, true, false, not, ◌||◌, cond, List, [], ◌∷◌, length, Option, Some, None, refl, sym, ap, ◌∙◌, subst, arith}
use Rattle.std.specs.Prelude.{min, unwrap_or}
use Rattle.std.specs.List.{filter, count_by, sum_by, list_any, IsDistinct}
use Rattle.std.specs.List.Sorted.{IsStrictlySortedBy}
use Rattle.std.specs.Option.{option_map}
use Rattle.std.specs.Map.{lookup, keys_of, values_of, set_value, remove_entry}
use Rattle.std.specs.Cmp.{IsTotalOrder, eq_by_cmp_equiv}
use Rattle.std.specs.Ordering.{eq_by_cmp, is_eq, is_lt, ordering_reverse}
use Rattle.std.specs.declared.cmp.Ordering.{Ordering}
use Rattle.std.specs.declared.cmp.Ordering.TheVariants.{Less, Equal, Greater}
use Rattle.std.specs.declared.ops.Bound.{Bound}
use Rattle.std.specs.declared.ops.Bound.TheVariants.{Included, Excluded, Unbounded}
use Rattle.std.specs.BTreeMap.Range.{is_from_start, range_contains, entries_between}
use Rattle.std.proofs.lemmas.List.{nil_from_length}
use Rattle.std.proofs.lemmas.List.Sums.{sum_by-cons}
use Rattle.std.proofs.lemmas.Map.{lookup-none}
use Rattle.std.proofs.lemmas.Map.Entries.{none_below_head, none_past_head, sum_by-set_value, sum_by-remove_entry}
use Rattle.std.proofs.lemmas.Map.Keys.{sorted_tail, IsDistinct-tail}
use Rattle.broadcast_core.specs.Content.{items_at}
use Rattle.broadcast_core.specs.Awaited.{AreAwaited, first_with}
use Rattle.broadcast_core.specs.Counted.{counted}
use Rattle.broadcast_core.proofs.Distinct.{by_test}
use Rattle.broadcast_core.proofs.Entries.{by_order, lookup-equal}
use Rattle.broadcast_core.proofs.WaitersLemmas.{digests_apart, lists-updated, length-filter_not}

-- the entries whose digests pass a test are searched
module _ {D W : Type 0} {R : D → D → Ordering} (o : IsTotalOrder R) (p : D → Bool) (test : W → Bool) where
  abbrev pub searched : List (D × List W) → Option D
  searched es = first_with test (filter (λ e. p e.0) es)

  past_refused : (e : D × List W) (es : List (D × List W)) (r : Option D) → p e.0 ≡ false → searched (e ∷ es) ≡ r → searched es ≡ r
  past_refused e es r f h = sym (ap (λ b. first_with test (cond b (e ∷ filter (λ x. p x.0) es) (filter (λ x. p x.0) es))) f) ∙ h

  past_clean : (e : D × List W) (es : List (D × List W)) (r : Option D) → p e.0 ≡ true → list_any test e.1 ≡ false → searched (e ∷ es) ≡ r → searched es ≡ r
  past_clean e es r t f h = sym (ap (λ b. cond b (Some e.0) (searched es)) f) ∙ (sym (ap (λ b. first_with test (cond b (e ∷ filter (λ x. p x.0) es) (filter (λ x. p x.0) es))) t) ∙ h)

  found_here : (e : D × List W) (es : List (D × List W)) (d : D) → p e.0 ≡ true → list_any test e.1 ≡ true → searched (e ∷ es) ≡ Some d → e.0 ≡ d
  found_here e es d t u h =
      let is : Some e.0 ≡ Some d = sym (ap (λ b. cond b (Some e.0) (searched es)) u) ∙ (sym (ap (λ b. first_with test (cond b (e ∷ filter (λ x. p x.0) es) (filter (λ x. p x.0) es))) t) ∙ h) in cc

  -- the test fails for the waiters of a digest, by the first entry and the others
  clean_by : (q : D) (e : D × List W) (es : List (D × List W)) → (eq_by_cmp R q e.0 ≡ true → list_any test e.1 ≡ false) → (eq_by_cmp R q e.0 ≡ false → list_any test (items_at (eq_by_cmp R) q es) ≡ false)
      → list_any test (items_at (eq_by_cmp R) q (e ∷ es)) ≡ false
  clean_by q e es here later = by_test (eq_by_cmp R q e.0) (λ t. rw t (here t)) (λ f. rw f (later f))

  -- a search that finds none: nobody passes who waits for such a digest
  pub clean-none : (q : D) → ((k : D) → eq_by_cmp R q k ≡ true → p k ≡ true) → (es : List (D × List W)) → searched es ≡ None → list_any test (items_at (eq_by_cmp R) q es) ≡ false
  clean-none q in_range [] h = refl
  clean-none q in_range (e ∷ es) h = by_test (p e.0)
      (λ t. by_test (list_any test e.1)
      (λ u. absurd (let some : searched (e ∷ es) ≡ Some e.0 = rw (t, u) refl in cc))
      (λ f. clean_by q e es (λ _. f) (λ _. clean-none q in_range es (past_clean e es None t f h))))
      (λ f. clean_by q e es (λ s. absurd (let both : true ≡ false = sym (in_range e.0 s) ∙ f in cc)) (λ _. clean-none q in_range es (past_refused e es None f h)))

  -- nor for one before the digest that is found
  pub clean-before : (d q : D) → ((k : D) → eq_by_cmp R q k ≡ true → p k ≡ true) → R q d ≡ Less → (es : List (D × List W)) → IsStrictlySortedBy R (keys_of es) → searched es ≡ Some d
      → list_any test (items_at (eq_by_cmp R) q es) ≡ false
  clean-before d q in_range less [] rises h = refl
  clean-before d q in_range less (e ∷ es) rises h = by_test (p e.0)
      (λ t. by_test (list_any test e.1)
      (λ u. let none : lookup (eq_by_cmp R q) (e ∷ es) ≡ None = lookup-none (eq_by_cmp R q) (e ∷ es) (none_below_head o q e es rises (ap (R q) (found_here e es d t u h) ∙ less)) in
      ap (λ r. list_any test (unwrap_or r [])) none)
      (λ f. clean_by q e es (λ _. f) (λ _. clean-before d q in_range less es (sorted_tail R e.0 (keys_of es) rises) (past_clean e es (Some d) t f h))))
      (λ f. clean_by q e es (λ s. absurd (let both : true ≡ false = sym (in_range e.0 s) ∙ f in cc)) (λ _. clean-before d q in_range less es (sorted_tail R e.0 (keys_of es) rises) (past_refused e es (Some d) f h)))

  -- somebody passes who waits for the digest that is found
  pub passes-found : (d : D) (es : List (D × List W)) → IsDistinct (eq_by_cmp R) (keys_of es) → searched es ≡ Some d → list_any test (items_at (eq_by_cmp R) d es) ≡ true
  passes-found d [] apart h = absurd cc
  passes-found d (e ∷ es) apart h = by_test (p e.0)
      (λ t. by_test (list_any test e.1)
      (λ u. subst (λ k. list_any test (items_at (eq_by_cmp R) k (e ∷ es)) ≡ true) (found_here e es d t u h) (rw ((eq_by_cmp_equiv o).refl e.0) u))
      (λ f. later (passes-found d es (IsDistinct-tail (eq_by_cmp R) e.0 (keys_of es) apart) (past_clean e es (Some d) t f h))))
      (λ f. later (passes-found d es (IsDistinct-tail (eq_by_cmp R) e.0 (keys_of es) apart) (past_refused e es (Some d) f h)))
    where
      later : list_any test (items_at (eq_by_cmp R) d es) ≡ true → list_any test (items_at (eq_by_cmp R) d (e ∷ es)) ≡ true
      later is = by_test (eq_by_cmp R d e.0)
          (λ s. absurd (let none : lookup (eq_by_cmp R d) es ≡ None = lookup-none (eq_by_cmp R d) es (none_past_head (eq_by_cmp_equiv o) d e es apart s) in
          let nobody : false ≡ true = sym (ap (λ r. list_any test (unwrap_or r [])) none) ∙ is in cc))
          (λ s. rw s is)

module _ {W : Type 0} (test : W → Bool) where
  -- of those that are kept none passes
  clean-filter : (xs : List W) → list_any test (filter (λ x. not (test x)) xs) ≡ false
  clean-filter [] = refl
  clean-filter (x ∷ xs) = by_test (test x) (λ t. rw t (clean-filter xs)) (λ f. rw (f, f) (clean-filter xs))

  filter-clean : (xs : List W) → list_any test xs ≡ false → filter (λ x. not (test x)) xs ≡ xs
  filter-clean [] h = refl
  filter-clean (x ∷ xs) h = by_test (test x)
      (λ t. absurd (let both : true ≡ false = sym (ap (λ b. b || list_any test xs) t) ∙ h in cc))
      (λ f. rw f (ap (λ ys. x ∷ ys) (filter-clean xs (sym (ap (λ b. b || list_any test xs) f) ∙ h))))

  count-clean : (xs : List W) → list_any test xs ≡ false → count_by test xs ≡ 0
  count-clean xs h = omega (arith, length-filter_not test xs, ap length (filter-clean xs h))

  count-passes : (xs : List W) → list_any test xs ≡ true → 0 < count_by test xs
  count-passes [] h = absurd cc
  count-passes (x ∷ xs) h = by_test (test x)
      (λ t. let one : ◌≡◌ {A = ℕ} (cond (test x) 1 0) 1 = ap (λ b. cond b 1 0) t in omega (arith, sum_by-cons (λ y. cond (test y) 1 0) x xs, one))
      (λ f. let more = count-passes xs (sym (ap (λ b. b || list_any test xs) f) ∙ h) in omega (arith, sum_by-cons (λ y. cond (test y) 1 0) x xs, more))

  filter-twice : (xs : List W) → filter (λ x. not (test x)) (filter (λ x. not (test x)) xs) ≡ filter (λ x. not (test x)) xs
  filter-twice xs = filter-clean (filter (λ x. not (test x)) xs) (clean-filter xs)

-- a digest compares alike to equal ones
turned : {D : Type 0} {R : D → D → Ordering} (o : IsTotalOrder R) (a q k : D) → eq_by_cmp R q k ≡ true → R a q ≡ R a k
turned {R = R} o a q k same = o.antisymm a q ∙ ap ordering_reverse (o.congr q k a (equal_from (R q k) same)) ∙ sym (o.antisymm a k)
  where
    equal_from : (r : Ordering) → is_eq r ≡ true → r ≡ Equal
    equal_from Less h = absurd cc
    equal_from Equal h = refl
    equal_from Greater h = absurd cc

-- equal digests are behind the same bounds
range_same : {D : Type 0} {R : D → D → Ordering} (o : IsTotalOrder R) (after : Bound D) (q k : D) → eq_by_cmp R q k ≡ true → is_from_start R after q ≡ true → range_contains R after Unbounded k ≡ true
range_same {R = R} o (Included a) q k same h = rw (← turned o a q k same, h) refl
range_same {R = R} o (Excluded a) q k same h = rw (← turned o a q k same, h) refl
range_same o Unbounded q k same h = refl

-- how many waiters pass
abbrev pub passing : {D W : Type 0} → (W → Bool) → List (D × List W) → ℕ
passing test es = sum_by (λ e. count_by test e.1) es

pub sum-values : {K X : Type 0} (f : X → ℕ) (es : List (K × X)) → sum_by f (values_of es) ≡ sum_by (λ e. f e.1) es
sum-values f [] = refl
sum-values {K} {X} f (e ∷ es) = omega (arith, sum_by-cons f e.1 (values_of es), sum_by-cons (λ (x : K × X). f x.1) e es, sum-values f es)

module _ {D W : Type 0} (test : W → Bool) (at : D → Bool) where
  -- the waiters who pass leave the list at a digest
  pub passing-set : (es : List (D × List W)) (v w : List W) → lookup at es ≡ Some v → w ≡ filter (λ x. not (test x)) v → passing test (set_value at es w) + count_by test v ≡ passing test es
  passing-set es v w h is =
      let none : count_by test w ≡ 0 = ap (count_by test) is ∙ count-clean test (filter (λ x. not (test x)) v) (clean-filter test v) in
      omega (arith, none, sum_by-set_value (count_by test) at es v w h, sum-values (count_by test) es, sum-values (count_by test) (set_value at es w))

  -- a list of none leaves
  pub passing-removed : (es : List (D × List W)) (w : List W) → lookup at es ≡ Some w → length w ≡ 0 → passing test (remove_entry at es) ≡ passing test es
  passing-removed es w h none =
      let at_it : unwrap_or (option_map (count_by test) (lookup at es)) 0 ≡ count_by test w = ap (λ r. unwrap_or (option_map (count_by test) r) 0) h in
      omega (arith, none, length-filter_not test w, at_it, sum_by-remove_entry (count_by test) at es, sum-values (count_by test) es, sum-values (count_by test) (remove_entry at es))

-- a list that is written and then taken out
pub lookup-removed : {D W : Type 0} (R : D → D → Ordering) (d : D) (w : List W) (es mid fs : List (D × List W))
    → ((e : D) → lookup (eq_by_cmp R e) mid ≡ cond (eq_by_cmp R d e) (Some w) (lookup (eq_by_cmp R e) es))
    → ((e : D) → lookup (eq_by_cmp R e) fs ≡ cond (eq_by_cmp R d e) None (lookup (eq_by_cmp R e) mid))
    → (e : D) → lookup (eq_by_cmp R e) fs ≡ cond (eq_by_cmp R d e) None (lookup (eq_by_cmp R e) es)
lookup-removed R d w es mid fs set removed e = removed e ∙ ap (cond (eq_by_cmp R d e) None) (set e) ∙ twice (eq_by_cmp R d e) (Some w) (lookup (eq_by_cmp R e) es)
  where
    twice : {X : Type 0} (b : Bool) (x y : Option X) → cond b None (cond b x y) ≡ cond b None y
    twice true x y = refl
    twice false x y = refl

-- a list of none is taken out
pub lists-emptied : {D W : Type 0} {R : D → D → Ordering} (o : IsTotalOrder R) (d : D) (w : List W) (es fs : List (D × List W)) → length w ≡ 0
    → ((e : D) → lookup (eq_by_cmp R e) fs ≡ cond (eq_by_cmp R d e) None (lookup (eq_by_cmp R e) es))
    → (e : D) → items_at (eq_by_cmp R) e fs ≡ cond (eq_by_cmp R d e) w (items_at (eq_by_cmp R) e es)
lists-emptied {R = R} o d w es fs none at e = lists-updated o d None es fs at e ∙ ap (λ l. cond (eq_by_cmp R d e) l (items_at (eq_by_cmp R) e es)) (sym (nil_from_length w none))

-- the list of a digest has only those who do not pass
pub lists-dropped : {D W : Type 0} {R : D → D → Ordering} (o : IsTotalOrder R) (test : W → Bool) (d : D) {v w : List W} (es fs : List (D × List W))
    → lookup (eq_by_cmp R d) es ≡ Some v → w ≡ filter (λ x. not (test x)) v → ((e : D) → items_at (eq_by_cmp R) e fs ≡ cond (eq_by_cmp R d e) w (items_at (eq_by_cmp R) e es))
    → (e : D) → items_at (eq_by_cmp R) e fs ≡ cond (eq_by_cmp R d e) (filter (λ x. not (test x)) (items_at (eq_by_cmp R) e es)) (items_at (eq_by_cmp R) e es)
lists-dropped {R = R} o test d es fs was is now e = now e ∙ by_test (eq_by_cmp R d e)
    (λ t. rw t (is ∙ ap (λ r. filter (λ x. not (test x)) (unwrap_or r [])) (sym was ∙ sym (lookup-equal (eq_by_cmp_equiv o) d e es t))))
    (λ t. rw t refl)

-- nobody passes where nobody passes at any digest
passing-none : {D W : Type 0} {R : D → D → Ordering} (o : IsTotalOrder R) (test : W → Bool) (es : List (D × List W)) → IsDistinct (eq_by_cmp R) (keys_of es)
    → ((q : D) → list_any test (items_at (eq_by_cmp R) q es) ≡ false) → passing test es ≡ 0
passing-none o test [] apart h = refl
passing-none {D} {W} {R} o test (e ∷ es) apart h =
    let here : list_any test e.1 ≡ false = sym (ap (λ b. list_any test (unwrap_or (cond b (Some e.1) (lookup (eq_by_cmp R e.0) es)) [])) ((eq_by_cmp_equiv o).refl e.0)) ∙ h e.0 in
    omega (arith, sum_by-cons (λ (x : D × List W). count_by test x.1) e es, count-clean test e.1 here, passing-none o test es (IsDistinct-tail (eq_by_cmp R) e.0 (keys_of es) apart) later)
  where
    later : (q : D) → list_any test (items_at (eq_by_cmp R) q es) ≡ false
    later q = by_test (eq_by_cmp R q e.0)
        (λ t. ap (λ r. list_any test (unwrap_or r [])) (lookup-none (eq_by_cmp R q) es (none_past_head (eq_by_cmp_equiv o) q e es apart t)))
        (λ f. sym (ap (λ b. list_any test (unwrap_or (cond b (Some e.1) (lookup (eq_by_cmp R q) es)) [])) f) ∙ h q)

-- some more are counted
pub counted_more : (done removed n : ℕ) → removed ≡ counted done → min (removed + n) (2 ^ 64 - 1) ≡ counted (done + n)
counted_more done removed n is = omega (arith, is)

-- those who pass have left the lists up to a bound
pub record Cleaning {D W : Type 0} (R : D → D → Ordering) (test : W → Bool) (old now : List (D × List W)) (after : Bound D) (removed : ℕ) : Type 0 where
  pub awaited : AreAwaited R now
  pub kept : (e : D) → filter (λ w. not (test w)) (items_at (eq_by_cmp R) e now) ≡ filter (λ w. not (test w)) (items_at (eq_by_cmp R) e old)
  pub done : ℕ
  pub counts : removed ≡ counted done
  pub rest : passing test now + done ≡ passing test old
  pub clean : (q : D) → is_from_start R after q ≡ false → list_any test (items_at (eq_by_cmp R) q now) ≡ false

module _ {D W : Type 0} {R : D → D → Ordering} (o : IsTotalOrder R) (test : W → Bool) where
  pub Cleaning-start : (es : List (D × List W)) → AreAwaited R es → Cleaning R test es es Unbounded 0
  Cleaning-start es a = record { awaited = a; kept = λ e. refl; done = 0; counts = refl; rest = omega arith; clean = λ q h. absurd cc }

  module _ (old now new : List (D × List W)) (after : Bound D) (removed n : ℕ) (d : D) (so_far : Cleaning R test old now after removed)
      (found : first_with test (entries_between R after Unbounded now) ≡ Some d) where
    more_pass : n ≡ count_by test (items_at (eq_by_cmp R) d now) → 0 < n
    more_pass is =
        let passes = passes-found o (range_contains R after Unbounded) test d now (digests_apart now so_far.awaited) found in
        rw is (count-passes test (items_at (eq_by_cmp R) d now) passes)

    pub smaller : n ≡ count_by test (items_at (eq_by_cmp R) d now) → passing test new + n ≡ passing test now → passing test new < passing test now
    smaller is fewer = omega (arith, more_pass is, fewer)

    module _ (awaited : AreAwaited R new)
        (lists : (e : D) → items_at (eq_by_cmp R) e new ≡ cond (eq_by_cmp R d e) (filter (λ w. not (test w)) (items_at (eq_by_cmp R) e now)) (items_at (eq_by_cmp R) e now))
        (fewer : passing test new + n ≡ passing test now) where
      at_digest : (e : D) → eq_by_cmp R d e ≡ true → items_at (eq_by_cmp R) e new ≡ filter (λ w. not (test w)) (items_at (eq_by_cmp R) e now)
      at_digest e t = lists e ∙ ap (λ b. cond b (filter (λ w. not (test w)) (items_at (eq_by_cmp R) e now)) (items_at (eq_by_cmp R) e now)) t

      elsewhere : (e : D) → eq_by_cmp R d e ≡ false → items_at (eq_by_cmp R) e new ≡ items_at (eq_by_cmp R) e now
      elsewhere e f = lists e ∙ ap (λ b. cond b (filter (λ w. not (test w)) (items_at (eq_by_cmp R) e now)) (items_at (eq_by_cmp R) e now)) f

      was_clean : (q : D) → R q d ≡ Less → list_any test (items_at (eq_by_cmp R) q now) ≡ false
      was_clean q less = by_test (is_from_start R after q)
          (λ t. clean-before o (range_contains R after Unbounded) test d q (λ k same. range_same o after q k same t) less now so_far.awaited.rises found)
          (λ f. so_far.clean q f)

      still_clean : (q : D) → is_lt (R d q) ≡ false → list_any test (items_at (eq_by_cmp R) q new) ≡ false
      still_clean q h = by_order (R d q) (R d q) refl
          (λ less. absurd (let both : true ≡ false = sym (ap is_lt less) ∙ h in cc))
          (λ equal. ap (list_any test) (at_digest q (ap is_eq equal)) ∙ clean-filter test (items_at (eq_by_cmp R) q now))
          (λ more. ap (list_any test) (elsewhere q (ap is_eq more)) ∙ was_clean q (o.antisymm q d ∙ ap ordering_reverse more))

      pub Cleaning-step : Cleaning R test old new (Excluded d) (min (removed + n) (2 ^ 64 - 1))
      Cleaning-step = record {
        awaited = awaited;
        kept = λ e. by_test (eq_by_cmp R d e)
            (λ t. ap (filter (λ w. not (test w))) (at_digest e t) ∙ filter-twice test (items_at (eq_by_cmp R) e now) ∙ so_far.kept e)
            (λ f. ap (filter (λ w. not (test w))) (elsewhere e f) ∙ so_far.kept e);
        done = so_far.done + n;
        counts = counted_more so_far.done removed n so_far.counts;
        rest = omega (arith, fewer, so_far.rest);
        clean = still_clean;
      }

  module _ (old now : List (D × List W)) (after : Bound D) (removed : ℕ) (so_far : Cleaning R test old now after removed)
      (none : first_with test (entries_between R after Unbounded now) ≡ None) where
    all_clean : (q : D) → list_any test (items_at (eq_by_cmp R) q now) ≡ false
    all_clean q = by_test (is_from_start R after q)
        (λ t. clean-none o (range_contains R after Unbounded) test q (λ k same. range_same o after q k same t) now none)
        (λ f. so_far.clean q f)

    pub all_kept : (e : D) → items_at (eq_by_cmp R) e now ≡ filter (λ w. not (test w)) (items_at (eq_by_cmp R) e old)
    all_kept e = sym (filter-clean test (items_at (eq_by_cmp R) e now) (all_clean e)) ∙ so_far.kept e

    pub all_removed : removed ≡ counted (passing test old)
    all_removed =
        let nobody = passing-none o test now (digests_apart now so_far.awaited) all_clean in
        let is : so_far.done ≡ passing test old = omega (arith, nobody, so_far.rest) in so_far.counts ∙ ap counted is

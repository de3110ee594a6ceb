-- Who waits, after a push, a take and a cleanup.
use Rattle.std.proofs.Common.{◌≡◌, ◌+◌, ◌<◌, ◌≤◌, Bool, true, false, not, cond, List, [], ◌∷◌, ◌++◌, length, length-append, Option, Some, None, Result, Ok, Err, OnOk, refl, sym, ap, ◌∙◌, subst, arith, inl, inr}
use Rattle.std.specs.Prelude.{nat_lt, unwrap_or, IfErr}
use Rattle.std.specs.List.{filter, count_by, IsDistinct, AllByRecursion, items_where_true}
use Rattle.std.specs.List.Retain.{IsFiltered, ReturnsInTurn}
use Rattle.std.specs.List.Sorted.{IsStrictlySortedBy}
use Rattle.std.specs.Map.{lookup, keys_of}
use Rattle.std.specs.BTreeMap.{insert_entry}
use Rattle.std.specs.Map.Calls.{RetainsPairs}
use Rattle.std.specs.Cmp.{IsTotalOrder, IsEquivalence, eq_by_cmp_equiv}
use Rattle.std.specs.Ordering.{eq_by_cmp}
use Rattle.std.specs.declared.cmp.Ordering.{Ordering}
use Rattle.std.proofs.lemmas.Bool.{ltb-true, ltb-false}
use Rattle.std.proofs.lemmas.List.{nil_from_length}
use Rattle.std.proofs.lemmas.List.Filters.{length-filter_both}
use Rattle.std.proofs.lemmas.List.Sums.{sum_by-cons, length-filter}
use Rattle.std.proofs.lemmas.Map.Keys.{IsDistinct-from_sorted, IsDistinct-head, IsDistinct-tail}
use Rattle.entries.proofs.Tables.{insert_entry-same}
use Rattle.broadcast_core.specs.Content.{items_at}
use Rattle.broadcast_core.specs.Waiters.{NoneEmpty, waiting_in, DropsClosed}
use Rattle.broadcast_core.specs.Awaited.{AreAwaited}
use Rattle.broadcast_core.proofs.Distinct.{by_test}
use Rattle.broadcast_core.proofs.Entries.{lookup-equal}

list_from : {X : Type 0} (b : Bool) (left o : Option (List X)) → unwrap_or (cond b left o) [] ≡ cond b (unwrap_or left []) (unwrap_or o [])
list_from true left o = refl
list_from false left o = refl

pub digests_apart : {D W : Type 0} {R : D → D → Ordering} (es : List (D × List W)) → AreAwaited R es → IsDistinct (eq_by_cmp R) (keys_of es)
digests_apart {R = R} es a = IsDistinct-from_sorted R (keys_of es) a.rises

module _ {D W : Type 0} {R : D → D → Ordering} (o : IsTotalOrder R) (d : D) (left : Option (List W)) (es fs : List (D × List W))
    (at : (e : D) → lookup (eq_by_cmp R e) fs ≡ cond (eq_by_cmp R d e) left (lookup (eq_by_cmp R e) es)) where
  -- one digest's list is another, or gone
  pub AreAwaited-updated : AreAwaited R es → IsStrictlySortedBy R (keys_of fs) → ((ws : List W) → left ≡ Some ws → 0 < length ws) → AreAwaited R fs
  AreAwaited-updated was rises some = record {
    rises = rises;
    none_empty = λ e ws h. by_test (eq_by_cmp R d e)
        (λ t. some ws (sym (at e ∙ ap (λ b. cond b left (lookup (eq_by_cmp R e) es)) t) ∙ h))
        (λ t. was.none_empty e ws (sym (at e ∙ ap (λ b. cond b left (lookup (eq_by_cmp R e) es)) t) ∙ h));
  }

  pub lists-updated : (e : D) → items_at (eq_by_cmp R) e fs ≡ cond (eq_by_cmp R d e) (unwrap_or left []) (items_at (eq_by_cmp R) e es)
  lists-updated e = ap (λ r. unwrap_or r []) (at e) ∙ list_from (eq_by_cmp R d e) left (lookup (eq_by_cmp R e) es)

-- one digest's list is another, of which somebody waits
pub AreAwaited-written : {D W : Type 0} {R : D → D → Ordering} (o : IsTotalOrder R) (d : D) (ws : List W) (es fs : List (D × List W))
    → ((e : D) → lookup (eq_by_cmp R e) fs ≡ cond (eq_by_cmp R d e) (Some ws) (lookup (eq_by_cmp R e) es))
    → AreAwaited R es → IsStrictlySortedBy R (keys_of fs) → 0 < length ws → AreAwaited R fs
AreAwaited-written o d ws es fs at was rises some =
    AreAwaited-updated o d (Some ws) es fs at was rises (λ vs h. let is : ws ≡ vs = cc in subst (λ xs. 0 < length xs) is some)

-- one more waits for the digest
pub lists-pushed : {D W : Type 0} {R : D → D → Ordering} (o : IsTotalOrder R) (d : D) (w : W) (ws : List W) (es fs : List (D × List W))
    → ((e : D) → lookup (eq_by_cmp R e) fs ≡ cond (eq_by_cmp R d e) (Some ws) (lookup (eq_by_cmp R e) es))
    → ws ≡ items_at (eq_by_cmp R) d es ++ w ∷ []
    → (e : D) → items_at (eq_by_cmp R) e fs ≡ cond (eq_by_cmp R d e) (items_at (eq_by_cmp R) e es ++ w ∷ []) (items_at (eq_by_cmp R) e es)
lists-pushed {R = R} o d w ws es fs at is e = lists-updated o d (Some ws) es fs at e ∙ by_test (eq_by_cmp R d e)
    (λ t. rw t (is ∙ ap (λ r. unwrap_or r [] ++ w ∷ []) (sym (lookup-equal (eq_by_cmp_equiv o) d e es t))))
    (λ t. rw t refl)

pub some_pushed : {W : Type 0} (ws : List W) (w : W) → 0 < length (ws ++ w ∷ [])
some_pushed ws w = omega (arith, length-append ws (w ∷ []))

-- the waiters of the digest are ws now
module _ {D W : Type 0} {R : D → D → Ordering} (o : IsTotalOrder R) (d : D) (w : W) (ws : List W) (es fs gs : List (D × List W)) (same : gs ≡ fs)
    (at : (e : D) → lookup (eq_by_cmp R e) fs ≡ cond (eq_by_cmp R d e) (Some ws) (lookup (eq_by_cmp R e) es)) where
  AreAwaited-same : AreAwaited R es → IsStrictlySortedBy R (keys_of fs) → 0 < length ws → AreAwaited R gs
  AreAwaited-same was rises some = subst (AreAwaited R) (sym same) (AreAwaited-written o d ws es fs at was rises some)

  lists-same : ws ≡ items_at (eq_by_cmp R) d es ++ w ∷ []
      → (e : D) → items_at (eq_by_cmp R) e gs ≡ cond (eq_by_cmp R d e) (items_at (eq_by_cmp R) e es ++ w ∷ []) (items_at (eq_by_cmp R) e es)
  lists-same is e = ap (items_at (eq_by_cmp R) e) same ∙ lists-pushed o d w ws es fs at is e

  -- the first who waits for the digest
  module _ (one : ws ≡ w ∷ []) where
    pub AreAwaited-first : AreAwaited R es → IsStrictlySortedBy R (keys_of fs) → AreAwaited R gs
    AreAwaited-first was rises = AreAwaited-same was rises (rw one (omega arith))

    pub lists-first : lookup (eq_by_cmp R d) es ≡ None
        → (e : D) → items_at (eq_by_cmp R) e gs ≡ cond (eq_by_cmp R d e) (items_at (eq_by_cmp R) e es ++ w ∷ []) (items_at (eq_by_cmp R) e es)
    lists-first none = lists-same (one ∙ ap (λ r. unwrap_or r [] ++ w ∷ []) (sym none))

  -- one more waits for it, if there was room
  module _ {X A : Type 0} (was : List W) (there : lookup (eq_by_cmp R d) es ≡ Some was) where
    pub AreAwaited-joined : (r : Result X (W × A)) → OnOk r (ws ≡ was ++ w ∷ []) → IfErr r (λ y. (y.0 ≡ w) × (ws ≡ was))
        → AreAwaited R es → IsStrictlySortedBy R (keys_of fs) → AreAwaited R gs
    AreAwaited-joined (Ok x) ok err awaited rises = AreAwaited-same awaited rises (rw ok (some_pushed was w))
    AreAwaited-joined (Err y) ok err awaited rises = AreAwaited-same awaited rises (rw (err.1) (awaited.none_empty d was there))

    pub lists-joined : (r : Result X (W × A)) → OnOk r (ws ≡ was ++ w ∷ [])
        → OnOk r ((e : D) → items_at (eq_by_cmp R) e gs ≡ cond (eq_by_cmp R d e) (items_at (eq_by_cmp R) e es ++ w ∷ []) (items_at (eq_by_cmp R) e es))
    lists-joined (Ok x) ok = lists-same (ok ∙ ap (λ r. unwrap_or r [] ++ w ∷ []) (sym there))
    lists-joined (Err y) ok = tt

    pub entries-refused : (r : Result X (W × A)) → IfErr r (λ y. (y.0 ≡ w) × (ws ≡ was))
        → IsStrictlySortedBy R (keys_of es) → fs ≡ insert_entry R es d ws → IfErr r (λ y. (y.0 ≡ w) × (gs ≡ es))
    entries-refused (Ok x) err rises is = tt
    entries-refused (Err y) err rises is = (err.0, same ∙ is ∙ ap (insert_entry R es d) err.1 ∙ insert_entry-same o d was es rises there)

-- an entry's list becomes another by R, and an entry without a list is gone
abbrev pub Kept : {D W : Type 0} → (List W → List W → Type 0) → List (D × List W) → List (D × List W) → Type 0
Kept R [] kept = kept ≡ []
Kept {D} {W} R (e ∷ es) kept =
    (w : List W) × (rest : List (D × List W)) × R e.1 w × Kept R es rest × (kept ≡ cond (nat_lt 0 (length w)) ((e.0, w) ∷ rest) rest)

pub Kept-from_retain : {F D W : Type 0} (T : F → D → List W → Bool → List W → F → Type 0) (R : List W → List W → Type 0) (f : F)
    → ((k : D) (v : List W) (b : Bool) (w : List W) (f' : F) → T f k v b w f' → R v w × (b ≡ nat_lt 0 (length w)) × (f' ≡ f))
    → (es kept : List (D × List W)) → RetainsPairs T f es kept → Kept R es kept
Kept-from_retain T R f says [] kept h = h
Kept-from_retain {W = W} T R f says (e ∷ es) kept (b, w, f', rest, called, more, is) =
    let said = says e.0 e.1 b w f' called in (
      w,
      rest,
      said.0,
      Kept-from_retain T R f says es rest (subst (λ g. RetainsPairs T g es rest) said.2 more),
      is ∙ ap (λ c. cond c ((e.0, w) ∷ rest) rest) said.1,
    )

nothing_from : {W : Type 0} (w : List W) → nat_lt 0 (length w) ≡ false → w ≡ []
nothing_from w h = nil_from_length w (omega (arith, ltb-false 0 (length w) h))

something_from : {W : Type 0} (w : List W) → nat_lt 0 (length w) ≡ true → 0 < length w
something_from w h = ltb-true 0 (length w) h

module _ {D W : Type 0} (R : List W → List W → Type 0) where
  -- what is not there is not kept
  none_kept : (test : D → Bool) (es kept : List (D × List W)) → Kept R es kept → lookup test es ≡ None → lookup test kept ≡ None
  none_kept test [] kept h n = rw h refl
  none_kept test (e ∷ es) kept (w, rest, r, more, is) n = by_test (test e.0)
      (λ t. absurd (let found : lookup test (e ∷ es) ≡ Some e.1 = rw t refl in cc))
      (λ t. let none : lookup test es ≡ None = sym (ap (λ b. cond b (Some e.1) (lookup test es)) t) ∙ n in
      let past : lookup test rest ≡ None = none_kept test es rest more none in
      rw is (by_test (nat_lt 0 (length w)) (λ s. rw (s, t) past) (λ s. rw s past)))

  -- nobody is kept who does not wait
  pub NoneEmpty-kept : (same : D → D → Bool) (es kept : List (D × List W)) → Kept R es kept → NoneEmpty same kept
  NoneEmpty-kept same [] kept h d ws k = absurd (let none : lookup (same d) kept ≡ None = rw h refl in cc)
  NoneEmpty-kept same (e ∷ es) kept (w, rest, r, more, is) d ws k = by_test (nat_lt 0 (length w))
      (λ s. let at : lookup (same d) ((e.0, w) ∷ rest) ≡ Some ws = sym (ap (lookup (same d)) (is ∙ ap (λ c. cond c ((e.0, w) ∷ rest) rest) s)) ∙ k in
      by_test (same d e.0)
      (λ t. let one : Some w ≡ Some ws = sym (ap (λ b. cond b (Some w) (lookup (same d) rest)) t) ∙ at in
      let one_is : w ≡ ws = cc in subst (λ xs. 0 < length xs) one_is (something_from w s))
      (λ t. NoneEmpty-kept same es rest more d ws (sym (ap (λ b. cond b (Some w) (lookup (same d) rest)) t) ∙ at)))
      (λ s. NoneEmpty-kept same es rest more d ws (sym (ap (lookup (same d)) (is ∙ ap (λ c. cond c ((e.0, w) ∷ rest) rest) s)) ∙ k))

  pub AreAwaited-kept : {C : D → D → Ordering} (es kept : List (D × List W)) → Kept R es kept → IsStrictlySortedBy C (keys_of kept) → AreAwaited C kept
  AreAwaited-kept {C = C} es kept h rises = record { rises = rises; none_empty = NoneEmpty-kept (eq_by_cmp C) es kept h }

  missing : {same : D → D → Bool} (laws : IsEquivalence same) (d : D) (e : D × List W) (es : List (D × List W)) → IsDistinct same (keys_of (e ∷ es)) → same d e.0 ≡ true
      → lookup (same d) es ≡ None
  missing {same = same} laws d e es apart t =
      sym (lookup-equal laws d e.0 es t) ∙ absent (same e.0) es (IsDistinct-head same e.0 (keys_of es) apart)
    where
      absent : (test : D → Bool) (gs : List (D × List W)) → AllByRecursion (λ k. test k ≡ false) (keys_of gs) → lookup test gs ≡ None
      absent test [] h = refl
      absent test (g ∷ gs) h = rw h.0 (absent test gs h.1)

  -- each digest's list became another by R
  pub lists-kept : {same : D → D → Bool} (laws : IsEquivalence same) → R [] [] → (d : D) (es kept : List (D × List W)) → IsDistinct same (keys_of es) → Kept R es kept
      → R (items_at same d es) (items_at same d kept)
  lists-kept {same = same} laws none d [] kept apart h = subst (λ ks. R [] (items_at same d ks)) (sym h) none
  lists-kept {same = same} laws none d (e ∷ es) kept apart (w, rest, r, more, is) = by_test (same d e.0)
      (λ t. subst (λ ws. R (items_at same d (e ∷ es)) ws) (here t) (subst (λ vs. R vs w) (sym (ap (λ b. unwrap_or (cond b (Some e.1) (lookup (same d) es)) []) t)) r))
      (λ t. subst (λ ws. R (items_at same d (e ∷ es)) ws) (later t)
      (subst (λ vs. R vs (items_at same d rest)) (sym (ap (λ b. unwrap_or (cond b (Some e.1) (lookup (same d) es)) []) t)) (lists-kept laws none d es rest (IsDistinct-tail same e.0 (keys_of es) apart) more)))
    where
      here : same d e.0 ≡ true → w ≡ items_at same d kept
      here t = rw is (by_test (nat_lt 0 (length w))
          (λ s. rw (s, t) refl)
          (λ s. rw s (nothing_from w s ∙ ap (λ r. unwrap_or r []) (sym (none_kept (same d) es rest more (missing laws d e es apart t))))))

      later : same d e.0 ≡ false → items_at same d rest ≡ items_at same d kept
      later t = rw is (by_test (nat_lt 0 (length w)) (λ s. rw (s, t) refl) (λ s. rw s refl))

  waiting-cons : (w : List W) (e : D × List W) (rest : List (D × List W)) → waiting_in (cond (nat_lt 0 (length w)) ((e.0, w) ∷ rest) rest) ≡ length w + waiting_in rest
  waiting-cons w e rest = by_test (nat_lt 0 (length w))
      (λ s. rw s (sum_by-cons (λ (x : D × List W). length x.1) (e.0, w) rest))
      (λ s. rw s (let none : length w ≡ 0 = ap length (nothing_from w s) in omega (arith, none)))

  pub waiting-fewer : ((v w : List W) → R v w → length w ≤ length v) → (es kept : List (D × List W)) → Kept R es kept → waiting_in kept ≤ waiting_in es
  waiting-fewer less [] kept h = rw h (omega arith)
  waiting-fewer less (e ∷ es) kept (w, rest, r, more, is) =
      omega (arith, ap waiting_in is, waiting-cons w e rest, less e.1 w r, waiting-fewer less es rest more, sum_by-cons (λ (x : D × List W). length x.1) e es)

-- those that pass and those that fail
pub length-filter_not : {W : Type 0} (p : W → Bool) (xs : List W) → length (filter (λ x. not (p x)) xs) + count_by p xs ≡ length xs
length-filter_not p xs = omega (arith, length-filter_both p (λ x. not (p x)) (λ x. refl) xs, length-filter p xs)

module _ {W : Type 0} (answers : W → Bool → Type 0) where
  pub length-DropsClosed : (xs ys : List W) → DropsClosed answers xs ys → length ys ≤ length xs
  length-DropsClosed [] ys h = rw h (omega arith)
  length-DropsClosed (x ∷ xs) ys (inl h) = omega (arith, length-DropsClosed xs ys h.1)
  length-DropsClosed (x ∷ xs) ys (inr (a, (rest, is, h))) = omega (arith, ap length is, length-DropsClosed xs rest h)

  -- a `retain` that keeps what does not answer closed
  pub DropsClosed-from_retain : {F : Type 0} (T : F → W → Bool → F → Type 0) (f : F)
      → ((x : W) (b : Bool) (f' : F) → T f x b f' → answers x (not b) × (f' ≡ f))
      → (xs ys : List W) → IsFiltered T f xs ys → DropsClosed answers xs ys
  DropsClosed-from_retain {F} T f says xs ys (bs, q, long, told, is) = by_answers bs xs ys long told is
    where
      by_answers : (bs : List Bool) (xs ys : List W) → length bs ≡ length xs → ReturnsInTurn T f bs xs q → ys ≡ items_where_true bs xs → DropsClosed answers xs ys
      by_answers [] [] ys long told is = is
      by_answers [] (x ∷ xs) ys long told is = absurd (omega (arith, long))
      by_answers (b ∷ bs) [] ys long told is = absurd (omega (arith, long))
      by_answers (true ∷ bs) (x ∷ xs) ys long (g, called, told) is =
          let said = says x true g called in
          inr (
            said.0,
            (
              items_where_true bs xs,
              is,
              by_answers bs xs (items_where_true bs xs) (omega (arith, long)) (subst (λ h. ReturnsInTurn T h bs xs q) said.1 told) refl,
            ),
          )
      by_answers (false ∷ bs) (x ∷ xs) ys long (g, called, told) is =
          let said = says x false g called in
          inl (said.0, by_answers bs xs ys (omega (arith, long)) (subst (λ h. ReturnsInTurn T h bs xs q) said.1 told) is)

-- What a look-up in all buckets is, and what a change of one is of all.
use Rattle.std.proofs.Common.{Bool, true, false, cond, ◌≡◌, ℕ, zero, suc, ◌+◌, ◌<◌, List, [], ◌∷◌, ◌++◌, Option, Some, None, refl, sym, ap, ◌∙◌, arith}
use Rattle.std.specs.Prelude.{is_some, slice_index_or}
use Rattle.std.specs.Cmp.{IsTotalOrder}
use Rattle.std.specs.List.{AllByRecursion, IsDistinct, filter}
use Rattle.std.specs.List.Sorted.{IsStrictlySortedBy}
use Rattle.std.specs.Map.{lookup, lookup_entry, keys_of, remove_entry}
use Rattle.std.specs.BTreeMap.{insert_entry}
use Rattle.std.specs.Option.{option_map}
use Rattle.std.specs.Ordering.{eq_by_cmp, is_eq, match_ordering, ordering_reverse}
use Rattle.std.specs.declared.cmp.Ordering.{Ordering}
use Rattle.std.specs.declared.cmp.Ordering.TheVariants.{Less, Equal, Greater}
use Rattle.entries.specs.Parts.{put_all, gathered, entry_of, IsBucket, AreBucketsFrom}

abbrev the_none : (X : Type 0) → Option X
the_none X = None

-- the first of two that there is
abbrev pub either : {X : Type 0} → Option X → Option X → Option X
either None o = o
either (Some x) o = Some x

pub either_none : {X : Type 0} (o : Option X) → either o None ≡ o
either_none None = refl
either_none (Some x) = refl

pub is_equal : (r : Ordering) → is_eq r ≡ true → r ≡ Equal
is_equal Less is = cc
is_equal Equal is = refl
is_equal Greater is = cc

pub none_value : {X : Type 0} (o : Option X) → is_some o ≡ false → o ≡ None
none_value None empty = refl
none_value (Some x) empty = cc

-- the value of the entry that a test finds
pub lookup-entry : {K V : Type 0} (test : K → Bool) (es : List (K × V)) → lookup test es ≡ option_map (λ e. e.1) (lookup_entry test es)
lookup-entry test [] = refl
lookup-entry test (e ∷ es) = at (test e.0) (lookup-entry test es)
  where
    at : (b : Bool) → lookup test es ≡ option_map (λ e. e.1) (lookup_entry test es) → cond b (Some e.1) (lookup test es) ≡ option_map (λ e. e.1) (cond b (Some e) (lookup_entry test es))
    at true rest = refl
    at false rest = rest

pub entry_none : {K V : Type 0} (test : K → Bool) (es : List (K × V)) → lookup test es ≡ None → lookup_entry test es ≡ None
entry_none {K = K} {V = V} test es none = at (lookup_entry test es) (sym (lookup-entry test es) ∙ none)
  where
    at : (o : Option (K × V)) → option_map (λ (e : K × V). e.1) o ≡ None → o ≡ None
    at None is = refl
    at (Some e) is = cc

nothing : {X : Type 0} (b : Bool) → (the_none X) ≡ cond b (the_none X) (the_none X)
nothing true = refl
nothing false = refl

module _ {K : Type 0} {R : K → K → Ordering} (o : IsTotalOrder R) where
  pub flips : (x y : K) → eq_by_cmp R x y ≡ eq_by_cmp R y x
  flips x y = ap is_eq (o.antisymm x y) ∙ at (R y x)
    where
      at : (r : Ordering) → is_eq (ordering_reverse r) ≡ is_eq r
      at Less = refl
      at Equal = refl
      at Greater = refl

  pub same : (x y z : K) → eq_by_cmp R x y ≡ true → R x z ≡ R y z
  same x y z equal = o.congr x y z (is_equal (R x y) equal)

  pub here : (x : K) → eq_by_cmp R x x ≡ true
  here x = at (R x x) (o.antisymm x x)
    where
      at : (r : Ordering) → r ≡ ordering_reverse r → is_eq r ≡ true
      at Less is = cc
      at Equal is = refl
      at Greater is = cc

module _ {K V : Type 0} {R : K → K → Ordering} (o : IsTotalOrder R) where
  -- equal keys find the same
  pub found-same : (p q : K) (es : List (K × V)) → eq_by_cmp R p q ≡ true → entry_of R p es ≡ entry_of R q es
  found-same p q [] equal = refl
  found-same p q (e ∷ es) equal = let first = ap is_eq (same o p q e.0 equal) in let rest = found-same p q es equal in
      ap (λ b. cond b (Some e) (entry_of R p es)) first ∙ ap (λ l. cond (eq_by_cmp R q e.0) (Some e) l) rest

  -- no key of a list that is above is found
  none-above : (k : K) (es : List (K × V)) → AllByRecursion (λ y. R k y ≡ Less) (keys_of es) → entry_of R k es ≡ None
  none-above k [] all = refl
  none-above k (e ∷ es) all = ap (λ r. cond (is_eq r) (Some e) (entry_of R k es)) all.0 ∙ none-above k es all.1

  -- a key that is put in
  pub found-inserted : (q k : K) (v : V) (es : List (K × V)) → entry_of R k es ≡ None → entry_of R q (insert_entry R es k v) ≡ cond (eq_by_cmp R q k) (Some (k, v)) (entry_of R q es)
  found-inserted q k v [] none = refl
  found-inserted q k v (e ∷ es) none = at (R k e.0) refl none (found-inserted q k v es)
    where
      apart : (a b : Bool) → eq_by_cmp R q k ≡ a → eq_by_cmp R q e.0 ≡ b → R k e.0 ≡ Greater → {X : Type 0} (x y z : X) → cond b x (cond a y z) ≡ cond a y (cond b x z)
      apart false b is_a is_b more x y z = refl
      apart true false is_a is_b more x y z = refl
      apart true true is_a is_b more x y z = let one = same o q k e.0 is_a in let two = is_equal (R q e.0) is_b in cc

      at : (r : Ordering) → R k e.0 ≡ r → cond (is_eq r) (Some e) (entry_of R k es) ≡ None
          → (entry_of R k es ≡ None → entry_of R q (insert_entry R es k v) ≡ cond (eq_by_cmp R q k) (Some (k, v)) (entry_of R q es))
          → entry_of R q (match_ordering r ((k, v) ∷ e ∷ es) ((e.0, v) ∷ es) (e ∷ insert_entry R es k v)) ≡ cond (eq_by_cmp R q k) (Some (k, v)) (cond (eq_by_cmp R q e.0) (Some e) (entry_of R q es))
      at Less is none rest = refl
      at Equal is none rest = cc
      at Greater is none rest = ap (λ l. cond (eq_by_cmp R q e.0) (Some e) l) (rest none)
          ∙ apart (eq_by_cmp R q k) (eq_by_cmp R q e.0) refl refl is (Some e) (Some (k, v)) (entry_of R q es)

  none-passes : (k : K) (es : List (K × V)) → AllByRecursion (λ y. eq_by_cmp R k y ≡ false) (keys_of es) → entry_of R k es ≡ None
  none-passes k [] all = refl
  none-passes k (e ∷ es) all = ap (λ b. cond b (Some e) (entry_of R k es)) all.0 ∙ none-passes k es all.1

  -- a key that is taken out
  pub found-removed : (q k : K) (es : List (K × V)) → IsDistinct (eq_by_cmp R) (keys_of es) → entry_of R q (remove_entry (eq_by_cmp R k) es) ≡ cond (eq_by_cmp R q k) None (entry_of R q es)
  unfolding IsDistinct
  found-removed q k [] distinct = nothing (eq_by_cmp R q k)
  found-removed q k (e ∷ es) distinct = at (eq_by_cmp R k e.0) (eq_by_cmp R q k) refl refl (found-removed q k es distinct.1)
    where
      at : (b a : Bool) → eq_by_cmp R k e.0 ≡ b → eq_by_cmp R q k ≡ a → entry_of R q (remove_entry (eq_by_cmp R k) es) ≡ cond (eq_by_cmp R q k) None (entry_of R q es)
          → entry_of R q (cond b es (e ∷ remove_entry (eq_by_cmp R k) es)) ≡ cond a None (cond (eq_by_cmp R q e.0) (Some e) (entry_of R q es))
      at true true is_b is_a rest =
          let one : eq_by_cmp R q e.0 ≡ true = ap is_eq (same o q k e.0 is_a) ∙ is_b in
          found-same q e.0 es one ∙ none-passes e.0 es distinct.0
      at true false is_b is_a rest =
          let other : eq_by_cmp R q e.0 ≡ false = flips o q e.0 ∙ sym (ap is_eq (same o k e.0 q is_b)) ∙ flips o k q ∙ is_a in
          sym (ap (λ b. cond b (Some e) (entry_of R q es)) other)
      at false true is_b is_a rest =
          let other : eq_by_cmp R q e.0 ≡ false = ap is_eq (same o q k e.0 is_a) ∙ is_b in
          ap (λ b. cond b (Some e) (entry_of R q (remove_entry (eq_by_cmp R k) es))) other ∙ rest ∙ ap (λ b. cond b None (entry_of R q es)) is_a
      at false false is_b is_a rest = ap (λ l. cond (eq_by_cmp R q e.0) (Some e) l) (rest ∙ ap (λ b. cond b None (entry_of R q es)) is_a)

  -- a key that is put in at the end
  pub found-pushed : (q k : K) (v : V) (es : List (K × V)) → entry_of R k es ≡ None → entry_of R q (es ++ (k, v) ∷ []) ≡ cond (eq_by_cmp R q k) (Some (k, v)) (entry_of R q es)
  found-pushed q k v [] none = refl
  found-pushed q k v (e ∷ es) none = at (eq_by_cmp R k e.0) (eq_by_cmp R q k) refl refl none (found-pushed q k v es)
    where
      at : (b a : Bool) → eq_by_cmp R k e.0 ≡ b → eq_by_cmp R q k ≡ a → cond b (Some e) (entry_of R k es) ≡ None
          → (entry_of R k es ≡ None → entry_of R q (es ++ (k, v) ∷ []) ≡ cond (eq_by_cmp R q k) (Some (k, v)) (entry_of R q es))
          → cond (eq_by_cmp R q e.0) (Some e) (entry_of R q (es ++ (k, v) ∷ [])) ≡ cond a (Some (k, v)) (cond (eq_by_cmp R q e.0) (Some e) (entry_of R q es))
      at true a is_b is_a none rest = cc
      at false true is_b is_a none rest =
          let other : eq_by_cmp R q e.0 ≡ false = ap is_eq (same o q k e.0 is_a) ∙ is_b in
          ap (λ b. cond b (Some e) (entry_of R q (es ++ (k, v) ∷ []))) other ∙ rest none ∙ ap (λ b. cond b (Some (k, v)) (entry_of R q es)) is_a
      at false false is_b is_a none rest = ap (λ l. cond (eq_by_cmp R q e.0) (Some e) l) (rest none ∙ ap (λ b. cond b (Some (k, v)) (entry_of R q es)) is_a)

  -- a key among those that pass a test which equal keys pass alike
  pub found-filtered : (p : K → Bool) → ((x y : K) → R x y ≡ Equal → p x ≡ p y) → (q : K) (es : List (K × V)) → entry_of R q (filter (λ e. p e.0) es) ≡ cond (p q) (entry_of R q es) None
  found-filtered p alike q [] = nothing (p q)
  found-filtered p alike q (e ∷ es) = at (p e.0) (p q) (eq_by_cmp R q e.0) refl refl refl (found-filtered p alike q es)
    where
      at : (b a c : Bool) → p e.0 ≡ b → p q ≡ a → eq_by_cmp R q e.0 ≡ c → entry_of R q (filter (λ e. p e.0) es) ≡ cond (p q) (entry_of R q es) None
          → entry_of R q (cond b (e ∷ filter (λ e. p e.0) es) (filter (λ e. p e.0) es)) ≡ cond a (cond c (Some e) (entry_of R q es)) None
      at true true c is_b is_a is_c rest = ap (λ b. cond b (Some e) (entry_of R q (filter (λ e. p e.0) es))) is_c ∙ ap (λ l. cond c (Some e) l) (rest ∙ ap (λ b. cond b (entry_of R q es) None) is_a)
      at true false true is_b is_a is_c rest = let one = alike q e.0 (is_equal (R q e.0) is_c) in cc
      at true false false is_b is_a is_c rest = ap (λ b. cond b (Some e) (entry_of R q (filter (λ e. p e.0) es))) is_c ∙ rest ∙ ap (λ b. cond b (entry_of R q es) None) is_a
      at false true true is_b is_a is_c rest = let one = alike q e.0 (is_equal (R q e.0) is_c) in cc
      at false true false is_b is_a is_c rest = rest ∙ ap (λ b. cond b (entry_of R q es) None) is_a
      at false false c is_b is_a is_c rest = rest ∙ ap (λ b. cond b (entry_of R q es) None) is_a

  pub distinct-filtered : (p : K × V → Bool) (es : List (K × V)) → IsDistinct (eq_by_cmp R) (keys_of es) → IsDistinct (eq_by_cmp R) (keys_of (filter p es))
  unfolding IsDistinct
  distinct-filtered p [] distinct = tt
  distinct-filtered p (e ∷ es) distinct = at (p e) (distinct-filtered p es distinct.1)
    where
      fewer : (fs : List (K × V)) → AllByRecursion (λ y. eq_by_cmp R e.0 y ≡ false) (keys_of fs) → AllByRecursion (λ y. eq_by_cmp R e.0 y ≡ false) (keys_of (filter p fs))
      fewer [] all = tt
      fewer (f ∷ fs) all = one (p f) (fewer fs all.1)
        where
          one : (b : Bool) → AllByRecursion (λ y. eq_by_cmp R e.0 y ≡ false) (keys_of (filter p fs)) → AllByRecursion (λ y. eq_by_cmp R e.0 y ≡ false) (keys_of (cond b (f ∷ filter p fs) (filter p fs)))
          one true rest = (all.0, rest)
          one false rest = rest

      at : (b : Bool) → IsDistinct (eq_by_cmp R) (keys_of (filter p es)) → IsDistinct (eq_by_cmp R) (keys_of (cond b (e ∷ filter p es) (filter p es)))
      at true rest = (fewer es distinct.0, rest)
      at false rest = rest

  pub distinct-pushed : (k : K) (v : V) (es : List (K × V)) → entry_of R k es ≡ None → IsDistinct (eq_by_cmp R) (keys_of es) → IsDistinct (eq_by_cmp R) (keys_of (es ++ (k, v) ∷ []))
  unfolding IsDistinct
  distinct-pushed k v [] none distinct = (tt, tt)
  distinct-pushed k v (e ∷ es) none distinct = at (eq_by_cmp R k e.0) refl none (λ n. distinct-pushed k v es n distinct.1)
    where
      more : (fs : List (K × V)) → eq_by_cmp R e.0 k ≡ false → AllByRecursion (λ y. eq_by_cmp R e.0 y ≡ false) (keys_of fs) → AllByRecursion (λ y. eq_by_cmp R e.0 y ≡ false) (keys_of (fs ++ (k, v) ∷ []))
      more [] other all = (other, tt)
      more (f ∷ fs) other all = (all.0, more fs other all.1)

      at : (b : Bool) → eq_by_cmp R k e.0 ≡ b → cond b (Some e) (entry_of R k es) ≡ None → (entry_of R k es ≡ None → IsDistinct (eq_by_cmp R) (keys_of (es ++ (k, v) ∷ []))) → IsDistinct (eq_by_cmp R) (keys_of ((e ∷ es) ++ (k, v) ∷ []))
      at true is none rest = cc
      at false is none rest = (more es (flips o e.0 k ∙ is) distinct.0, rest none)

  -- all that is put in is found, if none was there
  found-all : (q : K) (more es : List (K × V)) → IsDistinct (eq_by_cmp R) (keys_of es) → ((k : K) → is_some (entry_of R k es) ≡ true → entry_of R k more ≡ None)
      → entry_of R q (put_all R more es) ≡ either (entry_of R q es) (entry_of R q more)
  unfolding IsDistinct
  found-all q more [] distinct apart = refl
  found-all q more (e ∷ es) distinct apart =
      found-inserted q e.0 e.1 (put_all R more es) (found-all e.0 more es distinct.1 apart_rest ∙ ap (λ l. either l (entry_of R e.0 more)) (none-passes e.0 es distinct.0) ∙ apart e.0 (ap (λ b. is_some (cond b (Some e) (entry_of R e.0 es))) (here o e.0)))
      ∙ at (eq_by_cmp R q e.0) (found-all q more es distinct.1 apart_rest)
    where
      apart_rest : (k : K) → is_some (entry_of R k es) ≡ true → entry_of R k more ≡ None
      apart_rest k full = apart k (both (eq_by_cmp R k e.0) full)
        where
          both : (b : Bool) → is_some (entry_of R k es) ≡ true → is_some (cond b (Some e) (entry_of R k es)) ≡ true
          both true full = refl
          both false full = full

      at : (b : Bool) → entry_of R q (put_all R more es) ≡ either (entry_of R q es) (entry_of R q more)
          → cond b (Some e) (entry_of R q (put_all R more es)) ≡ either (cond b (Some e) (entry_of R q es)) (entry_of R q more)
      at true rest = refl
      at false rest = rest

  -- what is put in keeps the order
  pub sorted-inserted : (k : K) (v : V) (es : List (K × V)) → IsStrictlySortedBy R (keys_of es) → IsStrictlySortedBy R (keys_of (insert_entry R es k v))
  unfolding IsStrictlySortedBy
  sorted-inserted k v [] sorted = (tt, tt)
  sorted-inserted k v (e ∷ es) sorted = at (R k e.0) refl (sorted-inserted k v es sorted.1)
    where
      over : (fs : List (K × V)) → R k e.0 ≡ Less → AllByRecursion (λ y. R e.0 y ≡ Less) (keys_of fs) → AllByRecursion (λ y. R k y ≡ Less) (keys_of fs)
      over [] less all = tt
      over (f ∷ fs) less all = (o.trans k e.0 f.0 less all.0, over fs less all.1)

      under : (fs : List (K × V)) → R e.0 k ≡ Less → AllByRecursion (λ y. R e.0 y ≡ Less) (keys_of fs) → AllByRecursion (λ y. R e.0 y ≡ Less) (keys_of (insert_entry R fs k v))
      under [] less all = (less, tt)
      under (f ∷ fs) less all = one (R k f.0) (under fs less all.1)
        where
          one : (r : Ordering) → AllByRecursion (λ y. R e.0 y ≡ Less) (keys_of (insert_entry R fs k v))
              → AllByRecursion (λ y. R e.0 y ≡ Less) (keys_of (match_ordering r ((k, v) ∷ f ∷ fs) ((f.0, v) ∷ fs) (f ∷ insert_entry R fs k v)))
          one Less rest = (less, all)
          one Equal rest = all
          one Greater rest = (all.0, rest)

      at : (r : Ordering) → R k e.0 ≡ r → IsStrictlySortedBy R (keys_of (insert_entry R es k v)) → IsStrictlySortedBy R (keys_of (match_ordering r ((k, v) ∷ e ∷ es) ((e.0, v) ∷ es) (e ∷ insert_entry R es k v)))
      at Less is rest = ((is, over es is sorted.0), sorted)
      at Equal is rest = sorted
      at Greater is rest = (under es (o.antisymm e.0 k ∙ ap ordering_reverse is) sorted.0, rest)

  -- so does what is taken out
  pub sorted-removed : (k : K) (es : List (K × V)) → IsStrictlySortedBy R (keys_of es) → IsStrictlySortedBy R (keys_of (remove_entry (eq_by_cmp R k) es))
  unfolding IsStrictlySortedBy
  sorted-removed k [] sorted = tt
  sorted-removed k (e ∷ es) sorted = at (eq_by_cmp R k e.0) (sorted-removed k es sorted.1)
    where
      fewer : (fs : List (K × V)) → AllByRecursion (λ y. R e.0 y ≡ Less) (keys_of fs) → AllByRecursion (λ y. R e.0 y ≡ Less) (keys_of (remove_entry (eq_by_cmp R k) fs))
      fewer [] all = tt
      fewer (f ∷ fs) all = one (eq_by_cmp R k f.0) (fewer fs all.1)
        where
          one : (b : Bool) → AllByRecursion (λ y. R e.0 y ≡ Less) (keys_of (remove_entry (eq_by_cmp R k) fs)) → AllByRecursion (λ y. R e.0 y ≡ Less) (keys_of (cond b fs (f ∷ remove_entry (eq_by_cmp R k) fs)))
          one true rest = all.1
          one false rest = (all.0, rest)

      at : (b : Bool) → IsStrictlySortedBy R (keys_of (remove_entry (eq_by_cmp R k) es)) → IsStrictlySortedBy R (keys_of (cond b es (e ∷ remove_entry (eq_by_cmp R k) es)))
      at true rest = sorted.1
      at false rest = (fewer es sorted.0, rest)

  sorted-all : (more es : List (K × V)) → IsStrictlySortedBy R (keys_of more) → IsStrictlySortedBy R (keys_of (put_all R more es))
  sorted-all more [] sorted = sorted
  sorted-all more (e ∷ es) sorted = sorted-inserted e.0 e.1 (put_all R more es) (sorted-all more es sorted)

  pub sorted-gathered : (more : List (K × V)) (buckets : List (List (K × V))) → IsStrictlySortedBy R (keys_of more) → IsStrictlySortedBy R (keys_of (gathered R more buckets))
  sorted-gathered more [] sorted = sorted
  sorted-gathered more (b ∷ buckets) sorted = sorted-all (gathered R more buckets) b (sorted-gathered more buckets sorted)

  above_all : (k : K) (e : K × V) (fs : List (K × V)) → R k e.0 ≡ Less → AllByRecursion (λ y. R e.0 y ≡ Less) (keys_of fs) → AllByRecursion (λ y. R k y ≡ Less) (keys_of fs)
  above_all k e [] less all = tt
  above_all k e (f ∷ fs) less all = (o.trans k e.0 f.0 less all.0, above_all k e fs less all.1)

  first : (e : K × V) (es : List (K × V)) (q : K) → eq_by_cmp R q e.0 ≡ true → entry_of R q (e ∷ es) ≡ Some e
  first e es q is = ap (λ b. cond b (Some e) (entry_of R q es)) is

  below_none : (k : K) (e : K × V) (es : List (K × V)) → R k e.0 ≡ Less → AllByRecursion (λ y. R e.0 y ≡ Less) (keys_of es) → entry_of R k (e ∷ es) ≡ None
  below_none k e es less all = none-above k (e ∷ es) (less, above_all k e es less all)

  rest_alike : (x y : K × V) (xs ys : List (K × V)) → R x.0 y.0 ≡ Equal → AllByRecursion (λ z. R x.0 z ≡ Less) (keys_of xs) → AllByRecursion (λ z. R y.0 z ≡ Less) (keys_of ys)
      → (q : K) → entry_of R q (x ∷ xs) ≡ entry_of R q (y ∷ ys) → entry_of R q xs ≡ entry_of R q ys
  rest_alike x y xs ys equal all all_y q found = at (eq_by_cmp R q x.0) refl
    where
      at : (b : Bool) → eq_by_cmp R q x.0 ≡ b → entry_of R q xs ≡ entry_of R q ys
      at true is =
          let other : eq_by_cmp R q y.0 ≡ true = ap is_eq (same o q x.0 y.0 is ∙ equal) in
          found-same q x.0 xs is ∙ none-above x.0 xs all ∙ sym (found-same q y.0 ys other ∙ none-above y.0 ys all_y)
      at false is =
          let other : eq_by_cmp R q y.0 ≡ false = flips o q y.0 ∙ sym (ap is_eq (same o x.0 y.0 q (ap is_eq equal))) ∙ flips o x.0 q ∙ is in
          sym (ap (λ b. cond b (Some x) (entry_of R q xs)) is) ∙ found ∙ ap (λ b. cond b (Some y) (entry_of R q ys)) other

  -- lists in order that find the same entries are one
  pub one-list : (xs ys : List (K × V)) → IsStrictlySortedBy R (keys_of xs) → IsStrictlySortedBy R (keys_of ys) → ((q : K) → entry_of R q xs ≡ entry_of R q ys) → xs ≡ ys
  unfolding IsStrictlySortedBy
  one-list [] [] sorted ordered found = refl
  one-list [] (y ∷ ys) sorted ordered found = let h = found y.0 ∙ ap (λ b. cond b (Some y) (entry_of R y.0 ys)) (here o y.0) in cc
  one-list (x ∷ xs) [] sorted ordered found = let h = sym (found x.0) ∙ ap (λ b. cond b (Some x) (entry_of R x.0 xs)) (here o x.0) in cc
  one-list (x ∷ xs) (y ∷ ys) sorted ordered found = at (R x.0 y.0) refl
      (λ equal. one-list xs ys sorted.1 ordered.1 (λ q. rest_alike x y xs ys equal sorted.0 ordered.0 q (found q)))
    where
      at : (r : Ordering) → R x.0 y.0 ≡ r → (R x.0 y.0 ≡ Equal → xs ≡ ys) → x ∷ xs ≡ y ∷ ys
      at Less is rest = let h = sym (first x xs x.0 (here o x.0)) ∙ found x.0 ∙ below_none x.0 y ys is ordered.0 in cc
      at Equal is rest =
          let h = sym (first x xs x.0 (here o x.0)) ∙ found x.0 ∙ first y ys x.0 (ap is_eq is) in
          let tail = rest is in cc
      at Greater is rest =
          let less : R y.0 x.0 ≡ Less = o.antisymm y.0 x.0 ∙ ap ordering_reverse is in
          let h = sym (first y ys y.0 (here o y.0)) ∙ sym (found y.0) ∙ below_none y.0 x xs less sorted.0 in cc

  -- the buckets: a key is found in its own, or in the list
  module _ (place : K → ℕ) (alike : (x y : K) → R x y ≡ Equal → place x ≡ place y) where
    pub elsewhere : {more : List (K × V)} (n : ℕ) (bucket : List (K × V)) → IsBucket R place more n bucket → (q : K) → (place q ≡ n → ⊥) → entry_of R q bucket ≡ None
    elsewhere n bucket is q other = at (entry_of R q bucket) refl
      where
        at : (f : Option (K × V)) → entry_of R q bucket ≡ f → f ≡ None
        at None found = refl
        at (Some e) found = absurd (other (is.placed q (ap is_some found)))

    found-later : (q : K) (more : List (K × V)) (n : ℕ) (buckets : List (List (K × V))) → place q < n → AreBucketsFrom R place more n buckets
        → entry_of R q (gathered R more buckets) ≡ entry_of R q more
    found-later q more n [] less are = refl
    found-later q more n (b ∷ buckets) less are =
        let later = found-later q more (suc n) buckets (omega arith) are.1 in
        found-all q (gathered R more buckets) b are.0.distinct (λ k full. found-later k more (suc n) buckets (let is = are.0.placed k full in omega arith) are.1 ∙ are.0.apart k full)
        ∙ ap (λ l. either l (entry_of R q (gathered R more buckets))) (elsewhere n b are.0 q (λ is. omega arith)) ∙ later

    found-from : (q : K) (more : List (K × V)) (n i : ℕ) (buckets : List (List (K × V))) → place q ≡ n + i → AreBucketsFrom R place more n buckets
        → entry_of R q (gathered R more buckets) ≡ either (entry_of R q (slice_index_or buckets i [])) (entry_of R q more)
    found-from q more n i [] is are = refl
    found-from q more n zero (b ∷ buckets) is are =
        found-all q (gathered R more buckets) b are.0.distinct (λ k full. found-later k more (suc n) buckets (let at = are.0.placed k full in omega arith) are.1 ∙ are.0.apart k full)
        ∙ ap (λ l. either (entry_of R q b) l) (found-later q more (suc n) buckets (omega arith) are.1)
    found-from q more n (suc i) (b ∷ buckets) is are =
        found-all q (gathered R more buckets) b are.0.distinct (λ k full. found-later k more (suc n) buckets (let at = are.0.placed k full in omega arith) are.1 ∙ are.0.apart k full)
        ∙ ap (λ l. either l (entry_of R q (gathered R more buckets))) (elsewhere n b are.0 q (λ at. omega arith))
        ∙ found-from q more (suc n) i buckets (omega arith) are.1

    pub found-gathered : (q : K) (more : List (K × V)) (buckets : List (List (K × V))) → AreBucketsFrom R place more 0 buckets
        → entry_of R q (gathered R more buckets) ≡ either (entry_of R q (slice_index_or buckets (place q) [])) (entry_of R q more)
    found-gathered q more buckets are = found-from q more 0 (place q) buckets (omega arith) are

-- What a change of one list makes of all of them.
use Rattle.std.proofs.Common.{Bool, true, false, cond, ◌≡◌, ℕ, List, [], ◌∷◌, ◌++◌, length, Option, Some, None, refl, sym, ap, subst, ◌∙◌, arith}
use Rattle.std.specs.Prelude.{is_some, unwrap_or, not, ◌==◌, ◌||◌, MatchOption}
use Rattle.std.specs.Option.{option_map}
use Rattle.std.specs.Cmp.{IsEquivalence}
use Rattle.std.specs.List.{IsDistinct}
use Rattle.std.specs.Map.{lookup, keys_of, set_value}
use Rattle.std.proofs.lemmas.List.{nil_from_length}
use Rattle.std.proofs.lemmas.Map.{lookup-set_value, keys-set_value}
use Rattle.std.proofs.lemmas.Map.Made.{lookup-map_values, keys_of-map_values}
use Rattle.std.proofs.lemmas.Map.Steps.{set_value_same}
use Rattle.entries.specs.declared.entry.Charged.{Charged}
use Rattle.std.proofs.lemmas.Bool.{eq-eqb, ne_eqb}
use Rattle.entries.specs.Linked.{Node, Misses, IsApart}
use Rattle.entries.specs.Store.{Row, items_at, has_place, elsewhere, moved, lists_of, vacants_of, Puts, Evicts, Extends, Removes, Shortens, Cuts}
use Rattle.entries.proofs.Runs.{Misses-right}

pub by_test : {P : Type 0} (b : Bool) → (b ≡ true → P) → (b ≡ false → P) → P
by_test true at_true at_false = at_true refl
by_test false at_true at_false = at_false refl

is_at : {A : Type 0} (b : Bool) (x y : A) → b ≡ true → cond b x y ≡ x
is_at true x y e = refl
is_at false x y e = cc

is_not_at : {A : Type 0} (b : Bool) (x y : A) → b ≡ false → cond b x y ≡ y
is_not_at true x y e = cc
is_not_at false x y e = refl

or_true : (b : Bool) → (b || true) ≡ true
or_true true = refl
or_true false = refl

same_place : (i : ℕ) → (i == i) ≡ true
same_place i = eq-eqb i i refl

module _ {D : Type 0} where
  pub none_there : (place : ℕ) (ns : List (Node D)) → Misses (Some place) ns → (has_place place ns ≡ false) × (elsewhere place ns ≡ ns)
  none_there place [] misses = (refl, refl)
  none_there place (n ∷ ns) misses =
      let rest = none_there place ns misses.1 in
      let here : (n.0 == place) ≡ false = ne_eqb n.0 place (λ e. misses.0 (ap Some (sym e))) in
      (ap (λ b. b || has_place place ns) here ∙ rest.0, ap (λ b. cond (not b) (n ∷ elsewhere place ns) (elsewhere place ns)) here ∙ ap (λ l. n ∷ l) rest.1)

  parts_there : (place : ℕ) (d : D) (xs ys : List (Node D)) → IsApart (xs ++ (place, d) ∷ ys) → (has_place place (xs ++ (place, d) ∷ ys) ≡ true) × (elsewhere place (xs ++ (place, d) ∷ ys) ≡ xs ++ ys)
  parts_there place d [] ys apart =
      let rest = none_there place ys apart.0 in
      (ap (λ b. b || has_place place ys) (same_place place), ap (λ b. cond (not b) ((place, d) ∷ elsewhere place ys) (elsewhere place ys)) (same_place place) ∙ rest.1)
  parts_there place d (x ∷ xs) ys apart =
      let rest = parts_there place d xs ys apart.1 in
      let away : Misses (Some x.0) ((place, d) ∷ ys) = Misses-right (Some x.0) xs ((place, d) ∷ ys) apart.0 in
      let here : (x.0 == place) ≡ false = ne_eqb x.0 place (λ e. away.0 (ap Some e)) in
      (ap (λ b. b || has_place place (xs ++ (place, d) ∷ ys)) here ∙ rest.0, ap (λ b. cond (not b) (x ∷ elsewhere place (xs ++ (place, d) ∷ ys)) (elsewhere place (xs ++ (place, d) ∷ ys))) here ∙ ap (λ l. x ∷ l) rest.1)

  -- what moves to the front
  pub moved-parts : (place : ℕ) (digest d : D) (xs ys : List (Node D)) → IsApart (xs ++ (place, d) ∷ ys) → moved place digest (xs ++ (place, d) ∷ ys) ≡ (place, digest) ∷ (xs ++ ys)
  moved-parts place digest d xs ys apart =
      let r = parts_there place d xs ys apart in
      ap (λ b. cond b ((place, digest) ∷ elsewhere place (xs ++ (place, d) ∷ ys)) (xs ++ (place, d) ∷ ys)) r.0 ∙ ap (λ l. (place, digest) ∷ l) r.1

-- a value that is set twice
set_value-twice : {K X : Type 0} (test : K → Bool) (es : List (K × X)) (v w : X) → set_value test (set_value test es v) w ≡ set_value test es w
set_value-twice test [] v w = refl
set_value-twice test (e ∷ es) v w = by_test (test e.0)
    (λ h. rw (h, h) refl)
    (λ h. rw (h, h) (ap (λ l. e ∷ l) (set_value-twice test es v w)))

some_map : {A B : Type 0} (f : A → B) (o : Option A) → is_some (option_map f o) ≡ is_some o
some_map f None = refl
some_map f (Some a) = refl

-- the lists where a row is set
lists_of-cond : {K D : Type 0} (b : Bool) (es fs : List (K × Row D)) → lists_of (cond b es fs) ≡ cond b (lists_of es) (lists_of fs)
lists_of-cond true es fs = refl
lists_of-cond false es fs = refl

lists_of-set : {K D : Type 0} (test : K → Bool) (es : List (K × Row D)) (next : Row D) → lists_of (set_value test es next) ≡ set_value test (lists_of es) next.nodes
lists_of-set test [] next = refl
lists_of-set test (e ∷ es) next =
    lists_of-cond (test e.0) ((e.0, next) ∷ es) (e ∷ set_value test es next)
    ∙ ap (λ l. cond (test e.0) ((e.0, next.nodes) ∷ lists_of es) ((e.0, e.1.nodes) ∷ l)) (lists_of-set test es next)

module _ {K D : Type 0} (same : K → K → Bool) where
  -- what is found of a list
  pub found_list : (es : List (K × Row D)) (q : K) → lookup (same q) (lists_of es) ≡ option_map (λ (r : Row D). r.nodes) (lookup (same q) es)
  found_list es q = lookup-map_values (λ (r : Row D). r.nodes) (same q) es

  pub found_vacant : (es : List (K × Row D)) (q : K) → lookup (same q) (vacants_of es) ≡ option_map (λ (r : Row D). r.vacant) (lookup (same q) es)
  found_vacant es q = lookup-map_values (λ (r : Row D). r.vacant) (same q) es

  -- a list is there where its row is
  pub some_listed : (es : List (K × Row D)) (q : K) → is_some (lookup (same q) (lists_of es)) ≡ is_some (lookup (same q) es)
  some_listed es q = ap is_some (found_list es q) ∙ some_map (λ (r : Row D). r.nodes) (lookup (same q) es)

  pub none_listed : (es : List (K × Row D)) (q : K) → lookup (same q) es ≡ None → lookup (same q) (lists_of es) ≡ None
  none_listed es q none = found_list es q ∙ ap (option_map (λ (r : Row D). r.nodes)) none

  pub items_at-row : (es : List (K × Row D)) (q : K) (r : Row D) → lookup (same q) es ≡ Some r → items_at same q (lists_of es) ≡ r.nodes
  items_at-row es q r found = ap (λ (o : Option (List (Node (Charged D)))). unwrap_or o []) (found_list es q ∙ ap (option_map (λ (r : Row D). r.nodes)) found)

  pub items_at-none : (es : List (K × Row D)) (q : K) → lookup (same q) es ≡ None → items_at same q (lists_of es) ≡ []
  items_at-none es q found = ap (λ (o : Option (List (Node (Charged D)))). unwrap_or o []) (none_listed es q found)

  pub vacant_at-row : (es : List (K × Row D)) (q : K) (r : Row D) → lookup (same q) es ≡ Some r → unwrap_or (lookup (same q) (vacants_of es)) 0 ≡ r.vacant
  vacant_at-row es q r found = ap (λ (o : Option ℕ). unwrap_or o 0) (found_vacant es q ∙ ap (option_map (λ (r : Row D). r.vacant)) found)

  pub vacant_at-none : (es : List (K × Row D)) (q : K) → lookup (same q) es ≡ None → unwrap_or (lookup (same q) (vacants_of es)) 0 ≡ 0
  vacant_at-none es q found = ap (λ (o : Option ℕ). unwrap_or o 0) (found_vacant es q ∙ ap (option_map (λ (r : Row D). r.vacant)) found)

  -- no list is there twice where no row is
  listed_distinct : (es : List (K × Row D)) → IsDistinct same (keys_of es) → IsDistinct same (keys_of (lists_of es))
  listed_distinct es distinct = subst (IsDistinct same) (sym (keys_of-map_values (λ (r : Row D). r.nodes) es)) distinct

  -- a list has another row
  module _ (es fs : List (K × Row D)) (p : K) (next : Row D) (at : (q : K) → lookup (same q) fs ≡ cond (same p q) (Some next) (lookup (same q) es)) (distinct : IsDistinct same (keys_of fs)) where
    pub puts : Puts same p next.nodes (lists_of es) (lists_of fs)
    puts = record {
      lists = λ q. by_test (same p q)
          (λ here.
          items_at-row fs q next (at q ∙ is_at (same p q) (Some next) (lookup (same q) es) here)
          ∙ sym (is_at (same p q) next.nodes (items_at same q (lists_of es)) here))
          (λ apart.
          ap (λ (o : Option (List (Node (Charged D)))). unwrap_or o [])
          (found_list fs q ∙ ap (option_map (λ (r : Row D). r.nodes)) (at q ∙ is_not_at (same p q) (Some next) (lookup (same q) es) apart) ∙ sym (found_list es q))
          ∙ sym (is_not_at (same p q) next.nodes (items_at same q (lists_of es)) apart));
      keys = λ q there. sym (exactly q) ∙ there;
      stays = λ q there. exactly q ∙ ap (λ b. same p q || b) there ∙ or_true (same p q);
      distinct = listed_distinct fs distinct;
    }
      where
        put : (b : Bool) (o : Option (Row D)) → is_some (cond b (Some next) o) ≡ (b || is_some o)
        put true o = refl
        put false o = refl

        exactly : (q : K) → is_some (lookup (same q) (lists_of fs)) ≡ (same p q || is_some (lookup (same q) (lists_of es)))
        exactly q = some_listed fs q ∙ ap is_some (at q) ∙ put (same p q) (lookup (same q) es) ∙ ap (λ b. same p q || b) (sym (some_listed es q))

  -- a list is gone
  pub removes : (es fs : List (K × Row D)) (p : K) → ((q : K) → lookup (same q) fs ≡ cond (same p q) None (lookup (same q) es)) → IsDistinct same (keys_of fs) → Removes same p (lists_of es) (lists_of fs)
  removes es fs p at distinct = record {
    lists = λ q. by_test (same p q)
        (λ here. items_at-none fs q (at q ∙ is_at (same p q) None (lookup (same q) es) here) ∙ sym (is_at (same p q) [] (items_at same q (lists_of es)) here))
        (λ apart.
        ap (λ (o : Option (List (Node (Charged D)))). unwrap_or o []) (stays q apart)
        ∙ sym (is_not_at (same p q) [] (items_at same q (lists_of es)) apart));
    keys = λ q there. by_test (same p q)
        (λ here. let no : false ≡ true = sym (ap is_some (none_listed fs q (at q ∙ is_at (same p q) None (lookup (same q) es) here))) ∙ there in absurd (cc))
        (λ apart. (apart, sym (ap is_some (stays q apart)) ∙ there));
    stays = λ q apart there. ap is_some (stays q apart) ∙ there;
    distinct = listed_distinct fs distinct;
  }
    where
      stays : (q : K) → same p q ≡ false → lookup (same q) (lists_of fs) ≡ lookup (same q) (lists_of es)
      stays q apart = found_list fs q ∙ ap (option_map (λ (r : Row D). r.nodes)) (at q ∙ is_not_at (same p q) None (lookup (same q) es) apart) ∙ sym (found_list es q)

-- tests that agree find the same
pub found_same : {K : Type 0} {same : K → K → Bool} (laws : IsEquivalence same) {X : Type 0} (es : List (K × X)) (p q : K) → same p q ≡ true → lookup (same p) es ≡ lookup (same q) es
found_same {K = K} {same = same} laws es p q here = let one : same p ≡ same q = λ i x. laws.congr p q x here i in ap (λ (t : K → Bool). lookup t es) one

module _ {K D : Type 0} {same : K → K → Bool} (laws : IsEquivalence same) where
  written : (es fs : List (K × Row D)) (p : K) (old next : Row D) → lookup (same p) es ≡ Some old → fs ≡ set_value (same p) es next → (q : K) → lookup (same q) fs ≡ cond (same p q) (Some next) (lookup (same q) es)
  written es fs p old next was is q = rw is (lookup-set_value laws (same p) (λ x y here. laws.congr p x y here) q next es (rw was refl))

  written_distinct : (es fs : List (K × Row D)) (p : K) (next : Row D) → fs ≡ set_value (same p) es next → IsDistinct same (keys_of es) → IsDistinct same (keys_of fs)
  written_distinct es fs p next is distinct = subst (IsDistinct same) (sym (ap keys_of is ∙ keys-set_value (same p) es next)) distinct

  -- the row of a list is another
  module _ (es fs : List (K × Row D)) (p : K) (old next : Row D) (was : lookup (same p) es ≡ Some old) (is : fs ≡ set_value (same p) es next) (distinct : IsDistinct same (keys_of es)) where
    pub now_at : lookup (same p) fs ≡ Some next
    now_at = written es fs p old next was is p ∙ is_at (same p p) (Some next) (lookup (same p) es) (laws.refl p)

    pub writes : Puts same p next.nodes (lists_of es) (lists_of fs)
    writes = puts same es fs p next (written es fs p old next was is) (written_distinct es fs p next is distinct)

    pub items_now : items_at same p (lists_of fs) ≡ next.nodes
    items_now = items_at-row same fs p next now_at

    -- a row that is the same leaves all lists
    pub stays : next ≡ old → fs ≡ es
    stays kept = is ∙ ap (set_value (same p) es) kept ∙ set_value_same (same p) es old was

    same_lists : next.nodes ≡ old.nodes → lists_of fs ≡ lists_of es
    same_lists kept =
        let there : lookup (same p) (lists_of es) ≡ Some old.nodes = found_list same es p ∙ ap (option_map (λ (r : Row D). r.nodes)) was in
        ap lists_of is ∙ lists_of-set (same p) es next ∙ ap (set_value (same p) (lists_of es)) kept ∙ set_value_same (same p) (lists_of es) old.nodes there

    -- the oldest digest of the list leaves
    evicts : (stale : Charged D) → Shortens stale old.nodes next.nodes → Evicts same p stale (lists_of es) (lists_of fs)
    evicts stale cut = record { place = cut.place; rest = next.nodes; last = items_at-row same es p old was ∙ cut.last; put = writes }

    pub evicts-any : (r : Option (Charged D)) → Cuts 0 r old.nodes next.nodes
        → MatchOption r ((items_at same p (lists_of es) ≡ []) × (lists_of fs ≡ lists_of es)) (λ stale. Evicts same p stale (lists_of es) (lists_of fs))
    evicts-any None cut = (items_at-row same es p old was ∙ nil_from_length old.nodes (omega (arith, cut.0)), same_lists cut.1)
    evicts-any (Some stale) cut = evicts stale cut.1

  -- a digest goes in front of the list, and the oldest leaves if there are too many
  module _ (es fs : List (K × Row D)) (p : K) (old next : Row D) (was : lookup (same p) es ≡ Some old) (is : fs ≡ set_value (same p) es next) (distinct : IsDistinct same (keys_of es)) (n : Node (Charged D)) (size : ℕ) where
    more : Row D
    more = record { nodes = n ∷ old.nodes; vacant = 0 }

    mid : List (K × Row D)
    mid = set_value (same p) es more

    mid_nodes : items_at same p (lists_of mid) ≡ n ∷ old.nodes
    unfolding mid more
    mid_nodes = items_now es mid p old more was refl distinct

    mid_put : Puts same p (n ∷ items_at same p (lists_of es)) (lists_of es) (lists_of mid)
    unfolding mid more
    mid_put = rw (items_at-row same es p old was) (writes es mid p old more was refl distinct)

    pub extends : (stale : Option (Charged D)) → Cuts size stale (n ∷ old.nodes) next.nodes → Extends same p n size stale (lists_of es) (lists_of fs)
    unfolding mid more
    extends None cut = record {
      between = lists_of mid;
      put = mid_put;
      cut = (
        omega (arith, ap length mid_nodes, cut.0),
        ap lists_of is ∙ lists_of-set (same p) es next ∙ ap (set_value (same p) (lists_of es)) cut.1 ∙ sym (lists_of-set (same p) es more),
      );
    }
    extends (Some stale) cut = record {
      between = lists_of mid;
      put = mid_put;
      cut = (
        omega (arith, ap length mid_nodes, cut.0),
        evicts mid fs p more next (now_at es mid p old more was refl distinct) (is ∙ sym (set_value-twice (same p) es more next))
            (written_distinct es mid p more refl distinct) stale cut.1,
      );
    }

  -- a list that is put as it is leaves all lists
  pub same_puts : (es : List (K × Row D)) (p : K) (ns : List (Node (Charged D))) → IsDistinct same (keys_of es) → items_at same p (lists_of es) ≡ ns → Puts same p ns (lists_of es) (lists_of es)
  same_puts es p ns distinct is = record {
    lists = λ q. by_test (same p q)
        (λ here. sym (is_at (same p q) ns (items_at same q (lists_of es)) here ∙ sym is ∙ found_items q here))
        (λ apart. sym (is_not_at (same p q) ns (items_at same q (lists_of es)) apart));
    keys = λ q there. ap (λ b. same p q || b) there ∙ or_true (same p q);
    stays = λ q there. there;
    distinct = listed_distinct same es distinct;
  }
    where
      found_items : (q : K) → same p q ≡ true → items_at same p (lists_of es) ≡ items_at same q (lists_of es)
      found_items q here = ap (λ (o : Option (List (Node (Charged D)))). unwrap_or o []) (found_same laws (lists_of es) p q here)

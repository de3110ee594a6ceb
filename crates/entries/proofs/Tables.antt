-- What changes at one digest make of a table.
use Rattle.std.proofs.Common.{Bool, true, false, cond, ◌&&◌, ◌≡◌, ℕ, List, [], ◌∷◌, Option, Some, None, refl, sym, ap, ◌∙◌, subst, inl, inr}
use Rattle.std.specs.Prelude.{is_some, IsSome}
use Rattle.std.specs.Cmp.{IsEquivalence, IsTotalOrder, eq_by_cmp_equiv}
use Rattle.std.specs.List.Sorted.{IsStrictlySortedBy}
use Rattle.std.specs.Ordering.{match_ordering, eq_by_cmp, is_eq}
use Rattle.std.specs.BTreeMap.{insert_entry, is_at}
use Rattle.std.proofs.lemmas.Map.{lookup-none}
use Rattle.std.proofs.lemmas.Map.Keys.{sorted_tail}
use Rattle.std.proofs.lemmas.Map.Entries.{none_below_head}
use Rattle.std.specs.Option.{option_map}
use Rattle.std.proofs.lemmas.Map.Made.{lookup-map_values, keys_of-map_values}
use Rattle.std.specs.Map.{lookup, keys_of, remove_entry}
use Rattle.std.specs.declared.cmp.Ordering.{Ordering}
use Rattle.std.specs.declared.cmp.Ordering.TheVariants.{Less, Equal, Greater}
use Rattle.entries.specs.Placed.{Placed}
use Rattle.entries.specs.Table.{messages_of, place_in, place_at, IsPlaced, SetsPlace, Joins, Leaves}
use Rattle.entries.proofs.Stores.{found_same}

pub by_test : {P : Type 0} (b : Bool) → (b ≡ true → P) → (b ≡ false → P) → P
by_test true at_true at_false = at_true refl
by_test false at_true at_false = at_false refl

at_both : {X : Type 0} (a b : Bool) (w o : Option X) → a ≡ true → cond (a && b) w o ≡ cond b w o
at_both true b w o e = refl
at_both false b w o e = cc

at_other : {X : Type 0} (a b : Bool) (w o : Option X) → a ≡ false → cond (a && b) w o ≡ o
at_other true b w o e = cc
at_other false b w o e = refl

module _ {K D T : Type 0} where
  pub lookup-messages : (test : D → Bool) (items : List (D × Placed K T)) → lookup test (messages_of items) ≡ option_map (λ i. i.message) (lookup test items)
  lookup-messages test items = lookup-map_values (λ i. i.message) test items

  -- what is taken out, is taken out of the messages
  pub messages_removed : (test : D → Bool) (items : List (D × Placed K T)) → messages_of (remove_entry test items) ≡ remove_entry test (messages_of items)
  messages_removed test [] = refl
  messages_removed test (e ∷ es) = at (test e.0) (messages_removed test es)
    where
      at : (b : Bool) → messages_of (remove_entry test es) ≡ remove_entry test (messages_of es)
          → messages_of (cond b es (e ∷ remove_entry test es)) ≡ cond b (messages_of es) ((e.0, e.1.message) ∷ remove_entry test (messages_of es))
      at true rest = refl
      at false rest = ap (λ k. (e.0, e.1.message) ∷ k) rest

  -- what is put in, is put into the messages
  pub messages_inserted : (R : D → D → Ordering) (items : List (D × Placed K T)) (d : D) (item : Placed K T) → messages_of (insert_entry R items d item) ≡ insert_entry R (messages_of items) d item.message
  messages_inserted R [] d item = refl
  messages_inserted R (e ∷ es) d item = at (R d e.0) (messages_of (insert_entry R es d item)) (insert_entry R (messages_of es) d item.message) (insert_entry R es d item) refl (messages_inserted R es d item)
    where
      at : (r : Ordering) (m n : List (D × T)) (us : List (D × Placed K T)) → messages_of us ≡ m → m ≡ n
          → messages_of (match_ordering r ((d, item) ∷ e ∷ es) ((e.0, item) ∷ es) (e ∷ us)) ≡ match_ordering r ((d, item.message) ∷ (e.0, e.1.message) ∷ messages_of es) ((e.0, item.message) ∷ messages_of es) ((e.0, e.1.message) ∷ n)
      at Less m n us p q = refl
      at Equal m n us p q = refl
      at Greater m n us p q = ap (λ k. (e.0, e.1.message) ∷ k) (p ∙ q)

module _ {K D T : Type 0} (digest : D → D → Bool) (es gs : List (D × Placed K T)) (d : D) (left : (e : D) → lookup (digest e) gs ≡ cond (digest d e) None (lookup (digest e) es)) where
  -- the messages after one left
  pub fewer_left : (e : D) (x : T) → lookup (digest e) (messages_of gs) ≡ Some x → lookup (digest e) (messages_of es) ≡ Some x
  fewer_left e x found = by_test (digest d e)
      (λ here.
      let none : lookup (digest e) gs ≡ None = left e ∙ ap (λ b. cond b None (lookup (digest e) es)) here in
      let no : None ≡ Some x = sym (ap (option_map (λ i. i.message)) none) ∙ sym (lookup-messages (digest e) gs) ∙ found in absurd (cc))
      (λ apart.
      let new : lookup (digest e) gs ≡ lookup (digest e) es = left e ∙ ap (λ b. cond b None (lookup (digest e) es)) apart in
      lookup-messages (digest e) es ∙ sym (ap (option_map (λ i. i.message)) new) ∙ sym (lookup-messages (digest e) gs) ∙ found)

module _ {K D T : Type 0} {digest : D → D → Bool} (key : K → K → Bool) (equal : IsEquivalence digest) (es : List (D × Placed K T)) (d : D) (p : K) where
  -- a change at one digest, whose places change at one key
  places_set : (fs : List (D × Placed K T)) {was : Option (Placed K T)} (now : Option (Placed K T)) (place : Option ℕ) → lookup (digest d) es ≡ was → ((e : D) → lookup (digest e) fs ≡ cond (digest d e) now (lookup (digest e) es))
      → ((q : K) → place_in digest key q now ≡ cond (key p q) place (place_in digest key q was)) → SetsPlace digest key d p place es fs
  places_set fs {was = was} now place there written changed e q = by_test (digest d e)
      (λ here.
      let new : lookup (digest e) fs ≡ now = written e ∙ ap (λ b. cond b now (lookup (digest e) es)) here in
      let old : lookup (digest e) es ≡ was = sym (found_same equal es d e here) ∙ there in
      ap (place_in digest key q) new ∙ changed q ∙ ap (λ o. cond (key p q) place (place_in digest key q o)) (sym old) ∙ sym (at_both (digest d e) (key p q) place (place_at digest key es e q) here))
      (λ apart.
      let new : lookup (digest e) fs ≡ lookup (digest e) es = written e ∙ ap (λ b. cond b now (lookup (digest e) es)) apart in
      ap (place_in digest key q) new ∙ sym (at_other (digest d e) (key p q) place (place_at digest key es e q) apart))

pub by_order : {G : Type 0} (r s : Ordering) → s ≡ r → (s ≡ Less → G) → (s ≡ Equal → G) → (s ≡ Greater → G) → G
by_order Less s e l m n = l e
by_order Equal s e l m n = m e
by_order Greater s e l m n = n e

-- what stands at a key may be put in there
pub insert_entry-same : {D X : Type 0} {R : D → D → Ordering} (o : IsTotalOrder R) (d : D) (x : X) (es : List (D × X)) → IsStrictlySortedBy R (keys_of es) → lookup (is_at (R d)) es ≡ Some x → insert_entry R es d x ≡ es
insert_entry-same o d x [] sorted there = cc
insert_entry-same {R = R} o d x (e ∷ es) sorted there = by_order (R d e.0) (R d e.0) refl
    (λ less. let none : None ≡ Some x = sym (lookup-none (is_at (R d)) (e ∷ es) (none_below_head o d e es sorted less)) ∙ there in absurd (cc))
    (λ equal. let one : e.1 ≡ x = (let h : Some e.1 ≡ Some x = sym (ap (λ r. cond (is_eq r) (Some e.1) (lookup (is_at (R d)) es)) equal) ∙ there in cc) in
    rw equal (ap (λ v. (e.0, v) ∷ es) (sym one)))
    (λ more. let rest : lookup (is_at (R d)) es ≡ Some x = sym (ap (λ r. cond (is_eq r) (Some e.1) (lookup (is_at (R d)) es)) more) ∙ there in
    rw more (ap (λ fs. e ∷ fs) (insert_entry-same o d x es (sorted_tail R e.0 (keys_of es) sorted) rest)))

-- what a name finds after it, or another, was put in
pub lookup-inserted : {D X : Type 0} {R : D → D → Ordering} (o : IsTotalOrder R) (d : D) (x : X) (q : D) (es : List (D × X)) → lookup (eq_by_cmp R q) (insert_entry R es d x) ≡ cond (eq_by_cmp R d q) (Some x) (lookup (eq_by_cmp R q) es)
lookup-inserted {R = R} o d x q [] = ap (λ b. cond b (Some x) None) ((eq_by_cmp_equiv o).symm q d)
lookup-inserted {D = D} {X = X} {R = R} o d x q (e ∷ es) = by_order (R d e.0) (R d e.0) refl
    (λ less. rw less (ap (λ b. cond b (Some x) (lookup same (e ∷ es))) (laws.symm q d)))
    (λ equal. rw equal (ap (λ b. cond b (Some x) (lookup same es)) (alike equal) ∙ again (eq_by_cmp R d q) ∙ ap (λ b. cond (eq_by_cmp R d q) (Some x) (cond b (Some e.1) (lookup same es))) (sym (alike equal))))
    (λ more. rw more (ap (λ l. cond (same e.0) (Some e.1) l) (lookup-inserted o d x q es)
    ∙ swapped (same e.0) (eq_by_cmp R d q) (λ at_e at_d. let no : true ≡ false = sym (laws.congr d q e.0 at_d ∙ at_e) ∙ ap is_eq more in absurd (cc))))
  where
    same : D → Bool
    same = eq_by_cmp R q

    laws : IsEquivalence (eq_by_cmp R)
    laws = eq_by_cmp_equiv o

    alike : R d e.0 ≡ Equal → same e.0 ≡ eq_by_cmp R d q
    alike equal = laws.symm q e.0 ∙ sym (laws.congr d e.0 q (ap is_eq equal))

    again : (b : Bool) → cond b (Some x) (lookup same es) ≡ cond b (Some x) (cond b (Some e.1) (lookup same es))
    again true = refl
    again false = refl

    swapped : (b c : Bool) → (b ≡ true → c ≡ true → ⊥) → cond b (Some e.1) (cond c (Some x) (lookup same es)) ≡ cond c (Some x) (cond b (Some e.1) (lookup same es))
    swapped true true apart = absurd (apart refl refl)
    swapped true false apart = refl
    swapped false c apart = refl

-- a name that was put in, and leaves again
pub remove-inserted : {D X : Type 0} {R : D → D → Ordering} (o : IsTotalOrder R) (d : D) (x : X) (es : List (D × X)) → lookup (eq_by_cmp R d) es ≡ None → remove_entry (eq_by_cmp R d) (insert_entry R es d x) ≡ es
remove-inserted {R = R} o d x [] none = ap (λ b. cond b [] ((d, x) ∷ [])) ((eq_by_cmp_equiv o).refl d)
remove-inserted {R = R} o d x (e ∷ es) none = by_order (R d e.0) (R d e.0) refl
    (λ less. rw less (ap (λ b. cond b (e ∷ es) ((d, x) ∷ remove_entry (eq_by_cmp R d) (e ∷ es))) ((eq_by_cmp_equiv o).refl d)))
    (λ equal. let some : Some e.1 ≡ None = sym (ap (λ r. cond (is_eq r) (Some e.1) (lookup (eq_by_cmp R d) es)) equal) ∙ none in absurd (cc))
    (λ more. let rest : lookup (eq_by_cmp R d) es ≡ None = sym (ap (λ r. cond (is_eq r) (Some e.1) (lookup (eq_by_cmp R d) es)) more) ∙ none in
    rw (more, more) (ap (λ l. e ∷ l) (remove-inserted o d x es rest)))

pub put_message : {K T : Type 0} (b : Bool) (item : Placed K T) (m : T) (o : Option (Placed K T)) → item.message ≡ m → option_map (λ i. i.message) (cond b (Some item) o) ≡ cond b (Some m) (option_map (λ i. i.message) o)
put_message true item m o same = ap Some same
put_message false item m o same = refl

pub one_place : {K : Type 0} (p : K) (i : ℕ) (places : List (K × ℕ)) → places ≡ (p, i) ∷ [] → places ≡ [] → ⊥
one_place p i [] is none = cc
one_place p i (e ∷ es) is none = cc

some_left : {K : Type 0} (test : K → Bool) (i : ℕ) (places : List (K × ℕ)) → lookup test places ≡ Some i → places ≡ [] → ⊥
some_left test i [] found none = cc
some_left test i (e ∷ es) found none = cc

-- places that are not empty have a key
first_place : {K : Type 0} {key : K → K → Bool} (laws : IsEquivalence key) (places : List (K × ℕ)) → (places ≡ [] → ⊥) → (p : K) × (i : ℕ) × (lookup (key p) places ≡ Some i)
first_place laws [] some = absurd (some refl)
first_place {key = key} laws (e ∷ es) some = (e.0, e.1, ap (λ b. cond b (Some e.1) (lookup (key e.0) es)) (laws.refl e.0))

module _ {K D T : Type 0} {digest : D → D → Bool} {key : K → K → Bool} (laws : IsEquivalence key) where
  -- each message has a place after a write at one digest that leaves it a place
  pub placed_written : IsEquivalence digest → (es fs : List (D × Placed K T)) (d : D) (now : Placed K T) → IsPlaced digest key es → ((e : D) → lookup (digest e) fs ≡ cond (digest d e) (Some now) (lookup (digest e) es))
      → (now.places ≡ [] → ⊥) → IsPlaced digest key fs
  placed_written _ es fs d now placed written some e there = by_test (digest d e)
      (λ here.
      let new : lookup (digest e) fs ≡ Some now = written e ∙ ap (λ b. cond b (Some now) (lookup (digest e) es)) here in
      let f = first_place laws now.places some in (f.0, f.1, ap (place_in digest key f.0) new ∙ f.2))
      (λ apart.
      let new : lookup (digest e) fs ≡ lookup (digest e) es = written e ∙ ap (λ b. cond b (Some now) (lookup (digest e) es)) apart in
      let was = placed e (ap is_some (sym new) ∙ there) in (was.0, was.1, ap (place_in digest key was.0) new ∙ was.2))

-- each message has a place after one left
pub placed_left : {K D T : Type 0} (digest : D → D → Bool) (key : K → K → Bool) (es gs : List (D × Placed K T)) (d : D) → IsPlaced digest key es → ((e : D) → lookup (digest e) gs ≡ cond (digest d e) None (lookup (digest e) es)) → IsPlaced digest key gs
placed_left digest key es gs d placed left e there = by_test (digest d e)
    (λ here. let no : false ≡ true = sym (ap is_some (left e ∙ ap (λ b. cond b None (lookup (digest e) es)) here)) ∙ there in absurd (cc))
    (λ apart.
    let new : lookup (digest e) gs ≡ lookup (digest e) es = left e ∙ ap (λ b. cond b None (lookup (digest e) es)) apart in
    let was = placed e (ap is_some (sym new) ∙ there) in (was.0, was.1, ap (place_in digest key was.0) new ∙ was.2))

module _ {K D T : Type 0} (R : D → D → Ordering) where
  -- the item is put in at the digest
  pub record PutsItem (es fs : List (D × Placed K T)) (d : D) (now : Placed K T) : Type 0 where
    pub entries : fs ≡ insert_entry R es d now
    pub finds : (e : D) → lookup (eq_by_cmp R e) fs ≡ cond (eq_by_cmp R d e) (Some now) (lookup (eq_by_cmp R e) es)

  -- it takes the place of one with the same message
  pub record Rewrites (es fs : List (D × Placed K T)) (d : D) (was now : Placed K T) : Type 0 where
    pub sorted : IsStrictlySortedBy R (keys_of es)
    pub there : lookup (eq_by_cmp R d) es ≡ Some was
    pub put : PutsItem es fs d now
    pub message : now.message ≡ was.message

module _ {K D T : Type 0} {R : D → D → Ordering} {key : K → K → Bool} (o : IsTotalOrder R) (laws : IsEquivalence key) where
  same_messages : {es fs : List (D × Placed K T)} {d : D} {was now : Placed K T} → Rewrites R es fs d was now → messages_of fs ≡ messages_of es
  same_messages {es = es} {d = d} {now = now} w = ap messages_of w.put.entries ∙ messages_inserted R es d now
      ∙ insert_entry-same o d now.message (messages_of es) (subst (IsStrictlySortedBy R) (sym (keys_of-map_values (λ it. it.message) es)) w.sorted)
      (lookup-messages (eq_by_cmp R d) es ∙ ap (option_map (λ it. it.message)) w.there ∙ ap Some (sym w.message))

  -- a message that is cached gets a place, if it has none of the key
  pub joined : (is_clone : T → T → Type 0) {es fs : List (D × Placed K T)} {d : D} (x : T) (p : K) (i : ℕ) {was now : Placed K T} (f : Option ℕ)
      → IsPlaced (eq_by_cmp R) key es → Rewrites R es fs d was now
      → (IsSome f → now ≡ was) → (f ≡ None → (q : K) → lookup (key q) now.places ≡ cond (key p q) (Some i) (lookup (key q) was.places))
      → IsPlaced (eq_by_cmp R) key fs × (f ≡ None → Joins (eq_by_cmp R) key R is_clone d x p i es fs)
  joined is_clone {es = es} {fs = fs} {d = d} x p i {was = was} (Some j) placed w stays places =
      let all : fs ≡ es = w.put.entries ∙ ap (insert_entry R es d) (stays refl) ∙ insert_entry-same o d was es w.sorted w.there in (
        rw all placed,
        λ none. absurd (cc),
      )
  joined is_clone {es = es} {fs = fs} {d = d} x p i {was = was} {now = now} None placed w stays places = (
    placed_written laws (eq_by_cmp_equiv o) es fs d now placed w.put.finds (some_left (key p) i now.places (places refl p ∙ ap (λ b. cond b (Some i) (lookup (key p) was.places)) (laws.refl p))),
    λ _. record {
      places = places_set key (eq_by_cmp_equiv o) es d p fs (Some now) (Some i) w.there w.put.finds (places refl);
      stays = λ _. same_messages w;
      cached = λ none. absurd (let no : None ≡ Some was = sym none ∙ w.there in cc);
    },
  )

  -- a message that is not cached is put in with a place
  pub cached : (is_clone : T → T → Type 0) {es fs : List (D × Placed K T)} {d : D} (x : T) (p : K) (i : ℕ) {now : Placed K T}
      → IsPlaced (eq_by_cmp R) key es → lookup (eq_by_cmp R d) es ≡ None → PutsItem R es fs d now → is_clone x now.message → now.places ≡ (p, i) ∷ []
      → IsPlaced (eq_by_cmp R) key fs × Joins (eq_by_cmp R) key R is_clone d x p i es fs
  cached is_clone {es = es} {fs = fs} {d = d} x p i {now = now} placed none put cloned places =
      let one : (q : K) → lookup (key q) now.places ≡ cond (key p q) (Some i) None = λ q.
      ap (lookup (key q)) places ∙ ap (λ b. cond b (Some i) None) (laws.symm q p) in (
        placed_written laws (eq_by_cmp_equiv o) es fs d now placed put.finds (one_place p i now.places places),
        record {
          places = places_set key (eq_by_cmp_equiv o) es d p fs (Some now) (Some i) none put.finds one;
          stays = λ there. absurd (let no : false ≡ true = sym (ap is_some none) ∙ there in cc);
          cached = λ _. record {
            copy = now.message;
            cloned = cloned;
            entries = ap messages_of put.entries ∙ messages_inserted R es d now;
            finds = λ e. lookup-messages (eq_by_cmp R e) fs ∙ ap (option_map (λ it. it.message)) (put.finds e)
                ∙ put_message (eq_by_cmp R d e) now now.message (lookup (eq_by_cmp R e) es) refl
                ∙ ap (λ b. cond (eq_by_cmp R d e) (Some now.message) b) (sym (lookup-messages (eq_by_cmp R e) es));
          };
        },
      )

  -- a message loses a place that is not its last
  pub left : {es fs : List (D × Placed K T)} {d : D} (p : K) {was now : Placed K T} → IsPlaced (eq_by_cmp R) key es → Rewrites R es fs d was now
      → ((q : K) → lookup (key q) now.places ≡ cond (key p q) None (lookup (key q) was.places)) → (now.places ≡ [] → ⊥)
      → Leaves (eq_by_cmp R) key d p es fs × IsPlaced (eq_by_cmp R) key fs
  left {es = es} {fs = fs} {d = d} p {now = now} placed w removed some = (
    record {
      places = places_set key (eq_by_cmp_equiv o) es d p fs (Some now) None w.there w.put.finds removed;
      messages = inl (same_messages w);
      fewer = λ e x found. ap (lookup (eq_by_cmp R e)) (sym (same_messages w)) ∙ found;
    },
    placed_written laws (eq_by_cmp_equiv o) es fs d now placed w.put.finds some,
  )

  -- a message leaves with its last place
  pub left_last : (es : List (D × Placed K T)) {fs : List (D × Placed K T)} (d : D) (p : K) {was : Placed K T} (now : Placed K T) → IsPlaced (eq_by_cmp R) key es → lookup (eq_by_cmp R d) es ≡ Some was
      → ((q : K) → lookup (key q) now.places ≡ cond (key p q) None (lookup (key q) was.places)) → now.places ≡ []
      → fs ≡ remove_entry (eq_by_cmp R d) es → ((e : D) → lookup (eq_by_cmp R e) fs ≡ cond (eq_by_cmp R d e) None (lookup (eq_by_cmp R e) es))
      → Leaves (eq_by_cmp R) key d p es fs × IsPlaced (eq_by_cmp R) key fs
  left_last es {fs = fs} d p now placed there removed empty is gone = (
    record {
      places = places_set key (eq_by_cmp_equiv o) es d p fs None None there gone (λ q. sym (ap (λ (l : List (K × ℕ)). lookup (key q) l) empty) ∙ removed q);
      messages = inr (ap messages_of is ∙ messages_removed (eq_by_cmp R d) es, gone d ∙ ap (λ b. cond b None (lookup (eq_by_cmp R d) es)) ((eq_by_cmp_equiv o).refl d));
      fewer = fewer_left (eq_by_cmp R) es fs d gone;
    },
    placed_left (eq_by_cmp R) key es fs d placed gone,
  )

-- How the items of a table change with one slot and its index.
use Rattle.std.proofs.Common.{Bool, true, false, cond, ◌≡◌, ℕ, zero, suc, List, [], ◌∷◌, length, Option, Some, None, refl, sym, ap, ◌∙◌, subst}
use Rattle.std.specs.Prelude.{is_some, slice_index_or, slice_set}
use Rattle.std.specs.Cmp.{IsEquivalence, IsTotalOrder, eq_by_cmp_equiv}
use Rattle.std.specs.List.{AllByRecursion, IsDistinct}
use Rattle.std.specs.List.Sorted.{IsStrictlySortedBy}
use Rattle.std.specs.Ordering.{eq_by_cmp, is_eq}
use Rattle.std.specs.Option.{option_map}
use Rattle.std.specs.Map.{lookup, keys_of, remove_entry}
use Rattle.std.specs.BTreeMap.{insert_entry, is_at}
use Rattle.std.specs.declared.cmp.Ordering.{Ordering}
use Rattle.std.proofs.lemmas.Map.{lookup-none, NonePasses}
use Rattle.std.proofs.lemmas.Map.Keys.{sorted_tail, IsDistinct-from_sorted, IsDistinct-tail}
use Rattle.std.proofs.lemmas.Map.Entries.{length-keys_of, none_below_head, none_past_head}
use Rattle.entries.specs.Placed.{Placed}
use Rattle.entries.specs.Table.{Tabled, item_at, name_at, items_by, items_of, IsTabled}
use Rattle.entries.proofs.Stores.{found_same}
use Rattle.entries.proofs.Tables.{by_test, by_order}

pub by_option : {X P : Type 0} (o : Option X) → (o ≡ None → P) → ((x : X) → o ≡ Some x → P) → P
by_option None none some = none refl
by_option (Some x) none some = some x refl

pub no_some : {X P : Type 0} {o : Option X} {x : X} → o ≡ None → o ≡ Some x → P
no_some {x = x} none some = let no : None ≡ Some x = sym none ∙ some in absurd (cc)

pub no_both : {P : Type 0} {b : Bool} → b ≡ true → b ≡ false → P
no_both is not = let bad : true ≡ false = sym is ∙ not in absurd (cc)

by_item : {X P : Type 0} (h : ℕ → Option X) (n : ℕ) → is_some (h n) ≡ true → ((it : X) → h n ≡ Some it → P) → P
by_item h n full at_item = by_option (h n) (λ none. let no : false ≡ true = sym (ap is_some none) ∙ full in absurd (cc)) at_item

-- what a number leads to, if there is one
abbrev pub reached : {X : Type 0} → (ℕ → Option X) → Option ℕ → Option X
reached h None = None
reached h (Some n) = h n

pub kept-reach : {X : Type 0} (h k : ℕ → Option X) (l : Option ℕ) → ((m : ℕ) → l ≡ Some m → k m ≡ h m) → reached k l ≡ reached h l
kept-reach h k None same = refl
kept-reach h k (Some m) same = same m refl

-- a write at a slot that has something
pub set-here : {X : Type 0} (ss : List (Option X)) (n : ℕ) (was now : X) → slice_index_or ss n None ≡ Some was → slice_index_or (slice_set ss n (Some now)) n None ≡ Some now
set-here [] n was now there = no_some refl there
set-here (s ∷ ss) zero was now there = refl
set-here (s ∷ ss) (suc n) was now there = set-here ss n was now there

pub set-same : {X : Type 0} (ss : List (Option X)) (n : ℕ) (was : X) → slice_index_or ss n None ≡ Some was → slice_set ss n (Some was) ≡ ss
set-same [] n was there = refl
set-same (s ∷ ss) zero was there = ap (λ x. x ∷ ss) (sym there)
set-same (s ∷ ss) (suc n) was there = ap (λ l. s ∷ l) (set-same ss n was there)

-- what each key finds, each entry has
pub each-found : {D X : Type 0} {same : D → D → Bool} (laws : IsEquivalence same) (P : D × X → Type 0) (es : List (D × X)) → IsDistinct same (keys_of es)
    → ((d : D) (x : X) → lookup (same d) es ≡ Some x → P (d, x)) → AllByRecursion P es
each-found laws P [] distinct found = tt
each-found {same = same} laws P (e ∷ es) distinct found = (
  found e.0 e.1 (ap (λ b. cond b (Some e.1) (lookup (same e.0) es)) (laws.refl e.0)),
  each-found laws P es (IsDistinct-tail same e.0 (keys_of es) distinct) (λ d x there. by_test (same d e.0)
      (λ here. no_some (lookup-none (same d) es (none_past_head laws d e es distinct here)) there)
      (λ other. found d x (ap (λ b. cond b (Some e.1) (lookup (same d) es)) other ∙ there))),
)

module _ {D T : Type 0} (test : D → Bool) (h : ℕ → Option (Placed ℕ T)) where
  -- what a name finds among the items
  pub lookup-items : (es : List (D × ℕ)) → ((n : ℕ) → lookup test es ≡ Some n → is_some (h n) ≡ true) → lookup test (items_by h es) ≡ reached h (lookup test es)
  lookup-items [] full = refl
  lookup-items (e ∷ es) full = by_test (test e.0)
      (λ here. by_option (h e.1)
      (λ none. let no : false ≡ true = sym (ap is_some none) ∙ full e.1 (ap (λ b. cond b (Some e.1) (lookup test es)) here) in absurd (cc))
      (λ it is. rw (is, here) (sym is)))
      (λ other. let rest = lookup-items es (λ n there. full n (ap (λ b. cond b (Some e.1) (lookup test es)) other ∙ there)) in
      by_option (h e.1) (λ none. rw (none, other) rest) (λ it is. rw (is, other) rest))

-- only names that pass have the number
abbrev pub Only : {D : Type 0} → (D → Bool) → ℕ → List (D × ℕ) → Type 0
Only test n es = AllByRecursion (λ e. e.1 ≡ n → test e.0 ≡ true) es

module _ {D T : Type 0} where
  -- each number leads to an item
  abbrev pub Full : (ℕ → Option (Placed ℕ T)) → List (D × ℕ) → Type 0
  Full h es = AllByRecursion (λ e. is_some (h e.1) ≡ true) es

  -- each number leads to what it led to
  abbrev pub Alike : (ℕ → Option (Placed ℕ T)) → (ℕ → Option (Placed ℕ T)) → List (D × ℕ) → Type 0
  Alike h k es = AllByRecursion (λ e. k e.1 ≡ h e.1) es

  -- the items have the names of the index
  pub keys-items : (h : ℕ → Option (Placed ℕ T)) (es : List (D × ℕ)) → Full h es → keys_of (items_by h es) ≡ keys_of es
  keys-items h [] full = refl
  keys-items h (e ∷ es) full = by_item h e.1 full.0 (λ it is. rw is (ap (λ ks. e.0 ∷ ks) (keys-items h es full.1)))

  pub alike-items : (h k : ℕ → Option (Placed ℕ T)) (es : List (D × ℕ)) → Alike h k es → items_by k es ≡ items_by h es
  alike-items h k [] alike = refl
  alike-items h k (e ∷ es) alike = rw (alike.0, alike-items h k es alike.1) refl

  -- a name that is put into the index is put into the items
  pub inserted-items : (R : D → D → Ordering) (h k : ℕ → Option (Placed ℕ T)) (d : D) (n : ℕ) (now : Placed ℕ T) → k n ≡ Some now
      → (es : List (D × ℕ)) → Full h es → Alike h k es → items_by k (insert_entry R es d n) ≡ insert_entry R (items_by h es) d now
  inserted-items R h k d n now there [] full alike = rw there refl
  inserted-items R h k d n now there (e ∷ es) full alike = by_item h e.1 full.0 (λ it is.
      let kept : k e.1 ≡ Some it = alike.0 ∙ is in
      by_order (R d e.0) (R d e.0) refl
      (λ less. rw (is, less, there, kept, alike-items h k es alike.1) refl)
      (λ equal. rw (is, equal, there, alike-items h k es alike.1) refl)
      (λ more. rw (is, more, kept) (ap (λ l. (e.0, it) ∷ l) (inserted-items R h k d n now there es full.1 alike.1))))

  module _ (test : D → Bool) (n : ℕ) where
    module _ (h k : ℕ → Option (Placed ℕ T)) (others : (m : ℕ) → (m ≡ n → ⊥) → k m ≡ h m) where
      pub alike-past : (es : List (D × ℕ)) → Only test n es → NonePasses test es → Alike h k es
      alike-past [] only none = tt
      alike-past (e ∷ es) only none = (others e.1 (λ is. no_both (only.0 is) none.0), alike-past es only.1 none.1)

module _ {D T : Type 0} {R : D → D → Ordering} (o : IsTotalOrder R) {h k : ℕ → Option (Placed ℕ T)} (d : D) {n : ℕ} (others : (m : ℕ) → (m ≡ n → ⊥) → k m ≡ h m) where
  past : (e : D × ℕ) (es : List (D × ℕ)) → IsStrictlySortedBy R (keys_of (e ∷ es)) → eq_by_cmp R d e.0 ≡ true → Only (eq_by_cmp R d) n es → items_by k es ≡ items_by h es
  past e es sorted here only = alike-items h k es (alike-past (eq_by_cmp R d) n h k others es only
      (none_past_head (eq_by_cmp_equiv o) d e es (IsDistinct-from_sorted R (keys_of (e ∷ es)) sorted) here))

  -- a write at a slot is one at its name
  pub written-items : {now : Placed ℕ T} → k n ≡ Some now → (es : List (D × ℕ)) → IsStrictlySortedBy R (keys_of es) → Full h es → Only (eq_by_cmp R d) n es
      → lookup (eq_by_cmp R d) es ≡ Some n → items_by k es ≡ insert_entry R (items_by h es) d now
  written-items there [] sorted full only found = no_some refl found
  written-items {now = now} there (e ∷ es) sorted full only found = by_item h e.1 full.0 (λ it is.
      by_order (R d e.0) (R d e.0) refl
      (λ less. no_some (lookup-none (is_at (R d)) (e ∷ es) (none_below_head o d e es sorted less)) found)
      (λ equal.
      let here : e.1 ≡ n = (let h : Some e.1 ≡ Some n = sym (ap (λ r. cond (is_eq r) (Some e.1) (lookup (is_at (R d)) es)) equal) ∙ found in cc) in
      let now_there : k e.1 ≡ Some now = ap k here ∙ there in
      rw (now_there, is, equal, past e es sorted (ap is_eq equal) only.1) refl)
      (λ more.
      let kept : k e.1 ≡ Some it = others e.1 (λ m. no_both (only.0 m) (ap is_eq more)) ∙ is in
      let rest : lookup (eq_by_cmp R d) es ≡ Some n = sym (ap (λ r. cond (is_eq r) (Some e.1) (lookup (is_at (R d)) es)) more) ∙ found in
      rw (kept, is, more) (ap (λ l. (e.0, it) ∷ l) (written-items there es (sorted_tail R e.0 (keys_of es) sorted) full.1 only.1 rest))))

  -- a name that leaves the index leaves the items
  pub removed-items : (es : List (D × ℕ)) → IsStrictlySortedBy R (keys_of es) → Full h es → Only (eq_by_cmp R d) n es
      → items_by k (remove_entry (eq_by_cmp R d) es) ≡ remove_entry (eq_by_cmp R d) (items_by h es)
  removed-items [] sorted full only = refl
  removed-items (e ∷ es) sorted full only = by_item h e.1 full.0 (λ it is. by_test (eq_by_cmp R d e.0)
      (λ here. rw (is, here) (past e es sorted here only.1))
      (λ other.
      let kept : k e.1 ≡ Some it = others e.1 (λ m. no_both (only.0 m) other) ∙ is in
      rw (is, other, kept) (ap (λ l. (e.0, it) ∷ l) (removed-items es (sorted_tail R e.0 (keys_of es) sorted) full.1 only.1))))

-- an item that goes by a name is there
pub name_there : {D T : Type 0} (name : T → D) (o : Option (Placed ℕ T)) (d : D) → option_map (λ it. name it.message) o ≡ Some d → is_some o ≡ true
name_there name None d named = no_some refl named
name_there name (Some it) d named = refl

module _ {D T : Type 0} {R : D → D → Ordering} {name : T → D} (o : IsTotalOrder R) (t : Tabled D T) (ok : IsTabled R name t) where
  -- what a name finds
  pub lookup-found : (d : D) → lookup (eq_by_cmp R d) (items_of t) ≡ reached (item_at t) (lookup (eq_by_cmp R d) t.index)
  lookup-found d = lookup-items (eq_by_cmp R d) (item_at t) t.index (λ n there. let g = ok.leads d n there in name_there name (item_at t n) g.its g.named)

  -- an item is found by its name
  pub lookup-name : (n : ℕ) (d : D) → name_at name t n ≡ Some d → lookup (eq_by_cmp R d) (items_of t) ≡ item_at t n
  lookup-name n d named = lookup-found d ∙ ap (reached (item_at t)) (ok.found n d named)

  -- the message that a name finds
  pub message-found : (d : D) (l : Option ℕ) → l ≡ lookup (eq_by_cmp R d) t.index → option_map (λ it. it.message) (lookup (eq_by_cmp R d) (items_of t)) ≡ option_map (λ it. it.message) (reached (item_at t) l)
  message-found d l is = ap (option_map (λ it. it.message)) (lookup-found d ∙ ap (reached (item_at t)) (sym is))

  -- an equal name leads to the same number
  pub one-number : (d e : D) (n : ℕ) → lookup (eq_by_cmp R d) t.index ≡ Some n → eq_by_cmp R d e ≡ true → lookup (eq_by_cmp R e) t.index ≡ Some n
  one-number d e n there equal = sym (found_same (eq_by_cmp_equiv o) t.index d e equal) ∙ there

  -- names that lead to one number are equal
  pub twins : (d e : D) (n : ℕ) → lookup (eq_by_cmp R d) t.index ≡ Some n → lookup (eq_by_cmp R e) t.index ≡ Some n → eq_by_cmp R d e ≡ true
  twins d e n at_d at_e =
      let laws = eq_by_cmp_equiv o in
      let g = ok.leads d n at_d in
      let k = ok.leads e n at_e in
      let same : k.its ≡ g.its = (let both : Some k.its ≡ Some g.its = sym k.named ∙ g.named in cc) in
      laws.congr d g.its e g.equal ∙ laws.symm g.its e ∙ ap (eq_by_cmp R e) (sym same) ∙ k.equal

  -- a number that a name leads to has an item
  pub leads-there : (d : D) (n : ℕ) → lookup (eq_by_cmp R d) t.index ≡ Some n → is_some (item_at t n) ≡ true
  leads-there d n there = let g = ok.leads d n there in name_there name (item_at t n) g.its g.named

  module _ (sorted : IsStrictlySortedBy R (keys_of t.index)) where
    distinct : IsDistinct (eq_by_cmp R) (keys_of t.index)
    distinct = IsDistinct-from_sorted R (keys_of t.index) sorted

    pub full : Full (item_at t) t.index
    full = each-found (eq_by_cmp_equiv o) (λ e. is_some (item_at t e.1) ≡ true) t.index distinct (λ d n there. let g = ok.leads d n there in name_there name (item_at t n) g.its g.named)

    pub only : (n : ℕ) (d : D) → lookup (eq_by_cmp R d) t.index ≡ Some n → Only (eq_by_cmp R d) n t.index
    only n d there = each-found (eq_by_cmp_equiv o) (λ e. e.1 ≡ n → eq_by_cmp R d e.0 ≡ true) t.index distinct (λ e m at_e is. twins d e n there (at_e ∙ ap Some is))

    -- what each name leads to stays
    pub alike : (k : ℕ → Option (Placed ℕ T)) → ((e : D) (m : ℕ) → lookup (eq_by_cmp R e) t.index ≡ Some m → k m ≡ item_at t m) → Alike (item_at t) k t.index
    alike k same = each-found (eq_by_cmp_equiv o) (λ e. k e.1 ≡ item_at t e.1) t.index distinct same

    pub sorted-items : IsStrictlySortedBy R (keys_of (items_of t))
    sorted-items = subst (IsStrictlySortedBy R) (sym (keys-items (item_at t) t.index full)) sorted

    pub length-items : length (items_of t) ≡ length t.index
    length-items = sym (length-keys_of (items_of t)) ∙ ap length (keys-items (item_at t) t.index full) ∙ length-keys_of t.index

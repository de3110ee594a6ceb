-- What an insert and a removal make of a table.
use Rattle.std.proofs.Common.{Bool, true, false, cond, ◌≡◌, ℕ, List, [], Option, Some, None, Result, Ok, Err, refl, sym, ap, ◌∙◌, subst, inl, inr}
use Rattle.std.specs.Prelude.{is_some, MatchOption, slice_index_or, slice_set}
use Rattle.std.specs.Cmp.{IsTotalOrder, eq_by_cmp_equiv}
use Rattle.std.specs.List.Sorted.{IsStrictlySortedBy}
use Rattle.std.specs.Ordering.{eq_by_cmp}
use Rattle.std.specs.Option.{option_map}
use Rattle.std.specs.Map.{lookup, keys_of, remove_entry}
use Rattle.std.specs.BTreeMap.{insert_entry}
use Rattle.std.specs.declared.cmp.Ordering.{Ordering}
use Rattle.std.proofs.lemmas.List.{get_or-set_other}
use Rattle.std.proofs.lemmas.Bool.{cases_eq}
use Rattle.std.proofs.lemmas.Map.{lookup-remove_entry}
use Rattle.std.proofs.lemmas.Map.Keys.{IsDistinct-from_sorted}
use Rattle.entries.specs.Placed.{Placed}
use Rattle.entries.specs.Slots.{JoinsItem, AddsItem, LeavesItem, Inserts}
use Rattle.entries.specs.Overlaid.{same_number}
use Rattle.entries.specs.Table.{Tabled, item_at, name_at, items_by, items_of, place_in, IsPlaced, IsTabled, Takes, Leaves}
use Rattle.entries.specs.declared.table.Found.{Found}
use Rattle.entries.proofs.Slots.{number_laws}
use Rattle.entries.proofs.Tables.{by_test, lookup-inserted, PutsItem, Rewrites, joined, cached, left, left_last}
use Rattle.entries.proofs.Tabled.{no_some, no_both, reached, kept-reach, set-here, set-same, lookup-found, lookup-name, lookup-items, one-number, full, only, alike, twins, leads-there, sorted-items, written-items, inserted-items, removed-items}

same-table : {D T : Type 0} (t u : Tabled D T) → u.index ≡ t.index → u.slots ≡ t.slots → u ≡ t
same-table t u index slots = λ i. record { index = index i; slots = slots i }

-- what an insert gives that made an item
abbrev pub newly : {E : Type 0} → ℕ → Result Found E
newly n = Ok (record { item = n; place = None; was_there = false })

-- what is at a number is there or elsewhere
by_number : {P : Type 0} (m n : ℕ) → (m ≡ n → P) → ((m ≡ n → ⊥) → P) → P
by_number m n here apart = elim (cases_eq m n) [
  | inl is ↦ here is
  | inr differs ↦ apart differs
]

-- an item is written anew at a number, under its name
record Writes {D T : Type 0} (R : D → D → Ordering) (t u : Tabled D T) (n : ℕ) (d : D) (was now : Placed ℕ T) : Type 0 where
  index : u.index ≡ t.index
  there : item_at t n ≡ Some was
  written : u.slots ≡ slice_set t.slots n (Some now)
  message : now.message ≡ was.message
  leads : lookup (eq_by_cmp R d) t.index ≡ Some n

-- the item of a number had no place but that of the list
pub record HadOne {D T : Type 0} (t : Tabled D T) (n list : ℕ) (slots : List (Option (Placed ℕ T))) : Type 0 where
  pub was : Placed ℕ T
  pub there : item_at t n ≡ Some was
  pub leaves : LeavesItem n list was true t.slots slots

pub had_one : {D T : Type 0} {t : Tabled D T} (n list : ℕ) (slots : List (Option (Placed ℕ T))) (i : Option (Placed ℕ T)) (b : Bool) → item_at t n ≡ i → b ≡ true
    → MatchOption i ((b ≡ false) × (slots ≡ t.slots)) (λ was. LeavesItem n list was b t.slots slots) → HadOne t n list slots
had_one n list slots None b none last stays = no_both last stays.0
had_one n list slots (Some was) b there last leaves = record { was = was; there = there; leaves = rw last at leaves }

module _ {D T : Type 0} {R : D → D → Ordering} {name : T → D} (o : IsTotalOrder R) (t : Tabled D T) (ok : IsTabled R name t) where
  -- the names and what they lead to stay where only places change
  pub same-names : (u : Tabled D T) → u.index ≡ t.index → ((m : ℕ) → name_at name u m ≡ name_at name t m) → IsPlaced (eq_by_cmp R) same_number (items_of u) → IsTabled R name u
  same-names u index names placed = record {
    leads = λ d n there. let g = ok.leads d n (ap (lookup (eq_by_cmp R d)) (sym index) ∙ there) in record { its = g.its; named = names n ∙ g.named; equal = g.equal };
    found = λ n d named. ap (lookup (eq_by_cmp R d)) index ∙ ok.found n d (sym (names n) ∙ named);
    placed = placed;
  }

  module _ (sorted : IsStrictlySortedBy R (keys_of t.index)) {u : Tabled D T} {n : ℕ} {d : D} {was now : Placed ℕ T} (w : Writes R t u n d was now) where
    here : item_at u n ≡ Some now
    here = ap (λ l. slice_index_or l n None) w.written ∙ set-here t.slots n was now w.there

    others : (m : ℕ) → (m ≡ n → ⊥) → item_at u m ≡ item_at t m
    others m differs = ap (λ l. slice_index_or l m None) w.written ∙ get_or-set_other t.slots n m (Some now) None differs

    names : (m : ℕ) → name_at name u m ≡ name_at name t m
    names m = by_number m n
        (λ is. ap (name_at name u) is ∙ ap (option_map (λ it. name it.message)) here ∙ ap (λ x. Some (name x)) w.message ∙ sym (ap (option_map (λ it. name it.message)) w.there) ∙ sym (ap (name_at name t) is))
        (λ differs. ap (option_map (λ it. name it.message)) (others m differs))

    still-there : (e : D) (m : ℕ) → lookup (eq_by_cmp R e) u.index ≡ Some m → is_some (item_at u m) ≡ true
    still-there e m found = by_number m n
        (λ is. ap (λ j. is_some (item_at u j)) is ∙ ap is_some here)
        (λ differs. ap is_some (others m differs) ∙ leads-there o t ok e m (ap (lookup (eq_by_cmp R e)) (sym w.index) ∙ found))

    finds : (e : D) → lookup (eq_by_cmp R e) (items_of u) ≡ cond (eq_by_cmp R d e) (Some now) (lookup (eq_by_cmp R e) (items_of t))
    finds e =
        let reaches : lookup (eq_by_cmp R e) (items_of u) ≡ reached (item_at u) (lookup (eq_by_cmp R e) t.index) =
        lookup-items (eq_by_cmp R e) (item_at u) u.index (still-there e) ∙ ap (λ l. reached (item_at u) (lookup (eq_by_cmp R e) l)) w.index in
        reaches ∙ by_test (eq_by_cmp R d e)
        (λ same. ap (reached (item_at u)) (one-number o t ok d e n w.leads same) ∙ here ∙ sym (ap (λ b. cond b (Some now) (lookup (eq_by_cmp R e) (items_of t))) same))
        (λ differs. kept-reach (item_at t) (item_at u) (lookup (eq_by_cmp R e) t.index) (λ m found. others m (λ is. no_both (twins o t ok d e n w.leads (found ∙ ap Some is)) differs))
        ∙ sym (lookup-found o t ok e) ∙ sym (ap (λ b. cond b (Some now) (lookup (eq_by_cmp R e) (items_of t))) differs))

    rewrites : Rewrites R (items_of t) (items_of u) d was now
    rewrites = record {
      sorted = sorted-items o t ok sorted;
      there = lookup-found o t ok d ∙ ap (reached (item_at t)) w.leads ∙ w.there;
      put = record {
        entries = ap (items_by (item_at u)) w.index ∙ written-items o d others here t.index sorted (full o t ok sorted) (only o t ok sorted n d w.leads) w.leads;
        finds = finds;
      };
      message = w.message;
    }

  module _ (sorted : IsStrictlySortedBy R (keys_of t.index)) (u : Tabled D T) (index : u.index ≡ t.index) where
    -- an item that is there has the place of a list, or gets one
    joins : {E : Type 0} {is_clone : T → T → Type 0} {x : T} {n list i : ℕ} (r : Result Found E) → lookup (eq_by_cmp R (name x)) t.index ≡ Some n
        → JoinsItem n list i r t.slots u.slots → Inserts R name is_clone x list i r t u
    joins {is_clone = is_clone} {x = x} {n = n} {list = list} {i = i} (Ok f) leads j =
        let w : Writes R t u n (name x) j.was j.now = record { index = index; there = j.there; written = j.written; message = j.message; leads = leads } in
        let there = (rewrites sorted w).there in
        let stay = names sorted w in
        let all = joined o number_laws is_clone x list i f.place ok.placed (rewrites sorted w) j.stays j.places in
        let g = ok.leads (name x) n leads in record {
          place = j.found ∙ ap (place_in (eq_by_cmp R) same_number list) (sym there);
          there = j.item.1 ∙ sym (ap is_some there);
          item = record { its = g.its; named = ap (name_at name u) j.item.0 ∙ stay n ∙ g.named; equal = g.equal };
          stays = λ some. same-table t u index (j.written ∙ ap (λ it. slice_set t.slots n (Some it)) (j.stays some) ∙ set-same t.slots n j.was j.there);
          joined = all.1;
          names = λ m d named. stay m ∙ named;
          fails_for_new_places = tt;
          err = tt;
          tabled = same-names u index stay all.0;
        }
    joins {x = x} {n = n} {list = list} (Err e) leads j =
        let there : lookup (eq_by_cmp R (name x)) (items_of t) ≡ Some j.was = lookup-found o t ok (name x) ∙ ap (reached (item_at t)) leads ∙ j.there in
        let same = same-table t u index (j.written ∙ ap (λ it. slice_set t.slots n (Some it)) j.err ∙ set-same t.slots n j.was j.there) in record {
          place = tt;
          there = tt;
          item = tt;
          stays = tt;
          joined = tt;
          names = λ m d named. ap (λ v. name_at name v m) same ∙ named;
          fails_for_new_places = ap (place_in (eq_by_cmp R) same_number list) there ∙ j.fails_for_new_places;
          err = same;
          tabled = subst (IsTabled R name) (sym same) ok;
        }

  -- nothing changes where there is no memory
  pub refuses : {E : Type 0} {u : Tabled D T} {is_clone : T → T → Type 0} {x : T} {list i : ℕ} {e : E} → u.index ≡ t.index → u.slots ≡ t.slots → lookup (eq_by_cmp R (name x)) t.index ≡ None
      → Inserts R name is_clone x list i (Err e) t u
  refuses {u = u} {x = x} {list = list} index slots none = let same = same-table t u index slots in record {
    place = tt;
    there = tt;
    item = tt;
    stays = tt;
    joined = tt;
    names = λ m d named. ap (λ v. name_at name v m) same ∙ named;
    fails_for_new_places = ap (place_in (eq_by_cmp R) same_number list) (lookup-found o t ok (name x) ∙ ap (reached (item_at t)) none);
    err = same;
    tabled = subst (IsTabled R name) (sym same) ok;
  }

  -- a free slot has an item, under a name that was not there
  module _ (sorted : IsStrictlySortedBy R (keys_of t.index)) (u : Tabled D T) {is_clone : T → T → Type 0} {x : T} {n list i : ℕ}
      (none : lookup (eq_by_cmp R (name x)) t.index ≡ None) (index : u.index ≡ insert_entry R t.index (name x) n)
      (updates : (e : D) → lookup (eq_by_cmp R e) u.index ≡ cond (eq_by_cmp R (name x) e) (Some n) (lookup (eq_by_cmp R e) t.index))
      (a : AddsItem is_clone x n list i t.slots u.slots) (copies : (y z : T) → is_clone y z → z ≡ y) where
    -- a name that was there leads elsewhere
    elsewhere : (e : D) (m : ℕ) → lookup (eq_by_cmp R e) t.index ≡ Some m → item_at u m ≡ item_at t m
    elsewhere e m found = a.others m (λ is. let no : false ≡ true = sym (ap is_some a.vacant) ∙ sym (ap (λ j. is_some (item_at t j)) is) ∙ leads-there o t ok e m found in absurd (cc))

    added : items_of u ≡ insert_entry R (items_of t) (name x) a.now
    added = ap (items_by (item_at u)) index ∙ inserted-items R (item_at t) (item_at u) (name x) n a.now a.changed t.index (full o t ok sorted) (alike o t ok sorted (item_at u) elsewhere)

    by_name : {P : Type 0} (e : D) (m : ℕ) → lookup (eq_by_cmp R e) u.index ≡ Some m
        → (eq_by_cmp R (name x) e ≡ true → m ≡ n → P) → (lookup (eq_by_cmp R e) t.index ≡ Some m → item_at u m ≡ item_at t m → P) → P
    by_name e m found new old = by_test (eq_by_cmp R (name x) e)
        (λ same. new same (let both : Some m ≡ Some n = sym found ∙ updates e ∙ ap (λ b. cond b (Some n) (lookup (eq_by_cmp R e) t.index)) same in cc))
        (λ differs. let rest : lookup (eq_by_cmp R e) t.index ≡ Some m = sym (ap (λ b. cond b (Some n) (lookup (eq_by_cmp R e) t.index)) differs) ∙ sym (updates e) ∙ found in old rest (elsewhere e m rest))

    added-finds : (e : D) → lookup (eq_by_cmp R e) (items_of u) ≡ cond (eq_by_cmp R (name x) e) (Some a.now) (lookup (eq_by_cmp R e) (items_of t))
    added-finds e =
        let reaches : lookup (eq_by_cmp R e) (items_of u) ≡ reached (item_at u) (cond (eq_by_cmp R (name x) e) (Some n) (lookup (eq_by_cmp R e) t.index)) =
        lookup-items (eq_by_cmp R e) (item_at u) u.index (λ m found. by_name e m found
        (λ same is. ap (λ j. is_some (item_at u j)) is ∙ ap is_some a.changed)
        (λ rest same. ap is_some same ∙ leads-there o t ok e m rest)) ∙ ap (reached (item_at u)) (updates e) in
        reaches ∙ by_test (eq_by_cmp R (name x) e)
        (λ same. rw same a.changed)
        (λ differs. rw differs (kept-reach (item_at t) (item_at u) (lookup (eq_by_cmp R e) t.index) (elsewhere e) ∙ sym (lookup-found o t ok e)))

    none-found : lookup (eq_by_cmp R (name x)) (items_of t) ≡ None
    none-found = lookup-found o t ok (name x) ∙ ap (reached (item_at t)) none

    own-name : name_at name u n ≡ Some (name x)
    own-name = ap (option_map (λ it. name it.message)) a.changed ∙ ap (λ y. Some (name y)) (copies x a.now.message a.cloned)

    kept-name : (m : ℕ) (d : D) → name_at name t m ≡ Some d → name_at name u m ≡ Some d
    kept-name m d named = ap (option_map (λ it. name it.message)) (a.others m (λ is. no_some (ap (name_at name t) is ∙ ap (option_map (λ it. name it.message)) a.vacant) named)) ∙ named

    added-tabled : IsPlaced (eq_by_cmp R) same_number (items_of u) → IsTabled R name u
    added-tabled placed = record {
      leads = λ d m found. by_name d m found
          (λ same is. record { its = name x; named = ap (name_at name u) is ∙ own-name; equal = (eq_by_cmp_equiv o).symm d (name x) ∙ same })
          (λ rest same. let g = ok.leads d m rest in record { its = g.its; named = kept-name m g.its g.named; equal = g.equal });
      found = λ m d named. by_number m n
          (λ is.
          let own : d ≡ name x = (let both : Some d ≡ Some (name x) = sym named ∙ ap (name_at name u) is ∙ own-name in cc) in
          updates d ∙ ap (λ b. cond b (Some n) (lookup (eq_by_cmp R d) t.index)) (ap (eq_by_cmp R (name x)) own ∙ (eq_by_cmp_equiv o).refl (name x)) ∙ ap Some (sym is))
          (λ differs.
          let old : lookup (eq_by_cmp R d) t.index ≡ Some m = ok.found m d (sym (ap (option_map (λ it. name it.message)) (a.others m differs)) ∙ named) in
          by_test (eq_by_cmp R (name x) d)
          (λ same. no_some none (one-number o t ok d (name x) m old ((eq_by_cmp_equiv o).symm d (name x) ∙ same)))
          (λ other. updates d ∙ ap (λ b. cond b (Some n) (lookup (eq_by_cmp R d) t.index)) other ∙ old));
      placed = placed;
    }

    adds : {E : Type 0} → Inserts R name is_clone x list i (newly {E = E} n) t u
    adds =
        let put : PutsItem R (items_of t) (items_of u) (name x) a.now = record { entries = added; finds = added-finds } in
        let all = cached o number_laws is_clone x list i ok.placed none-found put a.cloned a.places in record {
          place = sym (ap (place_in (eq_by_cmp R) same_number list) none-found);
          there = sym (ap is_some none-found);
          item = record { its = name x; named = own-name; equal = (eq_by_cmp_equiv o).refl (name x) };
          stays = λ some. absurd (cc);
          joined = λ _. all.1;
          names = kept-name;
          fails_for_new_places = tt;
          err = tt;
          tabled = added-tabled all.0;
        }

  module _ (sorted : IsStrictlySortedBy R (keys_of t.index)) {u : Tabled D T} {E : Type 0} {is_clone : T → T → Type 0} {d : D} {x : T} {n list i : ℕ} (own : d ≡ name x) where
    -- a name that was there
    pub joins-again : {r : Result Found E} → u.index ≡ t.index → lookup (eq_by_cmp R d) t.index ≡ Some n → JoinsItem n list i r t.slots u.slots → Inserts R name is_clone x list i r t u
    joins-again {r = r} index leads j = joins sorted u index r (ap (λ e. lookup (eq_by_cmp R e) t.index) (sym own) ∙ leads) j

    -- a new name
    pub adds-new : u.index ≡ insert_entry R t.index d n → lookup (eq_by_cmp R d) t.index ≡ None
        → AddsItem is_clone x n list i t.slots u.slots → ((y z : T) → is_clone y z → z ≡ y) → Inserts R name is_clone x list i (newly {E = E} n) t u
    adds-new put none a copies =
        let index = put ∙ ap (λ e. insert_entry R t.index e n) own in
        adds sorted u (ap (λ e. lookup (eq_by_cmp R e) t.index) (sym own) ∙ none) index
        (λ e. ap (lookup (eq_by_cmp R e)) index ∙ lookup-inserted o (name x) n e t.index) a copies

  -- the place of a list leaves an item that is there
  module _ (sorted : IsStrictlySortedBy R (keys_of t.index)) (u : Tabled D T) {n list : ℕ} {was : Placed ℕ T} {b : Bool} {slots : List (Option (Placed ℕ T))}
      (there : item_at t n ≡ Some was) (l : LeavesItem n list was b t.slots slots) where
    its : name_at name t n ≡ Some (name was.message)
    its = ap (option_map (λ it. name it.message)) there

    -- it has others
    quits : u.index ≡ t.index → u.slots ≡ slots → (l.now.places ≡ [] → ⊥) → Takes R name n list t u
    quits index same some =
        let writes : (d : D) → name_at name t n ≡ Some d → Writes R t u n d was l.now = λ d named.
        record { index = index; there = there; written = same ∙ l.written; message = l.message; leads = ok.found n d named } in
        let stay = names sorted (writes (name was.message) its) in
        let leaves : (d : D) → name_at name t n ≡ Some d → Leaves (eq_by_cmp R) same_number d list (items_of t) (items_of u) × IsPlaced (eq_by_cmp R) same_number (items_of u) = λ d named.
        left o number_laws list ok.placed (rewrites sorted (writes d named)) l.places some in record {
          left = λ d named. (leaves d named).0;
          fewer = λ m d named. sym (stay m) ∙ named;
          others = λ m _. stay m;
          stays = λ d q named _. stay n ∙ named;
          none = λ gone. no_some gone its;
          tabled = same-names u index stay (leaves (name was.message) its).1;
        }

    -- it was the last one
    module _ (gone : item_at u n ≡ None) (others : (m : ℕ) → (m ≡ n → ⊥) → item_at u m ≡ item_at t m) (index : u.index ≡ remove_entry (eq_by_cmp R (name was.message)) t.index)
        (updates : (e : D) → lookup (eq_by_cmp R e) u.index ≡ cond (eq_by_cmp R (name was.message) e) None (lookup (eq_by_cmp R e) t.index)) (empty : l.now.places ≡ []) where
      own-leads : lookup (eq_by_cmp R (name was.message)) t.index ≡ Some n
      own-leads = ok.found n (name was.message) its

      -- a name that is left leads elsewhere
      left-over : {P : Type 0} (e : D) (m : ℕ) → lookup (eq_by_cmp R e) u.index ≡ Some m → (lookup (eq_by_cmp R e) t.index ≡ Some m → item_at u m ≡ item_at t m → P) → P
      left-over e m found rest = by_test (eq_by_cmp R (name was.message) e)
          (λ same. no_some (updates e ∙ ap (λ b. cond b None (lookup (eq_by_cmp R e) t.index)) same) found)
          (λ differs. let old : lookup (eq_by_cmp R e) t.index ≡ Some m = sym (ap (λ b. cond b None (lookup (eq_by_cmp R e) t.index)) differs) ∙ sym (updates e) ∙ found in
          rest old (others m (λ is. no_both (twins o t ok (name was.message) e n own-leads (old ∙ ap Some is)) differs)))

      removed : items_of u ≡ remove_entry (eq_by_cmp R (name was.message)) (items_of t)
      removed = ap (items_by (item_at u)) index ∙ removed-items o (name was.message) others t.index sorted (full o t ok sorted) (only o t ok sorted n (name was.message) own-leads)

      left-finds : (e : D) → lookup (eq_by_cmp R e) (items_of u) ≡ cond (eq_by_cmp R (name was.message) e) None (lookup (eq_by_cmp R e) (items_of t))
      left-finds e =
          let reaches : lookup (eq_by_cmp R e) (items_of u) ≡ reached (item_at u) (cond (eq_by_cmp R (name was.message) e) None (lookup (eq_by_cmp R e) t.index)) =
          lookup-items (eq_by_cmp R e) (item_at u) u.index (λ m found. left-over e m found (λ old same. ap is_some same ∙ leads-there o t ok e m old)) ∙ ap (reached (item_at u)) (updates e) in
          reaches ∙ by_test (eq_by_cmp R (name was.message) e)
          (λ same. rw same refl)
          (λ differs. rw differs (kept-reach (item_at t) (item_at u) (lookup (eq_by_cmp R e) t.index)
          (λ m old. others m (λ is. no_both (twins o t ok (name was.message) e n own-leads (old ∙ ap Some is)) differs)) ∙ sym (lookup-found o t ok e)))

      -- an item that is left goes by its name
      left-name : (m : ℕ) (d : D) → name_at name u m ≡ Some d → (m ≡ n → ⊥) × (name_at name t m ≡ Some d)
      left-name m d named = by_number m n
          (λ is. no_some (ap (name_at name u) is ∙ ap (option_map (λ it. name it.message)) gone) named)
          (λ differs. (differs, sym (ap (option_map (λ it. name it.message)) (others m differs)) ∙ named))

      leaves-last : Takes R name n list t u
      leaves-last =
          let all = left_last o number_laws (items_of t) (name was.message) list l.now ok.placed (lookup-name o t ok n (name was.message) its ∙ there) l.places empty removed left-finds in
          let same : (d : D) → name_at name t n ≡ Some d → name was.message ≡ d = λ d named. (let both : Some (name was.message) ≡ Some d = sym its ∙ named in cc) in record {
            left = λ d named. subst (λ e. Leaves (eq_by_cmp R) same_number e list (items_of t) (items_of u)) (same d named) all.0;
            fewer = λ m d named. (left-name m d named).1;
            others = λ m differs. ap (option_map (λ it. name it.message)) (others m differs);
            stays = λ d q named still.
                let nothing : lookup (eq_by_cmp R d) (items_of u) ≡ None = left-finds d ∙ ap (λ b. cond b None (lookup (eq_by_cmp R d) (items_of t))) (ap (eq_by_cmp R (name was.message)) (sym (same d named)) ∙ (eq_by_cmp_equiv o).refl (name was.message)) in
                let no : false ≡ true = sym (ap (λ it. is_some (place_in (eq_by_cmp R) same_number q it)) nothing) ∙ still in absurd (cc);
            none = λ none. no_some none its;
            tabled = record {
              leads = λ d m found. left-over d m found (λ old kept. let k = ok.leads d m old in record { its = k.its; named = ap (option_map (λ it. name it.message)) kept ∙ k.named; equal = k.equal });
              found = λ m d named. let h = left-name m d named in
                  let old = ok.found m d h.1 in
                  by_test (eq_by_cmp R (name was.message) d)
                  (λ equal. absurd (h.0 (let both : Some m ≡ Some n = sym old ∙ one-number o t ok (name was.message) d n own-leads equal in cc)))
                  (λ differs. updates d ∙ ap (λ b. cond b None (lookup (eq_by_cmp R d) t.index)) differs ∙ old);
              placed = all.1;
            };
          }

  -- there is no item
  pub takes-none : (u : Tabled D T) (n list : ℕ) → u.index ≡ t.index → u.slots ≡ t.slots → item_at t n ≡ None → Takes R name n list t u
  takes-none u n list index slots none = let same = same-table t u index slots in record {
    left = λ d named. no_some (ap (option_map (λ it. name it.message)) none) named;
    fewer = λ m d named. sym (ap (λ v. name_at name v m) same) ∙ named;
    others = λ m _. ap (λ v. name_at name v m) same;
    stays = λ d q named _. ap (λ v. name_at name v n) same ∙ named;
    none = λ _. same;
    tabled = subst (IsTabled R name) (sym same) ok;
  }

  -- an item that keeps others, or none
  pub takes-some : IsStrictlySortedBy R (keys_of t.index) → {u : Tabled D T} {n list : ℕ} (i : Option (Placed ℕ T)) (b : Bool) → item_at t n ≡ i → b ≡ false → u.index ≡ t.index
      → MatchOption i ((b ≡ false) × (u.slots ≡ t.slots)) (λ was. LeavesItem n list was b t.slots u.slots) → Takes R name n list t u
  takes-some sorted {u = u} {n = n} {list = list} None b none _ index stays = takes-none u n list index stays.1 none
  takes-some sorted {u = u} (Some was) b there more index leaves = quits sorted u there leaves index refl (rw more at leaves.last)

  -- an item that keeps none is there
  pub takes-last : IsStrictlySortedBy R (keys_of t.index) → {u : Tabled D T} {n list : ℕ} {slots : List (Option (Placed ℕ T))} {it : Placed ℕ T} {d : D} → HadOne t n list slots
      → slice_index_or slots n None ≡ Some it → d ≡ name it.message → item_at u n ≡ None → ((m : ℕ) → (m ≡ n → ⊥) → item_at u m ≡ slice_index_or slots m None)
      → u.index ≡ remove_entry (eq_by_cmp R d) t.index → Takes R name n list t u
  takes-last sorted {u = u} {n = n} {it = it} {d = d} h taken own gone others index =
      let now = h.leaves.now in
      let written : slice_index_or _ n None ≡ Some now = ap (λ l. slice_index_or l n None) h.leaves.written ∙ set-here t.slots n h.was now h.there in
      let one : it ≡ now = (let both : Some it ≡ Some now = sym taken ∙ written in cc) in
      let same : d ≡ name h.was.message = own ∙ ap (λ (m : Placed ℕ T). name m.message) one ∙ ap name h.leaves.message in
      let less = index ∙ ap (λ e. remove_entry (eq_by_cmp R e) t.index) same in
      let laws = eq_by_cmp_equiv o in
      leaves-last sorted u h.there h.leaves gone
      (λ m differs. others m differs ∙ ap (λ l. slice_index_or l m None) h.leaves.written ∙ get_or-set_other t.slots n m (Some now) None differs)
      less
      (λ e. ap (lookup (eq_by_cmp R e)) less
      ∙ lookup-remove_entry laws (eq_by_cmp R (name h.was.message)) (λ x y is. laws.congr (name h.was.message) x y is) e t.index (IsDistinct-from_sorted R (keys_of t.index) sorted))
      h.leaves.last

  -- an item that keeps none is not away
  pub takes-away : {P : Type 0} {n list : ℕ} {slots : List (Option (Placed ℕ T))} → HadOne t n list slots → slice_index_or slots n None ≡ None → P
  takes-away {n = n} h gone = no_some gone (ap (λ l. slice_index_or l n None) h.leaves.written ∙ set-here t.slots n h.was h.leaves.now h.there)

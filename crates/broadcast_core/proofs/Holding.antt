-- What a table holds when a message gets a place.
use Rattle.std.proofs.Common.{◌≡◌, ℕ, Bool, true, false, cond, List, Option, Some, None, inl, inr, refl, sym, ap, ◌∙◌}
use Rattle.std.specs.Prelude.{is_some}
use Rattle.std.specs.Option.{option_map}
use Rattle.std.specs.Map.{lookup}
use Rattle.std.specs.BTreeMap.{insert_entry}
use Rattle.std.specs.Cmp.{IsEquivalence}
use Rattle.std.specs.declared.cmp.Ordering.{Ordering}
use Rattle.entries.specs.declared.entry.Charged.{Charged}
use Rattle.entries.specs.Linked.{Node}
use Rattle.entries.specs.Placed.{Placed}
use Rattle.entries.specs.Store.{items_at}
use Rattle.std.specs.Ordering.{eq_by_cmp}
use Rattle.entries.specs.Table.{messages_of, place_at, Joins, Tabled, name_at, GoesBy}
use Rattle.entries.proofs.Stores.{found_same}
use Rattle.entries.proofs.Tables.{lookup-messages}
use Rattle.broadcast_core.specs.Carried.{Carried}
use Rattle.broadcast_core.specs.Content.{Same, at_charge}
use Rattle.broadcast_core.specs.Stored.{has_digest}
use Rattle.broadcast_core.specs.Indexed.{IsIndexed, Holds, digest_lists}
use Rattle.broadcast_core.proofs.Distinct.{by_test}
use Rattle.broadcast_core.proofs.Indexing.{cond_true, cond_false}
use Rattle.broadcast_core.proofs.Staying.{charged_laws}
use Rattle.broadcast_core.proofs.Placing.{items_at-digests, among-place}

none_is : {X : Type 0} (o : Option X) → false ≡ is_some o → o ≡ None
none_is None h = refl
none_is (Some x) h = cc

pub some_message : {P X : Type 0} (o : Option (Placed P X)) → is_some (option_map (λ i. i.message) o) ≡ is_some o
some_message None = refl
some_message (Some item) = refl

-- a message is cached where the table has its item
pub cached-there : {P D X : Type 0} (test : D → Bool) (items : List (D × Placed P X)) → is_some (lookup test (messages_of items)) ≡ is_some (lookup test items)
cached-there test items = ap is_some (lookup-messages test items) ∙ some_message (lookup test items)

pub no_duplicate : {Q : Type 0} (b : Bool) (o : Option ℕ) → b ≡ is_some o → o ≡ None → b ≡ true → Q
no_duplicate b o is none has = let no : false ≡ true = sym (is ∙ ap is_some none) ∙ has in absurd (cc)

module _ {P M D : Type 0} (same : Same P D) (key_laws : IsEquivalence same.key) (laws : IsEquivalence same.digest) where
  -- whether the list of the key has the digest, by the table
  pub among-indexed : (lists : List (P × List (Node (Charged D)))) (items : List (D × Placed P (Carried M D))) → IsIndexed same lists items → (d : D) (p : P)
      → has_digest same.digest d (items_at same.key p (digest_lists lists)) ≡ is_some (place_at same.digest same.key items d p)
  among-indexed lists items was d p =
      let any : Charged D = at_charge d 0 in
      ap (has_digest same.digest d) (items_at-digests same.key p lists) ∙ among-place (charged_laws laws) any (items_at same.key p lists) ∙ ap is_some (sym (was.finds any p))

  -- what a message that gets a place makes of the messages
  pub Holds-joined : (is_clone : Carried M D → Carried M D → Type 0) (R : D → D → Ordering) (p : P) (x : Carried M D) (place : ℕ) (old new : List (D × Placed P (Carried M D)))
      → ((copy : Carried M D) → is_clone x copy → copy ≡ x) → Joins same.digest same.key R is_clone x.digest x p place old new → Holds same R p x place old new
  Holds-joined is_clone R p x place old new copies joins = by_some (lookup (same.digest x.digest) old)
      (λ none.
      let c = joins.cached none in
      let one : c.copy ≡ x = copies c.copy c.cloned in
      let finds : (e : D) → lookup (same.digest e) (messages_of new) ≡ cond (same.digest x.digest e) (Some x) (lookup (same.digest e) (messages_of old)) = λ e.
      c.finds e ∙ ap (λ v. cond (same.digest x.digest e) (Some v) (lookup (same.digest e) (messages_of old))) one in
      record {
        places = joins.places;
        messages = c.entries ∙ ap (insert_entry R (messages_of old) x.digest) one
            ∙ sym (cond_false (is_some (lookup (same.digest x.digest) old)) (messages_of old) (insert_entry R (messages_of old) x.digest x) (ap is_some none));
        cached = ap is_some (finds x.digest ∙ cond_true (same.digest x.digest x.digest) (Some x) (lookup (same.digest x.digest) (messages_of old)) (laws.refl x.digest));
        origin = λ d y h. by_test (same.digest x.digest d)
            (λ t.
            let is : x ≡ y = (let both : Some x ≡ Some y = sym (finds d ∙ cond_true (same.digest x.digest d) (Some x) (lookup (same.digest d) (messages_of old)) t) ∙ h in cc) in
            let no : lookup (same.digest d) (messages_of old) ≡ None = sym (found_same laws (messages_of old) x.digest d t) ∙ lookup-messages (same.digest x.digest) old ∙ ap (option_map (λ i. i.message)) none in
            inr (no, sym is, t))
            (λ t. inl (sym (finds d ∙ cond_false (same.digest x.digest d) (Some x) (lookup (same.digest d) (messages_of old)) t) ∙ h));
      })
      (λ there.
      let stays = joins.stays there in
      record {
        places = joins.places;
        messages = stays ∙ sym (cond_true (is_some (lookup (same.digest x.digest) old)) (messages_of old) (insert_entry R (messages_of old) x.digest x) there);
        cached = ap (λ l. is_some (lookup (same.digest x.digest) l)) stays ∙ ap is_some (lookup-messages (same.digest x.digest) old) ∙ some_message (lookup (same.digest x.digest) old) ∙ there;
        origin = λ d y h. inl (ap (lookup (same.digest d)) (sym stays) ∙ h);
      })
    where
      by_some : {G X : Type 0} (o : Option X) → (o ≡ None → G) → (is_some o ≡ true → G) → G
      by_some None at_none at_some = at_none refl
      by_some (Some v) at_none at_some = at_some refl

-- an item that goes by a digest has that digest for its name, where digests that are not told apart are one
pub item-named : {D T : Type 0} (cmp : D → D → Ordering) (name : T → D) (d : D) (t : Tabled D T) (n : ℕ) → ((a b : D) → eq_by_cmp cmp a b ≡ true → a ≡ b) → GoesBy cmp name d t n → name_at name t n ≡ Some d
item-named cmp name d t n exact goes = goes.named ∙ ap Some (sym (exact d goes.its goes.equal))

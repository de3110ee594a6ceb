-- Lists that are dropped, digest by digest and key by key.
use Rattle.std.proofs.Common.{◌≡◌, ◌<◌, Bool, true, false, not, ◌&&◌, ◌||◌, cond, List, [], ◌∷◌, ◌++◌, length, Option, Some, None, refl, sym, ap, ◌∙◌, arith, length-append}
use Rattle.std.specs.Prelude.{is_some}
use Rattle.std.specs.List.{list_any, IsDistinct}
use Rattle.std.specs.Map.{lookup, keys_of}
use Rattle.std.specs.Cmp.{IsEquivalence}
use Rattle.entries.specs.declared.entry.Charged.{Charged}
use Rattle.entries.specs.Linked.{Node}
use Rattle.entries.specs.Placed.{Placed}
use Rattle.entries.specs.Store.{items_at, values_of, Evicts, Removes}
use Rattle.entries.specs.Table.{messages_of, IsPlaced, Leaves}
use Rattle.broadcast_core.specs.Carried.{Carried}
use Rattle.broadcast_core.specs.Content.{Same, items_at as stored_at}
use Rattle.broadcast_core.specs.Indexed.{IsIndexed, Fewer, digest_lists, stored_of}
use Rattle.broadcast_core.specs.Stored.{Stored, Drops, is_stored, is_dropped}
use Rattle.broadcast_core.proofs.Distinct.{by_test, among-equal, list_any-append, or_none, or_right}
use Rattle.broadcast_core.proofs.Placing.{items_at-digests, is_some-digests}
use Rattle.broadcast_core.proofs.Indexing.{cond_true, cond_false, IsIndexed-evicted, IsIndexed-closed}
use Rattle.broadcast_core.proofs.Caching.{fewer-cases}

module _ {P D : Type 0} (same : Same P D) where
  module _ (key_laws : IsEquivalence same.key) (seen peers : List P) (p q : P) where
    one_more : list_any (same.key q) (seen ++ p ∷ []) ≡ (list_any (same.key q) seen || same.key q p)
    one_more = list_any-append (same.key q) seen (p ∷ []) ∙ ap (λ b. list_any (same.key q) seen || b) (or_none (same.key q p))

    dropped-other : same.key p q ≡ false → is_dropped same (seen ++ p ∷ []) peers q ≡ is_dropped same seen peers q
    dropped-other h = ap (λ b. b && not (list_any (same.key q) peers)) (one_more ∙ ap (λ b. list_any (same.key q) seen || b) (key_laws.symm q p ∙ h) ∙ or_none (list_any (same.key q) seen))

    among-same : same.key p q ≡ true → list_any (same.key q) peers ≡ list_any (same.key p) peers
    among-same h = sym (among-equal key_laws p q peers h)

    dropped-here : same.key p q ≡ true → list_any (same.key p) peers ≡ false → is_dropped same (seen ++ p ∷ []) peers q ≡ true
    dropped-here h gone =
        ap (λ b. b && not (list_any (same.key q) peers)) (one_more ∙ ap (λ b. list_any (same.key q) seen || b) (key_laws.symm q p ∙ h) ∙ or_right (list_any (same.key q) seen))
        ∙ ap not (among-same h ∙ gone)

    stays-here : (was : List P) → same.key p q ≡ true → list_any (same.key p) peers ≡ true → is_dropped same was peers q ≡ false
    stays-here was h there = ap (λ b. list_any (same.key q) was && not b) (among-same h ∙ there) ∙ and_false (list_any (same.key q) was)
      where
        and_false : (b : Bool) → (b && false) ≡ false
        and_false true = refl
        and_false false = refl

  module _ (key_laws : IsEquivalence same.key) (p q : P) where
    -- a set of one key that is followed by the empty one
    pub one-dropped : is_dropped same (p ∷ []) [] q ≡ same.key p q
    one-dropped = and_true (same.key q p || false) ∙ or_none (same.key q p) ∙ key_laws.symm q p
      where
        and_true : (b : Bool) → (b && true) ≡ b
        and_true true = refl
        and_true false = refl

pub fewer_from : {X : Type 0} (b : Bool) (now new : Option X) → new ≡ cond b now None → (y : X) → new ≡ Some y → now ≡ Some y
fewer_from true now new is y h = sym is ∙ h
fewer_from false now new is y h = let no : None ≡ Some y = sym is ∙ h in cc

-- a list whose oldest leaves is shorter
pub evicts-shorter : {K D : Type 0} {key : K → K → Bool} (laws : IsEquivalence key) (p : K) (stale : D) (now next : List (K × List (Node D))) → Evicts key p stale now next
    → length (items_at key p next) < length (items_at key p now)
evicts-shorter {key = key} laws p stale now next evicts =
    let rest : items_at key p next ≡ evicts.rest = evicts.put.lists p ∙ cond_true (key p p) evicts.rest (items_at key p now) (laws.refl p) in
    omega (arith, ap length rest, ap length evicts.last, length-append evicts.rest ((evicts.place, stale) ∷ []))

module _ {P M D : Type 0} (same : Same P D) where
  -- what is kept while the keys of a set are looked at
  pub record Dropping (seen peers : List P) (old new : Stored P M D) : Type 0 where
    pub lists : (q : P) → stored_at same.key q new.lists ≡ cond (is_dropped same seen peers q) [] (stored_at same.key q old.lists)
    pub keys : (q : P) → is_some (lookup (same.key q) new.lists) ≡ true → (is_dropped same seen peers q ≡ false) × (is_some (lookup (same.key q) old.lists) ≡ true)
    pub stays : (q : P) → is_dropped same seen peers q ≡ false → is_some (lookup (same.key q) old.lists) ≡ true → is_some (lookup (same.key q) new.lists) ≡ true
    pub fewer : Fewer same old.messages new.messages

  pub Dropping-start : (peers : List P) (old : Stored P M D) → Dropping [] peers old old
  Dropping-start peers old = record { lists = λ q. refl; keys = λ q there. (refl, there); stays = λ q left there. there; fewer = λ d y h. h }

  module _ (key_laws : IsEquivalence same.key) (seen peers : List P) (old now : Stored P M D) (c : Dropping seen peers old now) (p : P) where
    -- the key is in the new set
    pub Dropping-stays : list_any (same.key p) peers ≡ true → Dropping (seen ++ p ∷ []) peers old now
    Dropping-stays there =
        let agrees : (q : P) → is_dropped same (seen ++ p ∷ []) peers q ≡ is_dropped same seen peers q = λ q. by_test (same.key p q)
        (λ h. stays-here same key_laws seen peers p q (seen ++ p ∷ []) h there ∙ sym (stays-here same key_laws seen peers p q seen h there))
        (λ h. dropped-other same key_laws seen peers p q h) in
        record {
          lists = λ q. c.lists q ∙ sym (ap (λ b. cond b [] (stored_at same.key q old.lists)) (agrees q));
          keys = λ q there. let r = c.keys q there in (agrees q ∙ r.0, r.1);
          stays = λ q left there. c.stays q (sym (agrees q) ∙ left) there;
          fewer = c.fewer;
        }

    -- the key is not
    pub Dropping-leaves : (new : Stored P M D) → list_any (same.key p) peers ≡ false → Drops same (p ∷ []) [] now new → Dropping (seen ++ p ∷ []) peers old new
    Dropping-leaves new gone drops = record {
      lists = λ q. drops.lists q ∙ by_test (same.key p q)
          (λ h. cond_true (is_dropped same (p ∷ []) [] q) [] (stored_at same.key q now.lists) (one-dropped same key_laws p q ∙ h)
          ∙ sym (cond_true (is_dropped same (seen ++ p ∷ []) peers q) [] (stored_at same.key q old.lists) (dropped-here same key_laws seen peers p q h gone)))
          (λ h. cond_false (is_dropped same (p ∷ []) [] q) [] (stored_at same.key q now.lists) (one-dropped same key_laws p q ∙ h)
          ∙ c.lists q ∙ sym (ap (λ b. cond b [] (stored_at same.key q old.lists)) (dropped-other same key_laws seen peers p q h)));
      keys = λ q there. let r = drops.keys q there in let s = c.keys q r.1 in (dropped-other same key_laws seen peers p q (sym (one-dropped same key_laws p q) ∙ r.0) ∙ s.0, s.1);
      stays = λ q left there. by_test (same.key p q)
          (λ h. let no : true ≡ false = sym (dropped-here same key_laws seen peers p q h gone) ∙ left in absurd (cc))
          (λ h. drops.stays q (one-dropped same key_laws p q ∙ h) (c.stays q (sym (dropped-other same key_laws seen peers p q h) ∙ left) there));
      fewer = λ d y h. c.fewer d y (fewer_from (is_stored same d new.lists) (lookup (same.digest d) now.messages) (lookup (same.digest d) new.messages) (drops.messages d) y h);
    }

  -- all keys were looked at
  pub Drops-made : (key_laws : IsEquivalence same.key) (laws : IsEquivalence same.digest) (was peers : List P) (old new : Stored P M D)
      → ((d : D) → is_stored same d new.lists ≡ is_some (lookup (same.digest d) new.messages)) → IsDistinct same.key (keys_of new.lists) → Dropping was peers old new → Drops same was peers old new
  Drops-made key_laws laws was peers old new cached distinct c = record {
    lists = c.lists;
    keys = c.keys;
    stays = c.stays;
    distinct = distinct;
    messages = λ d. fewer-cases same key_laws laws (is_stored same d new.lists) (lookup (same.digest d) old.messages) (lookup (same.digest d) new.messages) (cached d) (λ y h. c.fewer d y h);
  }

module _ {P M D : Type 0} (same : Same P D) where
  -- what is kept while the list of a key is cleared
  pub record Clearing (p : P) (first now : List (P × List (Node (Charged D)))) (old new : List (D × Placed P (Carried M D))) : Type 0 where
    pub indexed : IsIndexed same now new
    pub lists : (q : P) → same.key p q ≡ false → items_at same.key q now ≡ items_at same.key q first
    pub keys : (q : P) → same.key p q ≡ false → is_some (lookup (same.key q) now) ≡ true → is_some (lookup (same.key q) first) ≡ true
    pub stays : (q : P) → is_some (lookup (same.key q) first) ≡ true → is_some (lookup (same.key q) now) ≡ true
    pub fewer : Fewer same (messages_of old) (messages_of new)

  pub Clearing-start : (p : P) (lists : List (P × List (Node (Charged D)))) (items : List (D × Placed P (Carried M D))) → IsIndexed same lists items → Clearing p lists lists items items
  Clearing-start p lists items was = record { indexed = was; lists = λ q h. refl; keys = λ q h there. there; stays = λ q there. there; fewer = λ d y h. h }

  module _ (key_laws : IsEquivalence same.key) (laws : IsEquivalence same.digest) (p : P) (first now next : List (P × List (Node (Charged D)))) (old mid new : List (D × Placed P (Carried M D))) (c : Clearing p first now old mid) where
    or_no : (a b : Bool) → a ≡ false → (a || b) ≡ true → b ≡ true
    or_no true b h k = absurd cc
    or_no false b h k = k

    pub Clearing-step : (stale : Charged D) → Evicts same.key p stale now next → Leaves same.digest same.key stale.digest p mid new → IsPlaced same.digest same.key new → Clearing p first next old new
    Clearing-step stale evicts leaves placed = record {
      indexed = IsIndexed-evicted same key_laws laws p now next mid c.indexed stale evicts.place evicts.rest new evicts.last leaves.places evicts.put
          (λ d y h. c.indexed.named d y (leaves.fewer d y h)) placed;
      lists = λ q h. evicts.put.lists q ∙ cond_false (same.key p q) evicts.rest (items_at same.key q now) h ∙ c.lists q h;
      keys = λ q h there. c.keys q h (or_no (same.key p q) (is_some (lookup (same.key q) now)) h (evicts.put.keys q there));
      stays = λ q there. evicts.put.stays q (c.stays q there);
      fewer = λ d y h. c.fewer d y (leaves.fewer d y h);
    }

    pub Clearing-end : (gone : List (P × List (Node (Charged D)))) → items_at same.key p now ≡ [] → next ≡ now → Removes same.key p next gone
        → IsIndexed same gone mid × Dropping same (p ∷ []) [] (stored_of first old) (stored_of gone mid)
    Clearing-end gone empty stays removes =
        let at : (q : P) → items_at same.key q gone ≡ cond (same.key p q) [] (items_at same.key q now) = λ q. removes.lists q ∙ ap (λ l. cond (same.key p q) [] (items_at same.key q l)) stays in (
          IsIndexed-closed same key_laws laws p now gone mid c.indexed empty at removes.distinct,
          record {
            lists = λ q. items_at-digests same.key q gone ∙ by_test (same.key p q)
                (λ h. ap values_of (at q ∙ cond_true (same.key p q) [] (items_at same.key q now) h)
                ∙ sym (cond_true (is_dropped same (p ∷ []) [] q) [] (items_at same.key q (digest_lists first)) (one-dropped same key_laws p q ∙ h)))
                (λ h. ap values_of (at q ∙ cond_false (same.key p q) [] (items_at same.key q now) h ∙ c.lists q h) ∙ sym (items_at-digests same.key q first)
                ∙ sym (cond_false (is_dropped same (p ∷ []) [] q) [] (items_at same.key q (digest_lists first)) (one-dropped same key_laws p q ∙ h)));
            keys = λ q there. let r = removes.keys q (sym (is_some-digests same.key q gone) ∙ there) in (
              one-dropped same key_laws p q ∙ r.0,
              is_some-digests same.key q first ∙ c.keys q r.0 (ap (λ l. is_some (lookup (same.key q) l)) (sym stays) ∙ r.1),
            );
            stays = λ q left there. is_some-digests same.key q gone
                ∙ removes.stays q (sym (one-dropped same key_laws p q) ∙ left) (ap (λ l. is_some (lookup (same.key q) l)) stays ∙ c.stays q (sym (is_some-digests same.key q first) ∙ there));
            fewer = c.fewer;
          },
        )

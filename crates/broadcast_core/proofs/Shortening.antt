-- A list that is cut to its bytes, digest by digest.
use Rattle.std.proofs.Common.{◌≡◌, ℕ, ◌<◌, ◌≤◌, true, ◌||◌, List, [], ◌∷◌, ◌++◌, refl, sym, ap, ◌∙◌, subst}
use Rattle.std.specs.Prelude.{is_some}
use Rattle.std.specs.List.{IsDistinct}
use Rattle.std.specs.Map.{lookup, keys_of}
use Rattle.std.specs.Cmp.{IsEquivalence}
use Rattle.entries.specs.declared.entry.Charged.{Charged}
use Rattle.entries.specs.Linked.{Node}
use Rattle.entries.specs.Placed.{Placed}
use Rattle.entries.specs.Store.{items_at, values_of, Evicts}
use Rattle.entries.specs.Table.{messages_of, IsPlaced, Leaves}
use Rattle.broadcast_core.specs.Carried.{Carried}
use Rattle.broadcast_core.specs.Content.{Same, bytes_of}
use Rattle.broadcast_core.specs.Fronted.{within}
use Rattle.broadcast_core.specs.Indexed.{IsIndexed, digest_lists, stored_of}
use Rattle.broadcast_core.specs.Stored.{Stored, Stores, Cuts, has_digest, is_stored}
use Rattle.broadcast_core.proofs.Distinct.{by_test}
use Rattle.broadcast_core.proofs.Staying.{within-all, within-drop, any-within}
use Rattle.broadcast_core.proofs.Placing.{digests-append, items_at-digests, is_some-digests}
use Rattle.broadcast_core.proofs.Indexing.{cond_true, cond_false, nodes-equal}
use Rattle.broadcast_core.proofs.Caching.{stored-at, holder, stored-cached, fewer-cases}
use Rattle.broadcast_core.proofs.Dropping.{Clearing, Clearing-start, Clearing-step}

module _ {P M D : Type 0} (same : Same P D) where
  -- what is kept while the list of a key is cut to its bytes
  pub record Shortening (p : P) (b : ℕ) (first now : List (P × List (Node (Charged D)))) (old new : List (D × Placed P (Carried M D))) : Type 0 where
    pub clearing : Clearing same p first now old new
    pub kept : within b (values_of (items_at same.key p now)) ≡ within b (values_of (items_at same.key p first))

  pub Shortening-start : (p : P) (b : ℕ) (lists : List (P × List (Node (Charged D)))) (items : List (D × Placed P (Carried M D))) → IsIndexed same lists items → Shortening p b lists lists items items
  Shortening-start p b lists items was = record { clearing = Clearing-start same p lists items was; kept = refl }

  module _ (key_laws : IsEquivalence same.key) (laws : IsEquivalence same.digest) (p : P) (b : ℕ) (first now next : List (P × List (Node (Charged D)))) (old mid new : List (D × Placed P (Carried M D)))
      (c : Shortening p b first now old mid) where
    pub Shortening-step : (stale : Charged D) → b < bytes_of (values_of (items_at same.key p now)) → Evicts same.key p stale now next → Leaves same.digest same.key stale.digest p mid new
        → IsPlaced same.digest same.key new → Shortening p b first next old new
    Shortening-step stale over evicts leaves placed =
        let rest : items_at same.key p next ≡ evicts.rest = evicts.put.lists p ∙ cond_true (same.key p p) evicts.rest (items_at same.key p now) (key_laws.refl p) in
        let split : values_of (items_at same.key p now) ≡ values_of evicts.rest ++ stale ∷ [] = ap values_of evicts.last ∙ digests-append evicts.rest ((evicts.place, stale) ∷ []) in
        record {
          clearing = Clearing-step same key_laws laws p first now next old mid new c.clearing stale evicts leaves placed;
          kept = ap (λ ns. within b (values_of ns)) rest ∙ sym (within-drop b (values_of evicts.rest) stale (rw split at over)) ∙ ap (within b) (sym split) ∙ c.kept;
        }

    -- the list fits its bytes
    pub Cuts-made : bytes_of (values_of (items_at same.key p now)) ≤ b → next ≡ now → IsDistinct same.key (keys_of (digest_lists now))
        → Cuts same p (within b (items_at same.key p (digest_lists first))) (stored_of first old) (stored_of next mid)
    Cuts-made fits stays distinct =
        let cs = within b (items_at same.key p (digest_lists first)) in
        let here : values_of (items_at same.key p now) ≡ cs = sym (within-all b (values_of (items_at same.key p now)) fits) ∙ c.kept ∙ ap (within b) (sym (items_at-digests same.key p first)) in
        rw stays (record {
          put = record {
            lists = λ q. items_at-digests same.key q now ∙ by_test (same.key p q)
                (λ h. ap values_of (nodes-equal key_laws now p q h) ∙ here ∙ sym (cond_true (same.key p q) cs (items_at same.key q (digest_lists first)) h))
                (λ h. ap values_of (c.clearing.lists q h) ∙ sym (items_at-digests same.key q first) ∙ sym (cond_false (same.key p q) cs (items_at same.key q (digest_lists first)) h));
            keys = λ q there. by_test (same.key p q)
                (λ h. rw h refl)
                (λ h. rw h (is_some-digests same.key q first ∙ c.clearing.keys q h (sym (is_some-digests same.key q now) ∙ there)));
            stays = λ q there. is_some-digests same.key q now ∙ c.clearing.stays q (sym (is_some-digests same.key q first) ∙ there);
            distinct = distinct;
          };
          messages = λ d. fewer-cases same key_laws laws (is_stored same d (digest_lists now)) (lookup (same.digest d) (messages_of old)) (lookup (same.digest d) (messages_of mid))
              (stored-cached same key_laws laws now mid c.clearing.indexed distinct d) (λ y h. c.clearing.fewer d y h);
        })

  module _ (key_laws : IsEquivalence same.key) (p : P) (x : Carried M D) (cs : List (Charged D)) (b : ℕ) (old mid new : Stored P M D) (stores : Stores same p x cs old mid) where
    at-key : items_at same.key p mid.lists ≡ cs
    at-key = stores.put.lists p ∙ cond_true (same.key p p) cs (items_at same.key p old.lists) (key_laws.refl p)

    -- a list that fits is not cut
    pub Stores-fits : bytes_of (items_at same.key p mid.lists) ≤ b → Stores same p x (within b cs) old mid
    Stores-fits fits = subst (λ ds. Stores same p x ds old mid) (sym (within-all b cs (rw at-key at fits))) stores

    -- a list that is cut
    module _ (cuts : Cuts same p (within b (items_at same.key p mid.lists)) mid new) where
      cut-is : within b (items_at same.key p mid.lists) ≡ within b cs
      cut-is = ap (within b) at-key

      was-stored : (d : D) → is_stored same d new.lists ≡ true → is_stored same d mid.lists ≡ true
      was-stored d h =
          let r = holder same key_laws d new.lists cuts.put.distinct h in
          by_test (same.key p r.key)
          (λ t. stored-at same p d mid.lists (any-within (λ y. same.digest d y.digest) b (items_at same.key p mid.lists)
          (ap (has_digest same.digest d) (sym (cuts.put.lists r.key ∙ cond_true (same.key p r.key) (within b (items_at same.key p mid.lists)) (items_at same.key r.key mid.lists) t)) ∙ r.listed)))
          (λ t. stored-at same r.key d mid.lists
          (ap (has_digest same.digest d) (sym (cuts.put.lists r.key ∙ cond_false (same.key p r.key) (within b (items_at same.key p mid.lists)) (items_at same.key r.key mid.lists) t)) ∙ r.listed))

      pub Stores-cut : Stores same p x (within b cs) old new
      Stores-cut = record {
        put = record {
          lists = λ q. cuts.put.lists q ∙ by_test (same.key p q)
              (λ h. rw h cut-is)
              (λ h. rw h (stores.put.lists q ∙ rw h refl));
          keys = λ q there. by_test (same.key p q)
              (λ h. rw h refl)
              (λ h. rw h (let in_mid : is_some (lookup (same.key q) mid.lists) ≡ true = sym (ap (λ t. t || is_some (lookup (same.key q) mid.lists)) h) ∙ cuts.put.keys q there in
              sym (ap (λ t. t || is_some (lookup (same.key q) old.lists)) h) ∙ stores.put.keys q in_mid));
          stays = λ q there. cuts.put.stays q (stores.put.stays q there);
          distinct = cuts.put.distinct;
        };
        messages = λ d. by_test (is_stored same d new.lists)
            (λ h. rw (cuts.messages d, h) (stores.messages d ∙ rw (was-stored d h) refl))
            (λ h. rw (cuts.messages d, h) refl);
      }

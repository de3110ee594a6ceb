-- How many messages a store has, and for how many digests tickets wait.
use Rattle.std.proofs.Common.{◌≡◌, ℕ, Bool, ◌||◌, List, [], ◌∷◌, length, is_some, refl, sym, ap, ◌∙◌, arith}
use Rattle.std.specs.List.{list_any, IsDistinct}
use Rattle.std.specs.Map.{keys_of}
use Rattle.std.specs.Cmp.{IsEquivalence}
use Rattle.std.proofs.lemmas.Map.Entries.{length-keys_of}
use Rattle.std.proofs.lemmas.Map.Made.{is_some-lookup, length-le_from_is_member}
use Rattle.broadcast_core.specs.Content.{among, first_places}
use Rattle.broadcast_core.specs.Lists.{list}
use Rattle.broadcast_core.specs.Peers.{primary}
use Rattle.broadcast_core.specs.HasContent.{HasContent}
use Rattle.broadcast_core.specs.Setting.{Setting}
use Rattle.broadcast_core.proofs.Distinct.{by_test, list_any-append, among-without_other}
use Rattle.broadcast_core.proofs.Cutting.{IsDistinct-first_places}
use Rattle.broadcast_core.proofs.TakenLaws.{message-if_listed}
use Rattle.broadcast_c.proofs.Lawful.{lawful}
use Rattle.broadcast_c.specs.Storing.{same_bytes}
use Rattle.broadcast_c.specs.Law.{StoreHistory, store_setting, listed_by, cached_digests}
use Rattle.broadcast_c.specs.declared.store.held.Held.{Held}
use Rattle.broadcast_c.specs.declared.store.name.Name.{Name}
use Rattle.broadcast_c.specs.declared.store.Store.{Store}

among-first : {D : Type 0} {same : D → D → Bool} (laws : IsEquivalence same) (x : D) (ds : List D) → among same x (first_places same ds) ≡ among same x ds
among-first laws x [] = refl
among-first {same = same} laws x (d ∷ ds) = by_test (same x d)
    (λ t. rw t refl)
    (λ t. rw t (among-without_other laws d x (first_places same ds) (laws.symm d x ∙ t) ∙ among-first laws x ds))

module _ (own : Name) (deque_size byte_budget : ℕ) (past : StoreHistory) where
  abbrev s : Setting Name Held (List ℕ)
  s = store_setting own deque_size byte_budget

  among-listed : (d : List ℕ) (ps : List Name) → among same_bytes.digest d (listed_by s past ps) ≡ list_any (λ p. among same_bytes.digest d (list s p past)) ps
  among-listed d [] = refl
  among-listed d (p ∷ ps) =
      list_any-append (same_bytes.digest d) (list s p past) (listed_by s past ps) ∙ ap (λ b. among same_bytes.digest d (list s p past) || b) (among-listed d ps)

  pub cached-counted : (st : Store) → HasContent s past st.cache.core → IsDistinct same_bytes.digest (keys_of st.cache.core.cached)
      → length st.cache.core.cached ≡ length (cached_digests s past)
  cached-counted st has distinct =
      let keys : List (List ℕ) = keys_of st.cache.core.cached in
      let listed : List (List ℕ) = listed_by s past (primary s past) in
      let each : (d : List ℕ) → among same_bytes.digest d keys ≡ among same_bytes.digest d (first_places same_bytes.digest listed) = λ d.
      sym (is_some-lookup (same_bytes.digest d) st.cache.core.cached) ∙ ap is_some (has.cached d) ∙ message-if_listed s lawful.key d past
      ∙ sym (among-listed d (primary s past)) ∙ sym (among-first lawful.digest d listed) in
      let most = length-le_from_is_member lawful.digest keys (first_places same_bytes.digest listed) distinct (λ d h. sym (each d) ∙ h) in
      let least = length-le_from_is_member lawful.digest (first_places same_bytes.digest listed) keys (IsDistinct-first_places lawful.digest listed) (λ d h. each d ∙ h) in
      omega (arith, most, least, length-keys_of st.cache.core.cached)

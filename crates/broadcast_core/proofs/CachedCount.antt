-- How many messages are cached.
use Rattle.std.proofs.Common.{◌≡◌, ℕ, ◌*◌, ◌≤◌, ◌||◌, List, [], ◌∷◌, ◌++◌, length, length-append, refl, sym, ap, ◌∙◌, arith}
use Rattle.std.specs.List.{list_any, IsDistinct}
use Rattle.std.specs.Map.{keys_of}
use Rattle.std.specs.Cmp.{IsEquivalence}
use Rattle.std.proofs.lemmas.Map.Entries.{length-keys_of}
use Rattle.std.proofs.lemmas.Map.Made.{is_some-lookup, length-le_from_is_member}
use Rattle.entries.specs.declared.entry.Charged.{Charged}
use Rattle.broadcast_core.specs.Content.{Same, among, items_at, digests_of}
use Rattle.broadcast_core.specs.Stored.{Stored, IsCached}
use Rattle.broadcast_core.proofs.Distinct.{list_any-append}
use Rattle.broadcast_core.proofs.Staying.{length-names}
use Rattle.broadcast_core.proofs.Taking.{stored-listed}

module _ {P D : Type 0} (same : Same P D) (lists : List (P × List (Charged D))) where
  -- the lists of these keys, one after the other
  abbrev listed : List P → List D
  listed [] = []
  listed (p ∷ ps) = digests_of (items_at same.key p lists) ++ listed ps

  length-listed : (size : ℕ) → ((p : P) → length (items_at same.key p lists) ≤ size) → (ps : List P) → length (listed ps) ≤ length ps * size
  length-listed size bounded [] = omega arith
  length-listed size bounded (p ∷ ps) = omega (arith, length-append (digests_of (items_at same.key p lists)) (listed ps), length-names (items_at same.key p lists), bounded p, length-listed size bounded ps)

  among-listed : (d : D) (ps : List P) → among same.digest d (listed ps) ≡ list_any (λ p. among same.digest d (digests_of (items_at same.key p lists))) ps
  among-listed d [] = refl
  among-listed d (p ∷ ps) =
      list_any-append (same.digest d) (digests_of (items_at same.key p lists)) (listed ps) ∙ ap (λ b. among same.digest d (digests_of (items_at same.key p lists)) || b) (among-listed d ps)

-- the cached digests differ, and each is on the list of a primary key
pub length-cached : {P M D : Type 0} {same : Same P D} (key_laws : IsEquivalence same.key) (laws : IsEquivalence same.digest)
    (size budget : ℕ) (primary : List P) (stored : Stored P M D) → IsCached same size budget primary stored → IsDistinct same.digest (keys_of stored.messages)
    → length stored.messages ≤ length primary * size
length-cached {same = same} key_laws laws size budget primary stored core distinct =
    let fewer = length-le_from_is_member laws (keys_of stored.messages) (listed same stored.lists primary) distinct
    (λ d there. among-listed same stored.lists d primary ∙ sym (stored-listed same key_laws size budget primary stored core d) ∙ sym (core.messages d) ∙ is_some-lookup (same.digest d) stored.messages ∙ there) in
    omega (arith, fewer, length-keys_of stored.messages, length-listed same stored.lists size core.bounded primary)

-- The relay of answers, one more at a time.
use Rattle.std.proofs.Common.{◌≡◌, if◌then◌else◌, List, [], ◌∷◌, ◌++◌, sym, ap, ◌∙◌, append-nil, Bool}
use Rattle.std.specs.List.{flat_map, list_any}
use Rattle.std.specs.Cmp.{IsEquivalence}
use Rattle.std.proofs.lemmas.Grind.{flat_map-append}
use Rattle.broadcast_core.specs.Carried.{Carried}
use Rattle.broadcast_core.specs.Content.{first_places}
use Rattle.broadcast_core.specs.declared.event.Answer.{Answer}
use Rattle.broadcast_world.specs.Relay.{same_digest}
use Rattle.broadcast_world.specs.Relayed.{told, relayed}
use Rattle.broadcast_world.proofs.FirstPlaces.{first_places-push}

module _ {M D : Type 0} {same : D → D → Bool} (laws : IsEquivalence same) where
  by_digest : IsEquivalence {K = Carried M D} (same_digest same)
  by_digest = record {
    refl = λ a. laws.refl a.digest;
    symm = λ a b. laws.symm a.digest b.digest;
    congr = λ a b c h. laws.congr a.digest b.digest c.digest h;
  }

  told-push : (rs : List (Answer M D)) (a : Answer M D) (cs : List (Carried M D)) → cs ≡ told a
      → flat_map told (rs ++ a ∷ []) ≡ flat_map told rs ++ cs
  told-push rs a cs h = flat_map-append told rs (a ∷ []) ∙ ap (λ ys. flat_map told rs ++ ys) (append-nil (told a) ∙ sym h)

  -- a message is relayed unless one with its digest is
  pub relayed-push : (rs : List (Answer M D)) (a : Answer M D) (c : Carried M D) → c ∷ [] ≡ told a → relayed same (rs ++ a ∷ [])
      ≡ (if list_any (same_digest same c) (relayed same rs) then relayed same rs else relayed same rs ++ c ∷ [])
  relayed-push rs a c h = ap (first_places (same_digest same)) (told-push rs a (c ∷ []) h) ∙ first_places-push by_digest (flat_map told rs) c

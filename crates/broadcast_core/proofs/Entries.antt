-- Entries of maps, after changes at one key.
use Rattle.std.proofs.Common.{◌≡◌, Bool, true, cond, List, [], ◌∷◌, Option, Some, None, refl, sym, ap}
use Rattle.std.specs.Map.{lookup}
use Rattle.std.specs.Cmp.{IsEquivalence}
use Rattle.std.specs.declared.cmp.Ordering.{Ordering}
use Rattle.std.specs.declared.cmp.Ordering.TheVariants.{Less, Equal, Greater}

pub by_order : {G : Type 0} (r s : Ordering) → s ≡ r → (s ≡ Less → G) → (s ≡ Equal → G) → (s ≡ Greater → G) → G
by_order Less s e l m n = l e
by_order Equal s e l m n = m e
by_order Greater s e l m n = n e

module _ {K X : Type 0} where
  -- tests that agree find the same
  pub lookup-same : (s t : K → Bool) (es : List (K × X)) → ((k : K) → s k ≡ t k) → lookup s es ≡ lookup t es
  lookup-same s t [] h = refl
  lookup-same s t (e ∷ es) h = rw (h e.0) (ap (λ o. cond (t e.0) (Some e.1) o) (lookup-same s t es h))

-- equal keys find the same
pub lookup-equal : {D X : Type 0} {same : D → D → Bool} (laws : IsEquivalence same) (d e : D) (es : List (D × X)) → same d e ≡ true → lookup (same e) es ≡ lookup (same d) es
lookup-equal {same = same} laws d e es h = lookup-same (same e) (same d) es (λ x. sym (laws.congr d e x h))

-- what is not some value is none
pub none_from_not_some : {X : Type 0} (o : Option X) → ((x : X) → o ≡ Some x → ⊥) → o ≡ None
none_from_not_some None h = refl
none_from_not_some (Some x) h = absurd (h x refl)

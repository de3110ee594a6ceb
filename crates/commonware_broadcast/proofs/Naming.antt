-- Digests of more than one list.
use Rattle.std.proofs.Common.{◌≡◌, ◌||◌, Bool, true, false, List, ◌++◌, sym, ap, ◌∙◌}
use Rattle.std.specs.List.{list_any}
use Rattle.broadcast_core.proofs.Distinct.{list_any-append}

-- what is among the first is among both
pub not-among : {D : Type 0} (p : D → Bool) (all first second : List D) → all ≡ first ++ second → list_any p first ≡ true → list_any p all ≡ false → true ≡ false
not-among p all first second is found none =
    sym (ap (λ b. b || list_any p second) found) ∙ sym (list_any-append p first second) ∙ ap (λ xs. list_any p xs) (sym is) ∙ none

-- A cleanup of the waiters of one digest.
use Rattle.std.proofs.Common.{◌≡◌, ℕ, ◌+◌, ◌-◌, ◌^◌, ◌++◌, Bool, true, false, ◌||◌, cond, List, [], ◌∷◌, length, Some, refl, sym, ap, ◌∙◌, subst, arith, inl, inr}
use Rattle.std.specs.Prelude.{unwrap_or, min}
use Rattle.std.specs.List.{list_any, IsDistinct}
use Rattle.std.specs.Option.{option_map}
use Rattle.std.specs.Map.{lookup, set_value, remove_entry, keys_of}
use Rattle.std.specs.Cmp.{IsTotalOrder, eq_by_cmp_equiv}
use Rattle.std.specs.Ordering.{eq_by_cmp}
use Rattle.std.specs.declared.cmp.Ordering.{Ordering}
use Rattle.std.proofs.lemmas.Map.Entries.{sum_by-set_value, sum_by-remove_entry}
use Rattle.broadcast_core.specs.Content.{items_at}
use Rattle.broadcast_core.specs.Waiters.{waiting_in, DropsClosed, DropsClosedIf}
use Rattle.broadcast_core.specs.Counted.{counted}
use Rattle.broadcast_core.proofs.Cleaning.{sum-values, counted_more}
use Rattle.broadcast_core.proofs.Distinct.{list_any-append, or_none}
use Rattle.broadcast_core.proofs.Entries.{lookup-equal}

module _ {W : Type 0} (answers : W → Bool → Type 0) where
  -- by whether the digest is asked
  pub closed-if : (b : Bool) (xs ys zs : List W) → ys ≡ cond b zs xs → (b ≡ true → DropsClosed answers xs zs) → DropsClosedIf b answers xs ys
  closed-if true xs ys zs is h = subst (λ vs. DropsClosed answers xs vs) (sym is) (h refl)
  closed-if false xs ys zs is h = is

module _ {D W : Type 0} (at : D → Bool) where
  -- the list at a digest becomes another
  pub waiting-set : (es : List (D × List W)) (v w : List W) → lookup at es ≡ Some v → waiting_in (set_value at es w) + length v ≡ waiting_in es + length w
  waiting-set es v w h = omega (arith, sum_by-set_value (λ (xs : List W). length xs) at es v w h, sum-values (λ (xs : List W). length xs) es, sum-values (λ (xs : List W). length xs) (set_value at es w))

  -- a list of none leaves
  pub waiting-removed : (es : List (D × List W)) (w : List W) → lookup at es ≡ Some w → length w ≡ 0 → waiting_in (remove_entry at es) ≡ waiting_in es
  waiting-removed es w h none =
      let at_it : unwrap_or (option_map (λ (xs : List W). length xs) (lookup at es)) 0 ≡ length w = ap (λ r. unwrap_or (option_map (λ (xs : List W). length xs) r) 0) h in
      omega (arith, none, at_it, sum_by-remove_entry (λ (xs : List W). length xs) at es, sum-values (λ (xs : List W). length xs) es, sum-values (λ (xs : List W). length xs) (remove_entry at es))

module _ {W : Type 0} (answers : W → Bool → Type 0) where
  -- who is asked twice has answered open the first time
  pub DropsClosed-twice : (xs ys zs : List W) → DropsClosed answers xs ys → DropsClosed answers ys zs → DropsClosed answers xs zs
  DropsClosed-twice [] ys zs h k = subst (λ vs. DropsClosed answers vs zs) h k
  DropsClosed-twice (x ∷ xs) ys zs (inl h) k = inl (h.0, DropsClosed-twice xs ys zs h.1 k)
  DropsClosed-twice (x ∷ xs) ys zs (inr (a, (rest, is, h))) k =
      again (λ tail m. DropsClosed-twice xs rest tail h m) (subst (λ vs. DropsClosed answers vs zs) is k)
    where
      again : ((tail : List W) → DropsClosed answers rest tail → DropsClosed answers xs tail) → DropsClosed answers (x ∷ rest) zs → DropsClosed answers (x ∷ xs) zs
      again more (inl m) = inl (m.0, more zs m.1)
      again more (inr (b, (tail, left, m))) = inr (b, (tail, left, more tail m))

  pub closed-both : (b c : Bool) (xs ys zs : List W) → DropsClosedIf b answers xs ys → DropsClosedIf c answers ys zs → DropsClosedIf (b || c) answers xs zs
  closed-both true true xs ys zs h k = DropsClosed-twice xs ys zs h k
  closed-both true false xs ys zs h k = subst (λ vs. DropsClosed answers xs vs) (sym k) h
  closed-both false true xs ys zs h k = subst (λ vs. DropsClosed answers vs zs) h k
  closed-both false false xs ys zs h k = k ∙ h

module _ {D W : Type 0} {R : D → D → Ordering} (o : IsTotalOrder R) (answers : W → Bool → Type 0) where
  -- the list of a digest has lost those who answered closed
  pub closed-at : (d : D) {v : List W} (w : List W) (es fs : List (D × List W)) → lookup (eq_by_cmp R d) es ≡ Some v → DropsClosed answers v w
      → ((e : D) → items_at (eq_by_cmp R) e fs ≡ cond (eq_by_cmp R d e) w (items_at (eq_by_cmp R) e es))
      → (e : D) → DropsClosedIf (eq_by_cmp R d e) answers (items_at (eq_by_cmp R) e es) (items_at (eq_by_cmp R) e fs)
  closed-at d w es fs was drops now e =
      closed-if answers (eq_by_cmp R d e) (items_at (eq_by_cmp R) e es) (items_at (eq_by_cmp R) e fs) w (now e)
      (λ t. subst (λ xs. DropsClosed answers xs w) (ap (λ r. unwrap_or r []) (sym was ∙ sym (lookup-equal (eq_by_cmp_equiv o) d e es t))) drops)

  -- those who closed have left the lists of the first digests
  pub record Asking (seen : List D) (old now : List (D × List W)) (removed : ℕ) : Type 0 where
    pub lists : (e : D) → DropsClosedIf (list_any (eq_by_cmp R e) seen) answers (items_at (eq_by_cmp R) e old) (items_at (eq_by_cmp R) e now)
    pub gone : ℕ
    pub fewer : waiting_in old ≡ waiting_in now + gone
    pub counts : removed ≡ counted gone
    pub apart : IsDistinct (eq_by_cmp R) (keys_of now)

  pub Asking-start : (es : List (D × List W)) → IsDistinct (eq_by_cmp R) (keys_of es) → Asking [] es es 0
  Asking-start es apart = record { lists = λ e. refl; gone = 0; fewer = omega arith; counts = refl; apart = apart }

  pub Asking-step : (seen : List D) (d : D) {old now : List (D × List W)} (new : List (D × List W)) {removed : ℕ} (n : ℕ) → Asking seen old now removed
      → ((e : D) → DropsClosedIf (eq_by_cmp R d e) answers (items_at (eq_by_cmp R) e now) (items_at (eq_by_cmp R) e new))
      → waiting_in new + n ≡ waiting_in now → IsDistinct (eq_by_cmp R) (keys_of new)
      → Asking (seen ++ d ∷ []) old new (min (removed + n) (2 ^ 64 - 1))
  Asking-step seen d {old} {now} new n so_far drops fewer apart = record {
    lists = λ e. subst (λ b. DropsClosedIf b answers (items_at (eq_by_cmp R) e old) (items_at (eq_by_cmp R) e new))
        (ap (λ b. list_any (eq_by_cmp R e) seen || b) ((eq_by_cmp_equiv o).symm d e ∙ sym (or_none (eq_by_cmp R e d))) ∙ sym (list_any-append (eq_by_cmp R e) seen (d ∷ [])))
        (closed-both answers (list_any (eq_by_cmp R e) seen) (eq_by_cmp R d e) (items_at (eq_by_cmp R) e old) (items_at (eq_by_cmp R) e now) (items_at (eq_by_cmp R) e new) (so_far.lists e) (drops e));
    gone = so_far.gone + n;
    fewer = omega (arith, so_far.fewer, fewer);
    counts = counted_more so_far.gone _ n so_far.counts;
    apart = apart;
  }

module _ {W : Type 0} (answers : W → Bool → Type 0) where
  all-open : (xs : List W) → ((w : W) → answers w false) → DropsClosed answers xs xs
  all-open [] h = refl
  all-open (x ∷ xs) h = inr (h x, (xs, refl, all-open xs h))

  -- those who are not asked may answer open
  pub closed-or-open : (b : Bool) (xs ys : List W) → DropsClosedIf b answers xs ys → (b ≡ false → (w : W) → answers w false) → DropsClosed answers xs ys
  closed-or-open true xs ys h open_if = h
  closed-or-open false xs ys h open_if = subst (λ vs. DropsClosed answers xs vs) (sym h) (all-open xs (open_if refl))

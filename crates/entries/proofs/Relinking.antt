-- What a relinking makes of a chain, and of the others.
use Rattle.std.proofs.Common.{◌≡◌, ◌≢◌, ◌^◌, ◌<◌, ℕ, ◌+◌, ◌-◌, ◌⊎◌, inl, inr, List, [], ◌∷◌, ◌++◌, Option, Some, None, refl, sym, ap, ◌∙◌, arith, length-append}
use Rattle.std.proofs.lemmas.Bool.{cases_eq}
use Rattle.std.proofs.lemmas.List.{append-nil}
use Rattle.entries.specs.declared.entry.Entry.{Entry}
use Rattle.entries.specs.declared.entry.Chain.{Chain}
use Rattle.entries.specs.Linked.{Node, first, final, Misses, pick, IsAt, IsRun, IsLinked, Relinks, with_newer, with_older, as_newest, SamePlaces}
use Rattle.entries.proofs.Runs.{final-append, IsApart-left, IsApart-right, IsApart-without, final-apart, first-apart, IsRun-split, IsRun-join, IsRun-elsewhere, IsRun-older, IsRun-newer}

-- a link leads to a place, or not
pub leads : (at : Option ℕ) (j : ℕ) → (at ≡ Some j) ⊎ (at ≢ Some j)
leads None j = inr (λ same. cc)
leads (Some i) j = elim (cases_eq i j) [ inl same ↦ inl (ap Some same) | inr differs ↦ inr (λ same. differs (cc)) ]

module _ {D : Type 0} where
  pick-final : (i : ℕ) (xs : List (Node D)) (there otherwise : Option ℕ) → pick (final (Some i) xs) there otherwise ≡ there
  pick-final i [] there otherwise = refl
  pick-final i (x ∷ xs) there otherwise = pick-final x.0 xs there otherwise

  -- the newest without a node
  pub newest_without : (xs : List (Node D)) (n : Node D) (ys : List (Node D)) → pick (final None xs) (first (xs ++ n ∷ ys) None) (first ys None) ≡ first (xs ++ ys) None
  newest_without [] n ys = refl
  newest_without (x ∷ xs) n ys = pick-final x.0 xs _ _

  -- the oldest without a node
  pub oldest_without : (xs : List (Node D)) (n : Node D) (ys : List (Node D)) → pick (first ys None) (final None (xs ++ n ∷ ys)) (final None xs) ≡ final None (xs ++ ys)
  oldest_without xs n [] = ap (final None) (sym (append-nil xs))
  oldest_without xs n (y ∷ ys) = final-append None xs (n ∷ y ∷ ys) ∙ sym (final-append None xs (y ∷ ys))

  pick-first : (i : ℕ) (ns : List (Node D)) → pick (final None ns) (final None ns) (Some i) ≡ final (Some i) ns
  pick-first i [] = refl
  pick-first i (n ∷ ns) = pick-final n.0 ns _ _

module _ {D : Type 0} where
  -- the link leads to an entry, if anywhere
  abbrev pub LeadsThere : (ℕ → Option (Entry D)) → Option ℕ → Type 0
  LeadsThere h at = (j : ℕ) → at ≡ Some j → (e : Entry D) × (h j ≡ Some e)

  pub at-there : (h : ℕ → Option (Entry D)) (n : Node D) (before after : Option ℕ) → IsAt h n before after → LeadsThere h (Some n.0)
  at-there h n before after p j same = let here : n.0 ≡ j = cc in (p.entry, ap h (sym here) ∙ p.there)

  pub none-there : (h : ℕ → Option (Entry D)) → LeadsThere h None
  none-there h j same = cc

  pub final-there : (h : ℕ → Option (Entry D)) (before : Option ℕ) (xs : List (Node D)) (after : Option ℕ) → LeadsThere h before → IsRun h before xs after → LeadsThere h (final before xs)
  final-there h before [] after leads p = leads
  final-there h before (x ∷ xs) after leads p = final-there h (Some x.0) xs after (at-there h x _ _ p.0) p.1

  pub first-there : (h : ℕ → Option (Entry D)) (before : Option ℕ) (ys : List (Node D)) (after : Option ℕ) → IsRun h before ys after → LeadsThere h (first ys None)
  first-there h before [] after p = none-there h
  first-there h before (y ∷ ys) after p = at-there h y _ _ p.0

  module _ {h k : ℕ → Option (Entry D)} {at : Option ℕ} {change : Entry D → Entry D} (relinks : Relinks h k at change) where
    -- a change of an entry makes no other
    pub Relinks-places : LeadsThere h at → SamePlaces h k
    Relinks-places there_at j e there = elim (leads at j) [
      | inl same ↦ there_at j same
      | inr differs ↦ (e, sym (relinks.others j differs) ∙ there)
    ]

    -- what leads to an entry does so after a change
    pub Relinks-there : {to : Option ℕ} → LeadsThere h to → LeadsThere k to
    Relinks-there there_to j same = let p = there_to j same in elim (leads at j) [
      | inl here ↦ (change p.0, relinks.changed j p.0 here p.1)
      | inr differs ↦ (p.0, relinks.others j differs ∙ p.1)
    ]

  module _ {h k l : ℕ → Option (Entry D)} {chain next : Chain} where
    -- a node taken out of a chain
    pub taken : (xs : List (Node D)) (n : Node D) (ys : List (Node D)) → IsLinked h chain (xs ++ n ∷ ys)
        → Relinks h k (final None xs) (with_older (first ys None)) → Relinks k l (first ys None) (with_newer (final None xs))
        → next.newest ≡ pick (final None xs) chain.newest (first ys None) → next.oldest ≡ pick (first ys None) chain.oldest (final None xs) → next.len ≡ chain.len - 1
        → IsLinked l next (xs ++ ys)
    taken xs n ys p one two newest oldest len =
        let parts = IsRun-split h None xs (n ∷ ys) None p.run in
        let apart = IsApart-without xs n ys p.apart in
        let later = IsApart-right xs (n ∷ ys) p.apart in
        let front : IsRun k None xs (first ys None) = IsRun-older h k None xs _ (first ys None) one (IsApart-left xs (n ∷ ys) p.apart) parts.0 in
        let back : IsRun k (Some n.0) ys None = IsRun-elsewhere h k (final None xs) (Some n.0) ys None one.others (final-apart None xs ys (none_misses ys) apart) parts.1.1 in
        record {
          run = IsRun-join l None xs ys None
              (IsRun-elsewhere k l (first ys None) None xs _ two.others (first-apart xs ys apart) front)
              (IsRun-newer k l (Some n.0) (final None xs) ys None two later.1 back);
          apart = apart;
          newest = newest ∙ ap (λ (o : Option ℕ). pick (final None xs) o (first ys None)) p.newest ∙ newest_without xs n ys;
          oldest = oldest ∙ ap (λ (o : Option ℕ). pick (first ys None) o (final None xs)) p.oldest ∙ oldest_without xs n ys;
          len = omega (arith, p.len, len, length-append xs (n ∷ ys), length-append xs ys);
        }
      where
        none_misses : (ys : List (Node D)) → Misses None ys
        none_misses [] = tt
        none_misses (y ∷ ys) = (λ same. cc, none_misses ys)

    -- a node put in front of a chain
    pub put_first : {place : ℕ} {d : D} {e : Entry D} {ns : List (Node D)} → IsLinked h chain ns → Misses (Some place) ns
        → h place ≡ Some e → place + 2 < 2 ^ 32
        → Relinks h k (Some place) (as_newest d (first ns None)) → Relinks k l (first ns None) (with_newer (Some place))
        → next.newest ≡ Some place → next.oldest ≡ pick (final None ns) (final None ns) (Some place) → next.len ≡ chain.len + 1
        → IsLinked l next ((place, d) ∷ ns)
    put_first {place = place} {d = d} {e = e} {ns = ns} p misses there fits one two newest oldest len =
        let back : IsRun k None ns None = IsRun-elsewhere h k (Some place) None ns None one.others misses p.run in
        let here = one.changed place e refl there in
        record {
          run = (
            record {
              entry = as_newest d (first ns None) e;
              there = two.others place (first_misses ns misses) ∙ here;
              fits = fits;
              digest = refl;
              newer = refl;
              older = refl;
            },
            IsRun-newer k l None (Some place) ns None two p.apart back,
          );
          apart = (misses, p.apart);
          newest = newest;
          oldest = oldest ∙ pick-first place ns;
          len = omega (arith, p.len, len);
        }
      where
        first_misses : (ns : List (Node D)) → Misses (Some place) ns → first ns None ≢ Some place
        first_misses [] misses = λ same. cc
        first_misses (n ∷ ns) misses = λ same. misses.0 (sym same)

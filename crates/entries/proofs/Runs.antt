-- Runs of nodes, and what a changed link makes of them.
use Rattle.std.proofs.Common.{◌≡◌, ◌≢◌, ℕ, List, [], ◌∷◌, ◌++◌, length, Option, Some, None, refl, sym, ◌∙◌}
use Rattle.entries.specs.declared.entry.Entry.{Entry}
use Rattle.entries.specs.Linked.{Node, first, final, Misses, IsApart, IsAt, IsRun, walk, Relinks, with_newer, with_older}

module _ {D : Type 0} where
  pub first-append : (xs ys : List (Node D)) (after : Option ℕ) → first (xs ++ ys) after ≡ first xs (first ys after)
  first-append [] ys after = refl
  first-append (x ∷ xs) ys after = refl

  pub final-append : (before : Option ℕ) (xs ys : List (Node D)) → final before (xs ++ ys) ≡ final (final before xs) ys
  final-append before [] ys = refl
  final-append before (x ∷ xs) ys = final-append (Some x.0) xs ys

  -- the last of some nodes is another place than those that miss them all
  pub final-misses : (at : Option ℕ) (before : Option ℕ) (xs : List (Node D)) → before ≢ at → Misses at xs → final before xs ≢ at
  final-misses at before [] differs misses = differs
  final-misses at before (x ∷ xs) differs misses = final-misses at (Some x.0) xs (λ same. misses.0 (sym same)) misses.1

  -- a place is in no other part of what is apart
  pub Misses-append : (at : Option ℕ) (xs ys : List (Node D)) → Misses at xs → Misses at ys → Misses at (xs ++ ys)
  Misses-append at [] ys p q = q
  Misses-append at (x ∷ xs) ys p q = (p.0, Misses-append at xs ys p.1 q)

  pub Misses-left : (at : Option ℕ) (xs ys : List (Node D)) → Misses at (xs ++ ys) → Misses at xs
  Misses-left at [] ys p = tt
  Misses-left at (x ∷ xs) ys p = (p.0, Misses-left at xs ys p.1)

  pub Misses-right : (at : Option ℕ) (xs ys : List (Node D)) → Misses at (xs ++ ys) → Misses at ys
  Misses-right at [] ys p = p
  Misses-right at (x ∷ xs) ys p = Misses-right at xs ys p.1

  pub IsApart-left : (xs ys : List (Node D)) → IsApart (xs ++ ys) → IsApart xs
  IsApart-left [] ys p = tt
  IsApart-left (x ∷ xs) ys p = (Misses-left _ xs ys p.0, IsApart-left xs ys p.1)

  pub IsApart-right : (xs ys : List (Node D)) → IsApart (xs ++ ys) → IsApart ys
  IsApart-right [] ys p = p
  IsApart-right (x ∷ xs) ys p = IsApart-right xs ys p.1

  -- a node taken out of what is apart
  pub IsApart-without : (xs : List (Node D)) (n : Node D) (ys : List (Node D)) → IsApart (xs ++ n ∷ ys) → IsApart (xs ++ ys)
  IsApart-without [] n ys p = p.1
  IsApart-without (x ∷ xs) n ys p =
      (Misses-append _ xs ys (Misses-left _ xs (n ∷ ys) p.0) (Misses-right _ xs (n ∷ ys) p.0).1, IsApart-without xs n ys p.1)

  -- the last of xs misses ys
  pub final-apart : (before : Option ℕ) (xs ys : List (Node D)) → Misses before ys → IsApart (xs ++ ys) → Misses (final before xs) ys
  final-apart before [] ys misses apart = misses
  final-apart before (x ∷ xs) ys misses apart = final-apart (Some x.0) xs ys (Misses-right _ xs ys apart.0) apart.1

  -- the first of ys misses xs
  pub first-apart : (xs ys : List (Node D)) → IsApart (xs ++ ys) → Misses (first ys None) xs
  first-apart [] ys apart = tt
  first-apart (x ∷ xs) ys apart = (away ys (Misses-right _ xs ys apart.0), first-apart xs ys apart.1)
    where
      away : (ys : List (Node D)) → Misses (Some x.0) ys → first ys None ≢ Some x.0
      away [] p = λ same. cc
      away (y ∷ ys) p = λ same. p.0 (sym same)

  -- the taken node misses the rest
  pub Misses-taken : (xs : List (Node D)) (n : Node D) (ys : List (Node D)) → IsApart (xs ++ n ∷ ys) → Misses (Some n.0) (xs ++ ys)
  Misses-taken [] n ys p = p.0
  Misses-taken (x ∷ xs) n ys p =
      let apart : Misses (Some x.0) (n ∷ ys) = Misses-right _ xs (n ∷ ys) p.0 in
      (λ same. apart.0 (sym same), Misses-taken xs n ys p.1)

module _ {D : Type 0} where
  pub IsAt-along : (h k : ℕ → Option (Entry D)) (n : Node D) (newer older : Option ℕ) → k n.0 ≡ h n.0 → IsAt h n newer older → IsAt k n newer older
  IsAt-along h k n newer older same p = record {
    entry = p.entry;
    there = same ∙ p.there;
    fits = p.fits;
    digest = p.digest;
    newer = p.newer;
    older = p.older;
  }

  pub IsRun-split : (h : ℕ → Option (Entry D)) (before : Option ℕ) (xs ys : List (Node D)) (after : Option ℕ) → IsRun h before (xs ++ ys) after → IsRun h before xs (first ys after) × IsRun h (final before xs) ys after
  IsRun-split h before [] ys after p = (tt, p)
  IsRun-split h before (x ∷ xs) ys after p =
      let rest = IsRun-split h (Some x.0) xs ys after p.1 in
      ((rw (first-append xs ys after) at p.0, rest.0), rest.1)

  pub IsRun-join : (h : ℕ → Option (Entry D)) (before : Option ℕ) (xs ys : List (Node D)) (after : Option ℕ) → IsRun h before xs (first ys after) → IsRun h (final before xs) ys after → IsRun h before (xs ++ ys) after
  IsRun-join h before [] ys after p q = q
  IsRun-join h before (x ∷ xs) ys after p q = (rw (first-append xs ys after) p.0, IsRun-join h (Some x.0) xs ys after p.1 q)

  -- a change elsewhere keeps a run
  pub IsRun-elsewhere : (h k : ℕ → Option (Entry D)) (at before : Option ℕ) (ns : List (Node D)) (after : Option ℕ) → ((j : ℕ) → at ≢ Some j → k j ≡ h j) → Misses at ns → IsRun h before ns after → IsRun k before ns after
  IsRun-elsewhere h k at before [] after others misses p = tt
  IsRun-elsewhere h k at before (n ∷ ns) after others misses p =
      (IsAt-along h k n _ _ (others n.0 misses.0) p.0, IsRun-elsewhere h k at (Some n.0) ns after others misses.1 p.1)

  -- the last node of a run gets another older link
  pub IsRun-older : (h k : ℕ → Option (Entry D)) (before : Option ℕ) (xs : List (Node D)) (after next : Option ℕ) → Relinks h k (final None xs) (with_older next) → IsApart xs → IsRun h before xs after → IsRun k before xs next
  IsRun-older h k before [] after next relinks apart p = tt
  IsRun-older h k before (x ∷ []) after next relinks apart p = (
    record {
      entry = with_older next p.0.entry;
      there = relinks.changed x.0 p.0.entry refl p.0.there;
      fits = p.0.fits;
      digest = p.0.digest;
      newer = p.0.newer;
      older = refl;
    },
    tt,
  )
  IsRun-older h k before (x ∷ y ∷ ys) after next relinks apart p =
      let away = final-misses (Some x.0) (Some y.0) ys (λ same. apart.0.0 (sym same)) apart.0.1 in
      (IsAt-along h k x _ _ (relinks.others x.0 away) p.0, IsRun-older h k (Some x.0) (y ∷ ys) after next relinks apart.1 p.1)

  -- the first node of a run gets another newer link
  pub IsRun-newer : (h k : ℕ → Option (Entry D)) (before next : Option ℕ) (ys : List (Node D)) (after : Option ℕ) → Relinks h k (first ys None) (with_newer next) → IsApart ys → IsRun h before ys after → IsRun k next ys after
  IsRun-newer h k before next [] after relinks apart p = tt
  IsRun-newer h k before next (y ∷ ys) after relinks apart p = (
    record {
      entry = with_newer next p.0.entry;
      there = relinks.changed y.0 p.0.entry refl p.0.there;
      fits = p.0.fits;
      digest = p.0.digest;
      newer = refl;
      older = p.0.older;
    },
    IsRun-elsewhere h k (Some y.0) (Some y.0) ys after relinks.others apart.0 p.1,
  )

  -- what a chain's nodes are, by a walk
  pub walk-run : (h : ℕ → Option (Entry D)) (before : Option ℕ) (ns : List (Node D)) → IsRun h before ns None → walk h (length ns) (first ns None) ≡ ns
  walk-run h before [] p = refl
  walk-run h before (n ∷ ns) p =
      rw (p.0.there, p.0.digest, p.0.older, walk-run h (Some n.0) ns p.1)

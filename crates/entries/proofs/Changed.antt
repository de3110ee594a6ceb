-- What a change of one bucket, or of the ordered map, is of all.
use Rattle.std.proofs.Common.{Bool, true, false, cond, ◌≡◌, ℕ, zero, suc, ◌+◌, ◌<◌, List, [], ◌∷◌, ◌++◌, length, Option, Some, None, refl, sym, ap, ◌∙◌, subst, arith, not, length-set}
use Rattle.std.specs.Prelude.{is_some, slice_index_or, slice_set, nat_eq}
use Rattle.std.specs.Cmp.{IsTotalOrder}
use Rattle.std.specs.List.{IsDistinct, filter}
use Rattle.std.specs.List.Sorted.{IsStrictlySortedBy}
use Rattle.std.specs.Map.{keys_of, remove_entry}
use Rattle.std.specs.BTreeMap.{insert_entry}
use Rattle.std.specs.Ordering.{eq_by_cmp, is_eq}
use Rattle.std.specs.declared.cmp.Ordering.{Ordering}
use Rattle.std.specs.declared.cmp.Ordering.TheVariants.{Equal}
use Rattle.std.proofs.lemmas.Bool.Decides.{nat_tests}
use Rattle.std.proofs.lemmas.Map.Keys.{IsDistinct-from_sorted}
use Rattle.entries.specs.Parts.{gathered, entry_of, IsBucket, AreBucketsFrom}
use Rattle.entries.proofs.Gathered.{either, is_equal, flips, found-same, found-inserted, found-removed, found-pushed, found-filtered, distinct-filtered, distinct-pushed, sorted-inserted, sorted-removed, sorted-gathered, one-list, elsewhere, found-gathered}

-- neither is there, if the first of two is not
pub neither : {X : Type 0} (a b : Option X) → either a b ≡ None → (a ≡ None) × (b ≡ None)
neither None b none = (refl, none)
neither (Some x) b none = cc

both-there : {X : Type 0} (b : Bool) (o : Option X) → is_some (cond b o None) ≡ true → is_some o ≡ true
both-there true o full = full
both-there false o full = cc

passes-there : {X : Type 0} (b : Bool) (o : Option X) → is_some (cond b o None) ≡ true → b ≡ true
passes-there true o full = refl
passes-there false o full = cc

module _ {X : Type 0} where
  at-here : (xs : List (List X)) (i : ℕ) (x : List X) → i < length xs → slice_index_or (slice_set xs i x) i [] ≡ x
  at-here [] i x there = absurd (omega arith)
  at-here (y ∷ xs) zero x there = refl
  at-here (y ∷ xs) (suc i) x there = at-here xs i x (omega arith)

  at-other : (xs : List (List X)) (i j : ℕ) (x : List X) → (j ≡ i → ⊥) → slice_index_or (slice_set xs i x) j [] ≡ slice_index_or xs j []
  at-other [] i j x other = refl
  at-other (y ∷ xs) zero zero x other = absurd (other refl)
  at-other (y ∷ xs) zero (suc j) x other = refl
  at-other (y ∷ xs) (suc i) zero x other = refl
  at-other (y ∷ xs) (suc i) (suc j) x other = at-other xs i j x (λ is. other (ap suc is))

  at-end : (xs : List (List X)) (x : List X) → slice_index_or (xs ++ x ∷ []) (length xs) [] ≡ x
  at-end [] x = refl
  at-end (y ∷ xs) x = at-end xs x

  at-front : (xs : List (List X)) (j : ℕ) (x : List X) → (j ≡ length xs → ⊥) → slice_index_or (xs ++ x ∷ []) j [] ≡ slice_index_or xs j []
  at-front [] zero x other = absurd (other refl)
  at-front [] (suc j) x other = refl
  at-front (y ∷ xs) zero x other = refl
  at-front (y ∷ xs) (suc j) x other = at-front xs j x (λ is. other (ap suc is))

module _ {K V : Type 0} {R : K → K → Ordering} {place : K → ℕ} {more : List (K × V)} where
  pub no-keys : (n : ℕ) → IsBucket R place more n []
  unfolding IsDistinct
  no-keys n = record { distinct = tt; placed = λ k full. cc; apart = λ k full. cc }

  pub bucket-at : (n i : ℕ) (buckets : List (List (K × V))) → AreBucketsFrom R place more n buckets → IsBucket R place more (n + i) (slice_index_or buckets i [])
  bucket-at n i [] are = no-keys (n + i)
  bucket-at n zero (b ∷ buckets) are = subst (λ m. IsBucket R place more m b) (omega arith) are.0
  bucket-at n (suc i) (b ∷ buckets) are = subst (λ m. IsBucket R place more m (slice_index_or buckets i [])) (omega arith) (bucket-at (suc n) i buckets are.1)

  pub buckets-set : (n i : ℕ) (buckets : List (List (K × V))) (now : List (K × V)) → IsBucket R place more (n + i) now → AreBucketsFrom R place more n buckets → AreBucketsFrom R place more n (slice_set buckets i now)
  buckets-set n i [] now is are = tt
  buckets-set n zero (b ∷ buckets) now is are = (subst (λ m. IsBucket R place more m now) (omega arith) is, are.1)
  buckets-set n (suc i) (b ∷ buckets) now is are = (are.0, buckets-set (suc n) i buckets now (subst (λ m. IsBucket R place more m now) (omega arith) is) are.1)

-- buckets stay so by another place or list, if each does
buckets-mapped : {K V : Type 0} {R : K → K → Ordering} {place now : K → ℕ} {more others : List (K × V)} (n : ℕ) (buckets : List (List (K × V)))
    → ((i : ℕ) → IsBucket R place more (n + i) (slice_index_or buckets i []) → IsBucket R now others (n + i) (slice_index_or buckets i []))
    → AreBucketsFrom R place more n buckets → AreBucketsFrom R now others n buckets
buckets-mapped n [] stays are = tt
buckets-mapped {R = R} {place = place} {now = now} {more = more} {others = others} n (b ∷ buckets) stays are =
    let first = stays 0 (subst (λ m. IsBucket R place more m b) (omega arith) are.0) in (
      subst (λ m. IsBucket R now others m b) (omega arith) first,
      buckets-mapped (suc n) buckets (λ i is.
          subst (λ m. IsBucket R now others m (slice_index_or buckets i [])) (omega arith) (stays (suc i) (subst (λ m. IsBucket R place more m (slice_index_or buckets i [])) (omega arith) is))) are.1,
    )

buckets-end : {K V : Type 0} {R : K → K → Ordering} {place : K → ℕ} {more : List (K × V)} (n : ℕ) (buckets : List (List (K × V))) (last : List (K × V))
    → AreBucketsFrom R place more n buckets → IsBucket R place more (n + length buckets) last → AreBucketsFrom R place more n (buckets ++ last ∷ [])
buckets-end {R = R} {place = place} {more = more} n [] last are is = (subst (λ m. IsBucket R place more m last) (omega arith) is, tt)
buckets-end {R = R} {place = place} {more = more} n (b ∷ buckets) last are is = (are.0, buckets-end (suc n) buckets last are.1 (subst (λ m. IsBucket R place more m last) (omega arith) is))

module _ {K V : Type 0} {R : K → K → Ordering} (o : IsTotalOrder R) (place : K → ℕ) (alike : (x y : K) → R x y ≡ Equal → place x ≡ place y)
    (more : List (K × V)) (ordered : IsStrictlySortedBy R (keys_of more)) (buckets : List (List (K × V))) (are : AreBucketsFrom R place more 0 buckets) where
  is-own : (q : K) → IsBucket R place more (place q) (slice_index_or buckets (place q) [])
  is-own q = subst (λ m. IsBucket R place more m (slice_index_or buckets (place q) [])) (omega arith) (bucket-at 0 (place q) buckets are)

  sorted : IsStrictlySortedBy R (keys_of (gathered R more buckets))
  sorted = sorted-gathered o more buckets ordered

  pub found : (q : K) → entry_of R q (gathered R more buckets) ≡ either (entry_of R q (slice_index_or buckets (place q) [])) (entry_of R q more)
  found q = found-gathered o place alike q more buckets are

  -- what is found after a change of one bucket
  after-set : (i : ℕ) (b : List (K × V)) (f : K → Option (K × V)) → i < length buckets → AreBucketsFrom R place more 0 (slice_set buckets i b)
      → ((q : K) → place q ≡ i → either (entry_of R q b) (entry_of R q more) ≡ f q)
      → ((q : K) → (place q ≡ i → ⊥) → either (entry_of R q (slice_index_or buckets (place q) [])) (entry_of R q more) ≡ f q)
      → (q : K) → entry_of R q (gathered R more (slice_set buckets i b)) ≡ f q
  after-set i b f there now here_is other_is q = found-gathered o place alike q more (slice_set buckets i b) now ∙ at (nat_eq (place q) i) refl
    where
      at : (c : Bool) → nat_eq (place q) i ≡ c → either (entry_of R q (slice_index_or (slice_set buckets i b) (place q) [])) (entry_of R q more) ≡ f q
      at true is =
          let one : place q ≡ i = grind (arith, nat_tests) in
          ap (λ n. either (entry_of R q (slice_index_or (slice_set buckets i b) n [])) (entry_of R q more)) one
          ∙ ap (λ l. either (entry_of R q l) (entry_of R q more)) (at-here buckets i b there) ∙ here_is q one
      at false is =
          let other : place q ≡ i → ⊥ = λ one. absurd (grind (arith, nat_tests)) in
          ap (λ l. either (entry_of R q l) (entry_of R q more)) (at-other buckets i (place q) b other) ∙ other_is q other

  module _ (k : K) where
    apart-place : (q : K) → (place q ≡ place k → ⊥) → eq_by_cmp R q k ≡ false
    apart-place q other = at (eq_by_cmp R q k) refl
      where
        at : (b : Bool) → eq_by_cmp R q k ≡ b → b ≡ false
        at false is = refl
        at true is = absurd (other (alike q k (is_equal (R q k) is)))

    own-same : (q : K) → eq_by_cmp R q k ≡ true → entry_of R q (slice_index_or buckets (place k) []) ≡ entry_of R k (slice_index_or buckets (place k) [])
    own-same q is = found-same o q k (slice_index_or buckets (place k) []) is

    -- a new key is put into its bucket
    module _ (v : V) (none : entry_of R k (gathered R more buckets) ≡ None) (there : place k < length buckets) where
      parts-none : (entry_of R k (slice_index_or buckets (place k) []) ≡ None) × (entry_of R k more ≡ None)
      parts-none = neither (entry_of R k (slice_index_or buckets (place k) [])) (entry_of R k more) (sym (found k) ∙ none)

      found_pushed : (q : K) → entry_of R q (slice_index_or buckets (place k) [] ++ (k, v) ∷ []) ≡ cond (eq_by_cmp R q k) (Some (k, v)) (entry_of R q (slice_index_or buckets (place k) []))
      found_pushed q = found-pushed o q k v (slice_index_or buckets (place k) []) parts-none.0

      pushed-is : IsBucket R place more (place k) (slice_index_or buckets (place k) [] ++ (k, v) ∷ [])
      pushed-is = record {
        distinct = distinct-pushed o k v (slice_index_or buckets (place k) []) parts-none.0 (is-own k).distinct;
        placed = λ q full. placed q (eq_by_cmp R q k) refl (ap is_some (sym (found_pushed q)) ∙ full);
        apart = λ q full. apart q (eq_by_cmp R q k) refl (ap is_some (sym (found_pushed q)) ∙ full);
      }
        where
          placed : (q : K) (b : Bool) → eq_by_cmp R q k ≡ b → is_some (cond b (Some (k, v)) (entry_of R q (slice_index_or buckets (place k) []))) ≡ true → place q ≡ place k
          placed q true is full = alike q k (is_equal (R q k) is)
          placed q false is full = (is-own k).placed q full

          apart : (q : K) (b : Bool) → eq_by_cmp R q k ≡ b → is_some (cond b (Some (k, v)) (entry_of R q (slice_index_or buckets (place k) []))) ≡ true → entry_of R q more ≡ None
          apart q true is full = found-same o q k more is ∙ parts-none.1
          apart q false is full = (is-own k).apart q full

      pub pushed-are : AreBucketsFrom R place more 0 (slice_set buckets (place k) (slice_index_or buckets (place k) [] ++ (k, v) ∷ []))
      pushed-are = buckets-set 0 (place k) buckets (slice_index_or buckets (place k) [] ++ (k, v) ∷ []) (subst (λ m. IsBucket R place more m (slice_index_or buckets (place k) [] ++ (k, v) ∷ [])) (omega arith) pushed-is) are

      pub gathered-pushed : gathered R more (slice_set buckets (place k) (slice_index_or buckets (place k) [] ++ (k, v) ∷ [])) ≡ insert_entry R (gathered R more buckets) k v
      gathered-pushed = one-list o (gathered R more (slice_set buckets (place k) (slice_index_or buckets (place k) [] ++ (k, v) ∷ []))) (insert_entry R (gathered R more buckets) k v)
          (sorted-gathered o more (slice_set buckets (place k) (slice_index_or buckets (place k) [] ++ (k, v) ∷ [])) ordered) (sorted-inserted o k v (gathered R more buckets) sorted)
          (after-set (place k) (slice_index_or buckets (place k) [] ++ (k, v) ∷ []) (λ q. entry_of R q (insert_entry R (gathered R more buckets) k v)) there pushed-are here_is other_is)
        where
          both : (q : K) (b : Bool) → either (cond b (Some (k, v)) (entry_of R q (slice_index_or buckets (place k) []))) (entry_of R q more)
              ≡ cond b (Some (k, v)) (either (entry_of R q (slice_index_or buckets (place k) [])) (entry_of R q more))
          both q true = refl
          both q false = refl

          here_is : (q : K) → place q ≡ place k → either (entry_of R q (slice_index_or buckets (place k) [] ++ (k, v) ∷ [])) (entry_of R q more) ≡ entry_of R q (insert_entry R (gathered R more buckets) k v)
          here_is q is = ap (λ l. either l (entry_of R q more)) (found_pushed q) ∙ both q (eq_by_cmp R q k)
              ∙ ap (λ n. cond (eq_by_cmp R q k) (Some (k, v)) (either (entry_of R q (slice_index_or buckets n [])) (entry_of R q more))) (sym is)
              ∙ ap (λ l. cond (eq_by_cmp R q k) (Some (k, v)) l) (sym (found q)) ∙ sym (found-inserted o q k v (gathered R more buckets) none)

          other_is : (q : K) → (place q ≡ place k → ⊥) → either (entry_of R q (slice_index_or buckets (place q) [])) (entry_of R q more) ≡ entry_of R q (insert_entry R (gathered R more buckets) k v)
          other_is q other = sym (found q) ∙ sym (found-inserted o q k v (gathered R more buckets) none ∙ ap (λ b. cond b (Some (k, v)) (entry_of R q (gathered R more buckets))) (apart-place q other))

    -- a new key is put into the ordered map
    module _ (v : V) (none : entry_of R k (gathered R more buckets) ≡ None) where
      none-both : (entry_of R k (slice_index_or buckets (place k) []) ≡ None) × (entry_of R k more ≡ None)
      none-both = neither (entry_of R k (slice_index_or buckets (place k) [])) (entry_of R k more) (sym (found k) ∙ none)

      pub spilled-are : AreBucketsFrom R place (insert_entry R more k v) 0 buckets
      spilled-are = buckets-mapped 0 buckets (λ i is. record { distinct = is.distinct; placed = is.placed; apart = λ q full. apart i is q (eq_by_cmp R q k) refl full }) are
        where
          nowhere : (i : ℕ) → IsBucket R place more (0 + i) (slice_index_or buckets i []) → entry_of R k (slice_index_or buckets i []) ≡ None
          nowhere i is = at (nat_eq (place k) i) refl
            where
              at : (b : Bool) → nat_eq (place k) i ≡ b → entry_of R k (slice_index_or buckets i []) ≡ None
              at true one = let at_it : place k ≡ i = grind (arith, nat_tests) in ap (λ n. entry_of R k (slice_index_or buckets n [])) (sym at_it) ∙ none-both.0
              at false one = elsewhere o place alike (0 + i) (slice_index_or buckets i []) is k (λ at_it. let at_i : place k ≡ i = omega arith in absurd (grind (arith, nat_tests)))

          apart : (i : ℕ) → IsBucket R place more (0 + i) (slice_index_or buckets i []) → (q : K) (b : Bool) → eq_by_cmp R q k ≡ b → is_some (entry_of R q (slice_index_or buckets i [])) ≡ true
              → entry_of R q (insert_entry R more k v) ≡ None
          apart i is q true one full = let no = sym full ∙ ap is_some (found-same o q k (slice_index_or buckets i []) one ∙ nowhere i is) in cc
          apart i is q false one full = found-inserted o q k v more none-both.1 ∙ ap (λ b. cond b (Some (k, v)) (entry_of R q more)) one ∙ is.apart q full

      pub gathered-spilled : gathered R (insert_entry R more k v) buckets ≡ insert_entry R (gathered R more buckets) k v
      gathered-spilled = one-list o (gathered R (insert_entry R more k v) buckets) (insert_entry R (gathered R more buckets) k v)
          (sorted-gathered o (insert_entry R more k v) buckets (sorted-inserted o k v more ordered)) (sorted-inserted o k v (gathered R more buckets) sorted)
          (λ q. found-gathered o place alike q (insert_entry R more k v) buckets spilled-are
          ∙ ap (λ l. either (entry_of R q (slice_index_or buckets (place q) [])) l) (found-inserted o q k v more none-both.1)
          ∙ both q (eq_by_cmp R q k) refl
          ∙ ap (λ l. cond (eq_by_cmp R q k) (Some (k, v)) l) (sym (found q)) ∙ sym (found-inserted o q k v (gathered R more buckets) none))
        where
          both : (q : K) (b : Bool) → eq_by_cmp R q k ≡ b → either (entry_of R q (slice_index_or buckets (place q) [])) (cond b (Some (k, v)) (entry_of R q more))
              ≡ cond b (Some (k, v)) (either (entry_of R q (slice_index_or buckets (place q) [])) (entry_of R q more))
          both q true is =
              let at_it : place q ≡ place k = alike q k (is_equal (R q k) is) in
              ap (λ l. either l (Some (k, v))) (ap (λ n. entry_of R q (slice_index_or buckets n [])) at_it ∙ own-same q is ∙ none-both.0)
          both q false is = refl

    -- a key is taken out of its bucket
    module _ (full : is_some (entry_of R k (slice_index_or buckets (place k) [])) ≡ true) (there : place k < length buckets) where
      found_left : (q : K) → entry_of R q (filter (λ e. not (eq_by_cmp R k e.0)) (slice_index_or buckets (place k) [])) ≡ cond (not (eq_by_cmp R k q)) (entry_of R q (slice_index_or buckets (place k) [])) None
      found_left q = found-filtered o (λ x. not (eq_by_cmp R k x)) (λ x y equal. ap not (flips o k x ∙ ap is_eq (o.congr x y k equal) ∙ flips o y k)) q (slice_index_or buckets (place k) [])

      left-is : IsBucket R place more (place k) (filter (λ e. not (eq_by_cmp R k e.0)) (slice_index_or buckets (place k) []))
      left-is = record {
        distinct = distinct-filtered o (λ e. not (eq_by_cmp R k e.0)) (slice_index_or buckets (place k) []) (is-own k).distinct;
        placed = λ q there_is. (is-own k).placed q (both-there (not (eq_by_cmp R k q)) (entry_of R q (slice_index_or buckets (place k) [])) (ap is_some (sym (found_left q)) ∙ there_is));
        apart = λ q there_is. (is-own k).apart q (both-there (not (eq_by_cmp R k q)) (entry_of R q (slice_index_or buckets (place k) [])) (ap is_some (sym (found_left q)) ∙ there_is));
      }

      pub left-are : AreBucketsFrom R place more 0 (slice_set buckets (place k) (filter (λ e. not (eq_by_cmp R k e.0)) (slice_index_or buckets (place k) [])))
      left-are = buckets-set 0 (place k) buckets (filter (λ e. not (eq_by_cmp R k e.0)) (slice_index_or buckets (place k) []))
          (subst (λ m. IsBucket R place more m (filter (λ e. not (eq_by_cmp R k e.0)) (slice_index_or buckets (place k) []))) (omega arith) left-is) are

      distinct-all : IsDistinct (eq_by_cmp R) (keys_of (gathered R more buckets))
      distinct-all = IsDistinct-from_sorted R (keys_of (gathered R more buckets)) sorted

      pub gathered-left : gathered R more (slice_set buckets (place k) (filter (λ e. not (eq_by_cmp R k e.0)) (slice_index_or buckets (place k) []))) ≡ remove_entry (eq_by_cmp R k) (gathered R more buckets)
      gathered-left = one-list o (gathered R more (slice_set buckets (place k) (filter (λ e. not (eq_by_cmp R k e.0)) (slice_index_or buckets (place k) [])))) (remove_entry (eq_by_cmp R k) (gathered R more buckets))
          (sorted-gathered o more (slice_set buckets (place k) (filter (λ e. not (eq_by_cmp R k e.0)) (slice_index_or buckets (place k) []))) ordered) (sorted-removed o k (gathered R more buckets) sorted)
          (after-set (place k) (filter (λ e. not (eq_by_cmp R k e.0)) (slice_index_or buckets (place k) [])) (λ q. entry_of R q (remove_entry (eq_by_cmp R k) (gathered R more buckets))) there left-are here_is other_is)
        where
          both : (q : K) (b : Bool) → eq_by_cmp R q k ≡ b → either (cond (not b) (entry_of R q (slice_index_or buckets (place k) [])) None) (entry_of R q more)
              ≡ cond b None (either (entry_of R q (slice_index_or buckets (place k) [])) (entry_of R q more))
          both q true is = found-same o q k more is ∙ (is-own k).apart k full
          both q false is = refl

          here_is : (q : K) → place q ≡ place k → either (entry_of R q (filter (λ e. not (eq_by_cmp R k e.0)) (slice_index_or buckets (place k) []))) (entry_of R q more) ≡ entry_of R q (remove_entry (eq_by_cmp R k) (gathered R more buckets))
          here_is q is = ap (λ l. either l (entry_of R q more)) (found_left q ∙ ap (λ b. cond (not b) (entry_of R q (slice_index_or buckets (place k) [])) None) (flips o k q))
              ∙ both q (eq_by_cmp R q k) refl
              ∙ ap (λ n. cond (eq_by_cmp R q k) None (either (entry_of R q (slice_index_or buckets n [])) (entry_of R q more))) (sym is)
              ∙ ap (λ l. cond (eq_by_cmp R q k) None l) (sym (found q)) ∙ sym (found-removed o q k (gathered R more buckets) distinct-all)

          other_is : (q : K) → (place q ≡ place k → ⊥) → either (entry_of R q (slice_index_or buckets (place q) [])) (entry_of R q more) ≡ entry_of R q (remove_entry (eq_by_cmp R k) (gathered R more buckets))
          other_is q other = sym (found q) ∙ sym (found-removed o q k (gathered R more buckets) distinct-all ∙ ap (λ b. cond b None (entry_of R q (gathered R more buckets))) (apart-place q other))

    -- a key is taken out of the ordered map
    module _ (none : entry_of R k (slice_index_or buckets (place k) []) ≡ None) where
      found_rest : (q : K) → entry_of R q (remove_entry (eq_by_cmp R k) more) ≡ cond (eq_by_cmp R q k) None (entry_of R q more)
      found_rest q = found-removed o q k more (IsDistinct-from_sorted R (keys_of more) ordered)

      pub rest-are : AreBucketsFrom R place (remove_entry (eq_by_cmp R k) more) 0 buckets
      rest-are = buckets-mapped 0 buckets (λ i is. record { distinct = is.distinct; placed = is.placed; apart = λ q full. found_rest q ∙ at (eq_by_cmp R q k) (entry_of R q more) (is.apart q full) }) are
        where
          at : (b : Bool) (f : Option (K × V)) → f ≡ None → cond b None f ≡ None
          at true f is = refl
          at false f is = is

      pub rest-sorted : IsStrictlySortedBy R (keys_of (remove_entry (eq_by_cmp R k) more))
      rest-sorted = sorted-removed o k more ordered

      pub gathered-rest : gathered R (remove_entry (eq_by_cmp R k) more) buckets ≡ remove_entry (eq_by_cmp R k) (gathered R more buckets)
      gathered-rest = one-list o (gathered R (remove_entry (eq_by_cmp R k) more) buckets) (remove_entry (eq_by_cmp R k) (gathered R more buckets))
          (sorted-gathered o (remove_entry (eq_by_cmp R k) more) buckets rest-sorted) (sorted-removed o k (gathered R more buckets) sorted)
          (λ q. found-gathered o place alike q (remove_entry (eq_by_cmp R k) more) buckets rest-are
          ∙ ap (λ l. either (entry_of R q (slice_index_or buckets (place q) [])) l) (found_rest q)
          ∙ both q (eq_by_cmp R q k) refl
          ∙ ap (λ l. cond (eq_by_cmp R q k) None l) (sym (found q)) ∙ sym (found-removed o q k (gathered R more buckets) (IsDistinct-from_sorted R (keys_of (gathered R more buckets)) sorted)))
        where
          both : (q : K) (b : Bool) → eq_by_cmp R q k ≡ b → either (entry_of R q (slice_index_or buckets (place q) [])) (cond b None (entry_of R q more))
              ≡ cond b None (either (entry_of R q (slice_index_or buckets (place q) [])) (entry_of R q more))
          both q true is =
              let at_it : place q ≡ place k = alike q k (is_equal (R q k) is) in
              ap (λ l. either l None) (ap (λ n. entry_of R q (slice_index_or buckets n [])) at_it ∙ own-same q is ∙ none)
          both q false is = refl

  -- one bucket more gets some entries of another
  module _ (now : K → ℕ) (alike_now : (x y : K) → R x y ≡ Equal → now x ≡ now y) (from : ℕ) (there : from < length buckets)
      (moves : (q : K) → now q ≡ length buckets → place q ≡ from) (stays : (q : K) → (now q ≡ length buckets → ⊥) → now q ≡ place q) where
    alike_goes : (x y : K) → R x y ≡ Equal → nat_eq (now x) (length buckets) ≡ nat_eq (now y) (length buckets)
    alike_goes x y equal = ap (λ n. nat_eq n (length buckets)) (alike_now x y equal)

    found_moved : (q : K) → entry_of R q (filter (λ e. nat_eq (now e.0) (length buckets)) (slice_index_or buckets from [])) ≡ cond (nat_eq (now q) (length buckets)) (entry_of R q (slice_index_or buckets from [])) None
    found_moved q = found-filtered o (λ x. nat_eq (now x) (length buckets)) alike_goes q (slice_index_or buckets from [])

    found_kept : (q : K) → entry_of R q (filter (λ e. not (nat_eq (now e.0) (length buckets))) (slice_index_or buckets from [])) ≡ cond (not (nat_eq (now q) (length buckets))) (entry_of R q (slice_index_or buckets from [])) None
    found_kept q = found-filtered o (λ x. not (nat_eq (now x) (length buckets))) (λ x y equal. ap not (alike_goes x y equal)) q (slice_index_or buckets from [])

    is-from : IsBucket R place more from (slice_index_or buckets from [])
    is-from = subst (λ m. IsBucket R place more m (slice_index_or buckets from [])) (omega arith) (bucket-at 0 from buckets are)

    not_moved : (q : K) → not (nat_eq (now q) (length buckets)) ≡ true → now q ≡ length buckets → ⊥
    not_moved q other is = at (nat_eq (now q) (length buckets)) refl other
      where
        at : (b : Bool) → nat_eq (now q) (length buckets) ≡ b → not b ≡ true → ⊥
        at true one other = cc
        at false one other = absurd (grind (arith, nat_tests))

    is_moved : (q : K) → nat_eq (now q) (length buckets) ≡ true → now q ≡ length buckets
    is_moved q one = grind (arith, nat_tests)

    kept-is : IsBucket R now more from (filter (λ e. not (nat_eq (now e.0) (length buckets))) (slice_index_or buckets from []))
    kept-is = record {
      distinct = distinct-filtered o (λ e. not (nat_eq (now e.0) (length buckets))) (slice_index_or buckets from []) is-from.distinct;
      placed = λ q full. let was = ap is_some (sym (found_kept q)) ∙ full in
          stays q (not_moved q (passes-there (not (nat_eq (now q) (length buckets))) (entry_of R q (slice_index_or buckets from [])) was))
          ∙ is-from.placed q (both-there (not (nat_eq (now q) (length buckets))) (entry_of R q (slice_index_or buckets from [])) was);
      apart = λ q full. is-from.apart q (both-there (not (nat_eq (now q) (length buckets))) (entry_of R q (slice_index_or buckets from [])) (ap is_some (sym (found_kept q)) ∙ full));
    }

    moved-is : IsBucket R now more (length buckets) (filter (λ e. nat_eq (now e.0) (length buckets)) (slice_index_or buckets from []))
    moved-is = record {
      distinct = distinct-filtered o (λ e. nat_eq (now e.0) (length buckets)) (slice_index_or buckets from []) is-from.distinct;
      placed = λ q full. is_moved q (passes-there (nat_eq (now q) (length buckets)) (entry_of R q (slice_index_or buckets from [])) (ap is_some (sym (found_moved q)) ∙ full));
      apart = λ q full. is-from.apart q (both-there (nat_eq (now q) (length buckets)) (entry_of R q (slice_index_or buckets from [])) (ap is_some (sym (found_moved q)) ∙ full));
    }

    kept-was : IsBucket R place more from (filter (λ e. not (nat_eq (now e.0) (length buckets))) (slice_index_or buckets from []))
    kept-was = record {
      distinct = kept-is.distinct;
      placed = λ q full. is-from.placed q (both-there (not (nat_eq (now q) (length buckets))) (entry_of R q (slice_index_or buckets from [])) (ap is_some (sym (found_kept q)) ∙ full));
      apart = kept-is.apart;
    }

    set-was : AreBucketsFrom R place more 0 (slice_set buckets from (filter (λ e. not (nat_eq (now e.0) (length buckets))) (slice_index_or buckets from [])))
    set-was = buckets-set 0 from buckets (filter (λ e. not (nat_eq (now e.0) (length buckets))) (slice_index_or buckets from []))
        (subst (λ m. IsBucket R place more m (filter (λ e. not (nat_eq (now e.0) (length buckets))) (slice_index_or buckets from []))) (omega arith) kept-was) are

    set-is : AreBucketsFrom R now more 0 (slice_set buckets from (filter (λ e. not (nat_eq (now e.0) (length buckets))) (slice_index_or buckets from [])))
    set-is = buckets-mapped 0 (slice_set buckets from (filter (λ e. not (nat_eq (now e.0) (length buckets))) (slice_index_or buckets from [])))
        (λ i is. record { distinct = is.distinct; placed = λ q full. stays q (λ moved. left i q full (sym (is.placed q full) ∙ moves q moved) moved) ∙ is.placed q full; apart = is.apart }) set-was
      where
        left : (i : ℕ) (q : K) → is_some (entry_of R q (slice_index_or (slice_set buckets from (filter (λ e. not (nat_eq (now e.0) (length buckets))) (slice_index_or buckets from []))) i [])) ≡ true → 0 + i ≡ from → now q ≡ length buckets → ⊥
        left i q full at_it moved =
            let at_from : i ≡ from = omega arith in
            let in_kept : is_some (entry_of R q (filter (λ e. not (nat_eq (now e.0) (length buckets))) (slice_index_or buckets from []))) ≡ true =
            ap (λ l. is_some (entry_of R q l)) (sym (ap (λ n. slice_index_or (slice_set buckets from (filter (λ e. not (nat_eq (now e.0) (length buckets))) (slice_index_or buckets from []))) n []) at_from
            ∙ at-here buckets from (filter (λ e. not (nat_eq (now e.0) (length buckets))) (slice_index_or buckets from [])) there)) ∙ full in
            not_moved q (passes-there (not (nat_eq (now q) (length buckets))) (entry_of R q (slice_index_or buckets from [])) (ap is_some (sym (found_kept q)) ∙ in_kept)) moved

    pub split-are : AreBucketsFrom R now more 0 (slice_set buckets from (filter (λ e. not (nat_eq (now e.0) (length buckets))) (slice_index_or buckets from [])) ++ filter (λ e. nat_eq (now e.0) (length buckets)) (slice_index_or buckets from []) ∷ [])
    split-are =
        let size = length-set buckets from (filter (λ e. not (nat_eq (now e.0) (length buckets))) (slice_index_or buckets from [])) in
        buckets-end 0 (slice_set buckets from (filter (λ e. not (nat_eq (now e.0) (length buckets))) (slice_index_or buckets from []))) (filter (λ e. nat_eq (now e.0) (length buckets)) (slice_index_or buckets from [])) set-is
        (subst (λ m. IsBucket R now more m (filter (λ e. nat_eq (now e.0) (length buckets)) (slice_index_or buckets from []))) (omega arith) moved-is)

    pub gathered-split : gathered R more (slice_set buckets from (filter (λ e. not (nat_eq (now e.0) (length buckets))) (slice_index_or buckets from [])) ++ filter (λ e. nat_eq (now e.0) (length buckets)) (slice_index_or buckets from []) ∷ []) ≡ gathered R more buckets
    gathered-split = one-list o (gathered R more (slice_set buckets from kept ++ moved ∷ [])) (gathered R more buckets)
        (sorted-gathered o more (slice_set buckets from kept ++ moved ∷ []) ordered) sorted
        (λ q. found-gathered o now alike_now q more (slice_set buckets from kept ++ moved ∷ []) split-are ∙ ap (λ l. either l (entry_of R q more)) (at q (nat_eq (now q) (length buckets)) refl) ∙ sym (found q))
      where
        kept : List (K × V)
        kept = filter (λ e. not (nat_eq (now e.0) (length buckets))) (slice_index_or buckets from [])

        moved : List (K × V)
        moved = filter (λ e. nat_eq (now e.0) (length buckets)) (slice_index_or buckets from [])

        stayed : (q : K) → now q ≡ place q → nat_eq (now q) (length buckets) ≡ false → (b : Bool) → nat_eq (place q) from ≡ b
            → entry_of R q (slice_index_or (slice_set buckets from kept) (place q) []) ≡ entry_of R q (slice_index_or buckets (place q) [])
        stayed q same_place other true is =
            let one : place q ≡ from = grind (arith, nat_tests) in
            ap (λ n. entry_of R q (slice_index_or (slice_set buckets from kept) n [])) one
            ∙ ap (entry_of R q) (at-here buckets from kept there) ∙ found_kept q ∙ ap (λ b. cond (not b) (entry_of R q (slice_index_or buckets from [])) None) other
            ∙ ap (λ n. entry_of R q (slice_index_or buckets n [])) (sym one)
        stayed q same_place other false is = ap (entry_of R q) (at-other buckets from (place q) kept (λ one. absurd (grind (arith, nat_tests))))

        at : (q : K) (b : Bool) → nat_eq (now q) (length buckets) ≡ b → entry_of R q (slice_index_or (slice_set buckets from kept ++ moved ∷ []) (now q) []) ≡ entry_of R q (slice_index_or buckets (place q) [])
        at q true is =
            let size = length-set buckets from kept in
            let last : now q ≡ length (slice_set buckets from kept) = is_moved q is ∙ sym size in
            ap (λ n. entry_of R q (slice_index_or (slice_set buckets from kept ++ moved ∷ []) n [])) last
            ∙ ap (entry_of R q) (at-end (slice_set buckets from kept) moved) ∙ found_moved q ∙ ap (λ b. cond b (entry_of R q (slice_index_or buckets from [])) None) is
            ∙ ap (λ n. entry_of R q (slice_index_or buckets n [])) (sym (moves q (is_moved q is)))
        at q false is =
            let size = length-set buckets from kept in
            let other : now q ≡ length buckets → ⊥ = λ one. absurd (grind (arith, nat_tests)) in
            let same_place : now q ≡ place q = stays q other in
            ap (entry_of R q) (at-front (slice_set buckets from kept) (now q) moved (λ one. other (one ∙ size)))
            ∙ ap (λ n. entry_of R q (slice_index_or (slice_set buckets from kept) n [])) same_place
            ∙ stayed q same_place is (nat_eq (place q) from) refl

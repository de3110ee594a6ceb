-- What a call in one bucket does to a map.
use Rattle.std.proofs.Common.{Bool, true, false, cond, ◌≡◌, ℕ, zero, suc, ◌+◌, ◌-◌, ◌%◌, ◌^◌, ◌<◌, ◌≤◌, List, [], ◌∷◌, ◌++◌, length, Option, Some, None, refl, sym, ap, ◌∙◌, subst, arith, not, length-set, length-append}
use Rattle.std.specs.Prelude.{is_some, slice_index_or, slice_set, nat_eq, Result, Ok, Err, OnOk, OnErr}
use Rattle.std.specs.Cmp.{IsTotalOrder}
use Rattle.std.specs.List.{filter}
use Rattle.std.specs.Map.{lookup, lookup_entry, remove_entry}
use Rattle.std.specs.BTreeMap.{insert_entry}
use Rattle.std.specs.Option.{option_map}
use Rattle.std.specs.Ordering.{eq_by_cmp}
use Rattle.std.specs.declared.cmp.Ordering.{Ordering}
use Rattle.std.specs.declared.cmp.Ordering.TheVariants.{Equal}
use Rattle.entries.specs.Parts.{gathered, number, spread, entry_of, AreBucketsFrom, AreBuckets}
use Rattle.entries.proofs.Gathered.{either, lookup-entry, entry_none, sorted-inserted, sorted-removed}
use Rattle.std.specs.Ordering.{is_eq, match_ordering}
use Rattle.std.specs.declared.cmp.Ordering.TheVariants.{Less, Greater}
use Rattle.std.proofs.lemmas.Map.{NonePasses}
use Rattle.entries.proofs.Changed.{no-keys, found, pushed-are, gathered-pushed, spilled-are, gathered-spilled, left-are, gathered-left, rest-are, gathered-rest, split-are, gathered-split}
use Rattle.entries.proofs.Numbers.{grown-moves, grown-stays}

-- the bucket at an index
pub at-default : {X : Type 0} (xs : List (List X)) (i : ℕ) (x : List X) → x ≡ slice_index_or xs i x → i < length xs → slice_index_or xs i [] ≡ x
at-default [] i x is there = absurd (omega arith)
at-default (y ∷ xs) zero x is there = sym is
at-default (y ∷ xs) (suc i) x is there = at-default xs i x is (omega arith)

pub at-past : {X : Type 0} (xs : List (List X)) (i : ℕ) → length xs ≤ i → slice_index_or xs i [] ≡ []
at-past [] i past = refl
at-past (y ∷ xs) zero past = absurd (omega arith)
at-past (y ∷ xs) (suc i) past = at-past xs i (omega arith)

pub set-same : {X : Type 0} (xs : List (List X)) (i : ℕ) (x : List X) → x ≡ slice_index_or xs i x → slice_set xs i x ≡ xs
set-same [] i x is = refl
set-same (y ∷ xs) zero x is = ap (λ z. z ∷ xs) is
set-same (y ∷ xs) (suc i) x is = ap (λ zs. y ∷ zs) (set-same xs i x is)

-- by what a call returned
pub by_result : {A E P Q S : Type 0} (r : Result A E) → OnOk r P → OnErr r Q → (P → S) → (Q → S) → S
by_result (Ok a) ok err f g = f ok
by_result (Err e) ok err f g = g err

pub on_ok : {A E P Q : Type 0} (r : Result A E) → OnOk r P → (P → Q) → OnOk r Q
on_ok (Ok a) ok f = f ok
on_ok (Err e) ok f = tt

map-either : {X Y : Type 0} (f : X → Y) (a b : Option X) → option_map f (either a b) ≡ either (option_map f a) (option_map f b)
map-either f None b = refl
map-either f (Some x) b = refl

is-there : {K V : Type 0} (test : K → Bool) (es : List (K × V)) → is_some (lookup test es) ≡ true → is_some (lookup_entry test es) ≡ true
is-there {K = K} {V = V} test es full = at (lookup_entry test es) (ap is_some (sym (lookup-entry test es)) ∙ full)
  where
    at : (o : Option (K × V)) → is_some (option_map (λ (e : K × V). e.1) o) ≡ true → is_some o ≡ true
    at None is = is
    at (Some e) is = refl

module _ {K V : Type 0} {R : K → K → Ordering} (o : IsTotalOrder R) (leading : K → ℕ) (shared : (x y : K) → R x y ≡ Equal → leading x ≡ leading y)
    (bits : ℕ) (buckets : List (List (K × V))) (more : List (K × V)) (are : AreBuckets R leading bits buckets more) where
  place : K → ℕ
  place k = number bits (length buckets) (spread (leading k))

  alike : (n : ℕ) (x y : K) → R x y ≡ Equal → number bits n (spread (leading x)) ≡ number bits n (spread (leading y))
  alike n x y equal = ap (λ w. number bits n (spread w)) (shared x y equal)

  module _ (k : K) (i : ℕ) (is : i ≡ number bits (length buckets) (spread (leading k))) where
    looked-up : lookup (eq_by_cmp R k) (gathered R more buckets) ≡ either (lookup (eq_by_cmp R k) (slice_index_or buckets i [])) (lookup (eq_by_cmp R k) more)
    looked-up = lookup-entry (eq_by_cmp R k) (gathered R more buckets)
        ∙ ap (option_map (λ e. e.1)) (found o (λ q. number bits (length buckets) (spread (leading q))) (alike (length buckets)) more are.ordered buckets are.placed k
        ∙ ap (λ n. either (entry_of R k (slice_index_or buckets n [])) (entry_of R k more)) (sym is))
        ∙ map-either (λ e. e.1) (entry_of R k (slice_index_or buckets i [])) (entry_of R k more)
        ∙ ap (λ l. either l (option_map (λ e. e.1) (entry_of R k more))) (sym (lookup-entry (eq_by_cmp R k) (slice_index_or buckets i [])))
        ∙ ap (λ l. either (lookup (eq_by_cmp R k) (slice_index_or buckets i [])) l) (sym (lookup-entry (eq_by_cmp R k) more))

    -- what is not in the bucket is in the ordered map, or nowhere
    pub found-rest : lookup (eq_by_cmp R k) (slice_index_or buckets i []) ≡ None → lookup (eq_by_cmp R k) (gathered R more buckets) ≡ lookup (eq_by_cmp R k) more
    found-rest none = looked-up ∙ ap (λ l. either l (lookup (eq_by_cmp R k) more)) none

    pub found-past : length buckets ≤ i → lookup (eq_by_cmp R k) (gathered R more buckets) ≡ lookup (eq_by_cmp R k) more
    found-past past = found-rest (ap (lookup (eq_by_cmp R k)) (at-past buckets i past))

    -- a key leaves the ordered map
    pub rest-left : lookup (eq_by_cmp R k) (slice_index_or buckets i []) ≡ None
        → AreBuckets R leading bits buckets (remove_entry (eq_by_cmp R k) more) × (gathered R (remove_entry (eq_by_cmp R k) more) buckets ≡ remove_entry (eq_by_cmp R k) (gathered R more buckets))
    rest-left none =
        let here : entry_of R k (slice_index_or buckets (number bits (length buckets) (spread (leading k))) []) ≡ None =
        ap (λ n. entry_of R k (slice_index_or buckets n [])) (sym is) ∙ entry_none (eq_by_cmp R k) (slice_index_or buckets i []) none in (
          record {
            few = are.few;
            ordered = sorted-removed o k more are.ordered;
            placed = rest-are o (λ q. number bits (length buckets) (spread (leading q))) (alike (length buckets)) more are.ordered buckets are.placed k here;
          },
          gathered-rest o (λ q. number bits (length buckets) (spread (leading q))) (alike (length buckets)) more are.ordered buckets are.placed k here,
        )

    pub past-left : length buckets ≤ i
        → AreBuckets R leading bits buckets (remove_entry (eq_by_cmp R k) more) × (gathered R (remove_entry (eq_by_cmp R k) more) buckets ≡ remove_entry (eq_by_cmp R k) (gathered R more buckets))
    past-left past = rest-left (ap (lookup (eq_by_cmp R k)) (at-past buckets i past))

    module _ (b : List (K × V)) (at : b ≡ slice_index_or buckets i b) (there : i < length buckets) where
      its : slice_index_or buckets i [] ≡ b
      its = at-default buckets i b at there

      own_is : slice_index_or buckets (number bits (length buckets) (spread (leading k))) [] ≡ b
      own_is = ap (λ n. slice_index_or buckets n []) (sym is) ∙ its

      there_is : number bits (length buckets) (spread (leading k)) < length buckets
      there_is = subst (λ n. n < length buckets) is there

      pub found-in : (v : V) → lookup (eq_by_cmp R k) b ≡ Some v → lookup (eq_by_cmp R k) (gathered R more buckets) ≡ Some v
      found-in v found_it = looked-up ∙ ap (λ l. either l (lookup (eq_by_cmp R k) more)) (ap (lookup (eq_by_cmp R k)) its ∙ found_it)

      pub found-not : lookup (eq_by_cmp R k) b ≡ None → lookup (eq_by_cmp R k) (gathered R more buckets) ≡ lookup (eq_by_cmp R k) more
      found-not none = found-rest (ap (lookup (eq_by_cmp R k)) its ∙ none)

      pub not-left : lookup (eq_by_cmp R k) b ≡ None
          → AreBuckets R leading bits buckets (remove_entry (eq_by_cmp R k) more) × (gathered R (remove_entry (eq_by_cmp R k) more) buckets ≡ remove_entry (eq_by_cmp R k) (gathered R more buckets))
      not-left none = rest-left (ap (lookup (eq_by_cmp R k)) its ∙ none)

      -- a bucket that has others by this key
      set_with : (now : List (K × V)) → AreBucketsFrom R (λ q. number bits (length buckets) (spread (leading q))) more 0 (slice_set buckets i now) → AreBuckets R leading bits (slice_set buckets i now) more
      set_with now placed = record {
        few = are.few;
        ordered = are.ordered;
        placed = subst (λ n. AreBucketsFrom R (λ q. number bits n (spread (leading q))) more 0 (slice_set buckets i now)) (sym (length-set buckets i now)) placed;
      }

      -- a new key is put into its bucket
      pub put-in : (v : V) (now : List (K × V)) → lookup (eq_by_cmp R k) (gathered R more buckets) ≡ None → now ≡ b ++ (k, v) ∷ []
          → AreBuckets R leading bits (slice_set buckets i now) more × (gathered R more (slice_set buckets i now) ≡ insert_entry R (gathered R more buckets) k v)
      put-in v now none put =
          let new = entry_none (eq_by_cmp R k) (gathered R more buckets) none in
          let same : slice_set buckets (number bits (length buckets) (spread (leading k))) (slice_index_or buckets (number bits (length buckets) (spread (leading k))) [] ++ (k, v) ∷ []) ≡ slice_set buckets i now =
          ap (λ n. slice_set buckets n (slice_index_or buckets (number bits (length buckets) (spread (leading k))) [] ++ (k, v) ∷ [])) (sym is)
          ∙ ap (λ l. slice_set buckets i l) (ap (λ l. l ++ (k, v) ∷ []) own_is ∙ sym put) in (
            set_with now (subst (AreBucketsFrom R (λ q. number bits (length buckets) (spread (leading q))) more 0) same
                (pushed-are o (λ q. number bits (length buckets) (spread (leading q))) (alike (length buckets)) more are.ordered buckets are.placed k v new there_is)),
            ap (gathered R more) (sym same) ∙ gathered-pushed o (λ q. number bits (length buckets) (spread (leading q))) (alike (length buckets)) more are.ordered buckets are.placed k v new there_is,
          )

      -- a key leaves its bucket
      pub taken-out : (now : List (K × V)) → is_some (lookup (eq_by_cmp R k) b) ≡ true → now ≡ filter (λ e. not (eq_by_cmp R k e.0)) b
          → AreBuckets R leading bits (slice_set buckets i now) more × (gathered R more (slice_set buckets i now) ≡ remove_entry (eq_by_cmp R k) (gathered R more buckets))
      taken-out now full left =
          let there_entry : is_some (entry_of R k (slice_index_or buckets (number bits (length buckets) (spread (leading k))) [])) ≡ true =
          ap (λ l. is_some (entry_of R k l)) own_is ∙ is-there (eq_by_cmp R k) b full in
          let same : slice_set buckets (number bits (length buckets) (spread (leading k))) (filter (λ e. not (eq_by_cmp R k e.0)) (slice_index_or buckets (number bits (length buckets) (spread (leading k))) [])) ≡ slice_set buckets i now =
          ap (λ n. slice_set buckets n (filter (λ e. not (eq_by_cmp R k e.0)) (slice_index_or buckets (number bits (length buckets) (spread (leading k))) []))) (sym is)
          ∙ ap (λ l. slice_set buckets i l) (ap (filter (λ e. not (eq_by_cmp R k e.0))) own_is ∙ sym left) in (
            set_with now (subst (AreBucketsFrom R (λ q. number bits (length buckets) (spread (leading q))) more 0) same
                (left-are o (λ q. number bits (length buckets) (spread (leading q))) (alike (length buckets)) more are.ordered buckets are.placed k there_entry there_is)),
            ap (gathered R more) (sym same) ∙ gathered-left o (λ q. number bits (length buckets) (spread (leading q))) (alike (length buckets)) more are.ordered buckets are.placed k there_entry there_is,
          )

  -- a new key is put into the ordered map
  pub put-beside : (k : K) (v : V) → lookup (eq_by_cmp R k) (gathered R more buckets) ≡ None
      → AreBuckets R leading bits buckets (insert_entry R more k v) × (gathered R (insert_entry R more k v) buckets ≡ insert_entry R (gathered R more buckets) k v)
  put-beside k v none =
      let new = entry_none (eq_by_cmp R k) (gathered R more buckets) none in (
        record {
          few = are.few;
          ordered = sorted-inserted o k v more are.ordered;
          placed = spilled-are o (λ q. number bits (length buckets) (spread (leading q))) (alike (length buckets)) more are.ordered buckets are.placed k v new;
        },
        gathered-spilled o (λ q. number bits (length buckets) (spread (leading q))) (alike (length buckets)) more are.ordered buckets are.placed k v new,
      )

  -- one bucket more gets entries of another
  module _ (from : ℕ) (there : from < length buckets) (is_from : from ≡ length buckets % 2 ^ bits) (b kept moved : List (K × V)) (at : b ≡ slice_index_or buckets from b)
      (is_kept : kept ≡ filter (λ e. not (nat_eq (number bits (length buckets + 1) (spread (leading e.0))) (length buckets + 1 - 1))) b)
      (is_moved : moved ≡ filter (λ e. nat_eq (number bits (length buckets + 1) (spread (leading e.0))) (length buckets + 1 - 1)) b) where
    less-one : length buckets + 1 - 1 ≡ length buckets
    less-one = omega arith

    same : slice_set buckets from (filter (λ e. not (nat_eq (number bits (length buckets + 1) (spread (leading e.0))) (length buckets))) (slice_index_or buckets from []))
        ++ filter (λ e. nat_eq (number bits (length buckets + 1) (spread (leading e.0))) (length buckets)) (slice_index_or buckets from []) ∷ [] ≡ slice_set buckets from kept ++ moved ∷ []
    same =
        ap (λ l. slice_set buckets from (filter (λ e. not (nat_eq (number bits (length buckets + 1) (spread (leading e.0))) (length buckets))) l) ++ filter (λ e. nat_eq (number bits (length buckets + 1) (spread (leading e.0))) (length buckets)) l ∷ []) (at-default buckets from b at there)
        ∙ ap (λ n. slice_set buckets from (filter (λ e. not (nat_eq (number bits (length buckets + 1) (spread (leading e.0))) n)) b) ++ filter (λ e. nat_eq (number bits (length buckets + 1) (spread (leading e.0))) n) b ∷ []) (sym less-one)
        ∙ ap (λ l. slice_set buckets from l ++ filter (λ e. nat_eq (number bits (length buckets + 1) (spread (leading e.0))) (length buckets + 1 - 1)) b ∷ []) (sym is_kept)
        ∙ ap (λ l. slice_set buckets from kept ++ l ∷ []) (sym is_moved)

    size : length (slice_set buckets from kept ++ moved ∷ []) ≡ length buckets + 1
    size = let one = length-set buckets from kept in let two = length-append (slice_set buckets from kept) (moved ∷ []) in omega arith

    moves : (q : K) → number bits (length buckets + 1) (spread (leading q)) ≡ length buckets → number bits (length buckets) (spread (leading q)) ≡ from
    moves q is = grown-moves bits (length buckets) (spread (leading q)) is ∙ sym is_from

    pub are-grown : AreBuckets R leading bits (slice_set buckets from kept ++ moved ∷ []) more
    are-grown = record {
      few = are.few;
      ordered = are.ordered;
      placed = subst (λ n. AreBucketsFrom R (λ q. number bits n (spread (leading q))) more 0 (slice_set buckets from kept ++ moved ∷ [])) (sym size)
          (subst (AreBucketsFrom R (λ q. number bits (length buckets + 1) (spread (leading q))) more 0) same
          (split-are o (λ q. number bits (length buckets) (spread (leading q))) (alike (length buckets)) more are.ordered buckets are.placed (λ q. number bits (length buckets + 1) (spread (leading q))) (alike (length buckets + 1)) from there
          moves (λ q. grown-stays bits (length buckets) (spread (leading q)))));
    }

    pub gathered-grown : gathered R more (slice_set buckets from kept ++ moved ∷ []) ≡ gathered R more buckets
    gathered-grown = ap (gathered R more) (sym same)
        ∙ gathered-split o (λ q. number bits (length buckets) (spread (leading q))) (alike (length buckets)) more are.ordered buckets are.placed (λ q. number bits (length buckets + 1) (spread (leading q))) (alike (length buckets + 1)) from there
        moves (λ q. grown-stays bits (length buckets) (spread (leading q)))

-- other bits that choose the same buckets
pub are-widened : {K V : Type 0} {R : K → K → Ordering} {leading : K → ℕ} {bits now : ℕ} {buckets : List (List (K × V))} {more : List (K × V)} → now < 32
    → ((word : ℕ) → number now (length buckets) word ≡ number bits (length buckets) word) → AreBuckets R leading bits buckets more → AreBuckets R leading now buckets more
are-widened {R = R} {leading = leading} {bits = bits} {now = now} {buckets = buckets} {more = more} few same are = record {
  few = few;
  ordered = are.ordered;
  placed = alike 0 buckets are.placed;
}
  where
    alike : (n : ℕ) (bs : List (List _)) → AreBucketsFrom R (λ q. number bits (length buckets) (spread (leading q))) more n bs → AreBucketsFrom R (λ q. number now (length buckets) (spread (leading q))) more n bs
    alike n [] placed = tt
    alike n (b ∷ bs) placed = (record { distinct = placed.0.distinct; placed = λ q full. same (spread (leading q)) ∙ placed.0.placed q full; apart = placed.0.apart }, alike (suc n) bs placed.1)

-- the first bucket
pub first-bucket : {K V : Type 0} {R : K → K → Ordering} {leading : K → ℕ} {bits : ℕ} {buckets : List (List (K × V))} {more : List (K × V)} (b : List (K × V)) (now : List (List (K × V)))
    → AreBuckets R leading bits buckets more → length buckets ≡ 0 → b ≡ [] → now ≡ buckets ++ b ∷ [] → AreBuckets R leading bits now more
first-bucket {R = R} {leading = leading} {bits = bits} {buckets = buckets} {more = more} b now are size none put = rw put (rw none (at buckets size are))
  where
    at : (bs : List (List _)) → length bs ≡ 0 → AreBuckets R leading bits bs more → AreBuckets R leading bits (bs ++ [] ∷ []) more
    at [] size are = record { few = are.few; ordered = are.ordered; placed = (no-keys 0, tt) }
    at (x ∷ bs) size are = absurd (omega arith)

module _ {K V : Type 0} (test : K → Bool) where
  pub remove_none : (ys : List (K × V)) → NonePasses test ys → remove_entry test ys ≡ ys
  remove_none [] none = refl
  remove_none (y ∷ ys) none = ap (λ b. cond b ys (y ∷ remove_entry test ys)) none.0 ∙ ap (λ l. y ∷ l) (remove_none ys none.1)

  pub length-removed : (es : List (K × V)) (v : V) → lookup test es ≡ Some v → length es ≡ length (remove_entry test es) + 1
  length-removed [] v found = cc
  length-removed (e ∷ es) v found = at (test e.0) found (length-removed es v)
    where
      at : (b : Bool) → cond b (Some e.1) (lookup test es) ≡ Some v → (lookup test es ≡ Some v → length es ≡ length (remove_entry test es) + 1)
          → length (e ∷ es) ≡ length (cond b es (e ∷ remove_entry test es)) + 1
      at true found rest = omega arith
      at false found rest = let h = rest found in omega arith

module _ {K V : Type 0} (R : K → K → Ordering) (k : K) (v : V) where
  pub length-inserted : (es : List (K × V)) → lookup (eq_by_cmp R k) es ≡ None → length (insert_entry R es k v) ≡ length es + 1
  length-inserted [] none = refl
  length-inserted (e ∷ es) none = at (R k e.0) none (length-inserted es)
    where
      at : (r : Ordering) → cond (is_eq r) (Some e.1) (lookup (eq_by_cmp R k) es) ≡ None → (lookup (eq_by_cmp R k) es ≡ None → length (insert_entry R es k v) ≡ length es + 1)
          → length (match_ordering r ((k, v) ∷ e ∷ es) ((e.0, v) ∷ es) (e ∷ insert_entry R es k v)) ≡ length (e ∷ es) + 1
      at Less none rest = omega arith
      at Equal none rest = cc
      at Greater none rest = let h = rest none in omega arith

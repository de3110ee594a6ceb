-- Internal.
-- A map in buckets, which are chosen by a word of the keys, and an ordered map for what does not fit.
use Rattle.std.specs.Prelude.{◌≡◌, ◌<◌, ◌+◌, ◌*◌, ◌/◌, ◌%◌, ◌^◌, ℕ, suc, true, cond, nat_lt, List, [], ◌∷◌, length, Option, None, is_some, ⊤}
use Rattle.std.specs.List.{IsDistinct}
use Rattle.std.specs.List.Sorted.{IsStrictlySortedBy}
use Rattle.std.specs.Map.{keys_of, lookup_entry}
use Rattle.std.specs.BTreeMap.{insert_entry}
use Rattle.std.specs.Ordering.{eq_by_cmp}
use Rattle.std.specs.declared.cmp.Ordering.{Ordering}

-- the upper half of the product of a word and an odd number, in which all bits of the word take part
abbrev pub spread : ℕ → ℕ
spread word = (word * 11400714819323198485) % 2 ^ 64 / 2 ^ 32

-- the bucket of a spread word, of so many: its lowest bits, and one bit more if there is such a bucket
abbrev pub number : ℕ → ℕ → ℕ → ℕ
number bits buckets word = cond (nat_lt (word % 2 ^ (bits + 1)) buckets) (word % 2 ^ (bits + 1)) (word % 2 ^ bits)

module _ {K V : Type 0} (cmp : K → K → Ordering) where
  -- the entries of a bucket put into a list in order
  abbrev pub put_all : List (K × V) → List (K × V) → List (K × V)
  put_all more [] = more
  put_all more (e ∷ es) = insert_entry cmp (put_all more es) e.0 e.1

  -- the entries of all buckets put into a list in order
  abbrev pub gathered : List (K × V) → List (List (K × V)) → List (K × V)
  gathered more [] = more
  gathered more (bucket ∷ buckets) = put_all (gathered more buckets) bucket

  -- the entry of a key
  abbrev pub entry_of : K → List (K × V) → Option (K × V)
  entry_of k es = lookup_entry (eq_by_cmp cmp k) es

  module _ (place : K → ℕ) (more : List (K × V)) where
    -- a bucket whose keys differ, belong there, and are not in the list
    pub record IsBucket (number : ℕ) (bucket : List (K × V)) : Type 0 where
      pub distinct : IsDistinct (eq_by_cmp cmp) (keys_of bucket)
      pub placed : (k : K) → is_some (entry_of k bucket) ≡ true → place k ≡ number
      pub apart : (k : K) → is_some (entry_of k bucket) ≡ true → entry_of k more ≡ None

    -- these are the buckets from this one on
    abbrev pub AreBucketsFrom : ℕ → List (List (K × V)) → Type 0
    AreBucketsFrom number [] = ⊤
    AreBucketsFrom number (bucket ∷ buckets) = IsBucket number bucket × AreBucketsFrom (suc number) buckets

-- each key is in the bucket of its word or in the ordered map
pub record AreBuckets {K V : Type 0} (cmp : K → K → Ordering) (leading : K → ℕ) (bits : ℕ) (buckets : List (List (K × V))) (more : List (K × V)) : Type 0 where
  pub few : bits < 32
  pub ordered : IsStrictlySortedBy cmp (keys_of more)
  pub placed : AreBucketsFrom cmp (λ k. number bits (length buckets) (spread (leading k))) more 0 buckets

-- so it is, and the number of entries is right
pub record IsParted {K V : Type 0} (cmp : K → K → Ordering) (leading : K → ℕ) (bits : ℕ) (buckets : List (List (K × V))) (more : List (K × V)) (len : ℕ) : Type 0 where
  pub are : AreBuckets cmp leading bits buckets more
  pub counted : len ≡ length (gathered cmp more buckets)

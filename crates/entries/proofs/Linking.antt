-- A place leaves its chain, or joins one in front.
use Rattle.std.proofs.Common.{false, ◌≡◌, ◌<◌, ◌^◌, ◌≢◌, ℕ, ◌+◌, ◌-◌, List, [], ◌∷◌, ◌++◌, Option, Some, None, IsSome, refl, sym, ap, ◌∙◌, arith}
use Rattle.entries.specs.declared.entry.Entry.{Entry}
use Rattle.entries.specs.declared.entry.Chain.{Chain}
use Rattle.std.proofs.lemmas.Bool.{ne_eqb}
use Rattle.entries.specs.Places.{mark, is_mark}
use Rattle.entries.specs.Linked.{Node, first, final, Misses, pick, IsRun, IsLinked, Relinks, with_newer, with_older, as_newest, SamePlaces, IsOn, Unlinks, Admits, Links}
use Rattle.entries.proofs.Runs.{IsRun-split, Misses-left, Misses-right, Misses-taken, final-misses}
use Rattle.entries.proofs.Relinking.{LeadsThere, none-there, final-there, first-there, Relinks-places, Relinks-there, taken, put_first}

first-misses : {D : Type 0} (at : ℕ) (ns : List (Node D)) → Misses (Some at) ns → first ns None ≢ Some at
first-misses at [] misses = λ same. cc
first-misses at (n ∷ ns) misses = λ same. misses.0 (sym same)

-- a place of a list is no mark
pub place_unmarked : (place : ℕ) → place + 2 < 2 ^ 32 → is_mark (Some place) ≡ false
place_unmarked place fits = ne_eqb place mark (λ same. omega (arith, fits, same))

module _ {D : Type 0} where
  pub is_there : (h : ℕ → Option (Entry D)) (j : ℕ) (e : Entry D) → h j ≡ Some e → IsSome (h j)
  is_there h j e there = rw there refl

  SamePlaces-join : (h k l : ℕ → Option (Entry D)) → SamePlaces h k → SamePlaces k l → SamePlaces h l
  SamePlaces-join h k l p q j e there = let y = q j e there in p j y.0 y.1

  -- the links of an entry on a chain
  pub record Around (h : ℕ → Option (Entry D)) (e : Entry D) (xs ys : List (Node D)) : Type 0 where
    pub newer : e.newer ≡ final None xs
    pub older : e.older ≡ first ys None
    pub newer_there : LeadsThere h (final None xs)
    pub older_there : LeadsThere h (first ys None)

  pub around : (h : ℕ → Option (Entry D)) (chain : Chain) (place : ℕ) (e : Entry D) (xs : List (Node D)) (d : D) (ys : List (Node D)) → h place ≡ Some e → IsLinked h chain (xs ++ (place, d) ∷ ys) → Around h e xs ys
  around h chain place e xs d ys there p =
      let parts = IsRun-split h None xs ((place, d) ∷ ys) None p.run in
      let at = parts.1.0 in
      let one : at.entry ≡ e = cc in
      record {
        newer = ap (λ (x : Entry D). x.newer) (sym one) ∙ at.newer;
        older = ap (λ (x : Entry D). x.older) (sym one) ∙ at.older;
        newer_there = final-there h None xs _ (none-there h) parts.0;
        older_there = first-there h _ ys None parts.1.1;
      }

  pub newer_there : (h : ℕ → Option (Entry D)) (chain : Chain) (place : ℕ) (e : Entry D) → h place ≡ Some e → IsOn h chain place → (j : ℕ) → e.newer ≡ Some j → IsSome (h j)
  newer_there h chain place e there on j same =
      let a = around h chain place e on.front on.digest on.back there on.linked in
      let p = a.newer_there j (sym a.newer ∙ same) in is_there h j p.0 p.1

  pub older_there : (h k : ℕ → Option (Entry D)) (chain : Chain) (place : ℕ) (e : Entry D) → h place ≡ Some e → IsOn h chain place → Relinks h k e.newer (with_older e.older) → (j : ℕ) → e.older ≡ Some j → IsSome (k j)
  older_there h k chain place e there on one j same =
      let a = around h chain place e on.front on.digest on.back there on.linked in
      let p = Relinks-there one a.older_there j (sym a.older ∙ same) in is_there k j p.0 p.1

  final-unmarked : (h : ℕ → Option (Entry D)) (before : Option ℕ) (xs : List (Node D)) (after : Option ℕ) → is_mark before ≡ false → IsRun h before xs after → is_mark (final before xs) ≡ false
  final-unmarked h before [] after unmarked p = unmarked
  final-unmarked h before (x ∷ xs) after unmarked p = final-unmarked h (Some x.0) xs after (place_unmarked x.0 p.0.fits) p.1

  pub newer_unmarked : (h : ℕ → Option (Entry D)) (chain : Chain) (place : ℕ) (e : Entry D) → h place ≡ Some e → IsOn h chain place → is_mark e.newer ≡ false
  newer_unmarked h chain place e there on =
      let a = around h chain place e on.front on.digest on.back there on.linked in
      let front = (IsRun-split h None on.front ((place, on.digest) ∷ on.back) None on.linked.run).0 in
      ap is_mark a.newer ∙ final-unmarked h None on.front _ refl front

  -- the newest is there
  pub newest_there : (h k : ℕ → Option (Entry D)) (chain : Chain) (place : ℕ) (change : Entry D → Entry D) → Admits h chain place → Relinks h k (Some place) change → (j : ℕ) → chain.newest ≡ Some j → IsSome (k j)
  newest_there h k chain place change admits one j same =
      let first : LeadsThere h chain.newest = rw admits.linked.newest (first-there h None admits.nodes None admits.linked.run) in
      let p = Relinks-there one first j same in is_there k j p.0 p.1

  module _ {h k l : ℕ → Option (Entry D)} {chain next : Chain} {place : ℕ} where
    pub unlinks : {e : Entry D} → h place ≡ Some e → IsOn h chain place
        → Relinks h k e.newer (with_older e.older) → Relinks k l e.older (with_newer e.newer)
        → next.newest ≡ pick e.newer chain.newest e.older → next.oldest ≡ pick e.older chain.oldest e.newer → next.len ≡ chain.len - 1
        → Unlinks h l chain next place
    unlinks {e = e} there on one two newest oldest len =
        let a = around h chain place e on.front on.digest on.back there on.linked in
        let misses = Misses-taken on.front (place, on.digest) on.back on.linked.apart in
        let newer_there : LeadsThere h e.newer = rw a.newer a.newer_there in
        let older_there : LeadsThere h e.older = rw a.older a.older_there in
        record {
          linked = λ xs d ys p.
              let b = around h chain place e xs d ys there p in
              taken xs (place, d) ys p
              (rw (b.newer, b.older) at one) (rw (b.newer, b.older) at two)
              (rw (b.newer, b.older) at newest) (rw (b.newer, b.older) at oldest) len;
          kept =
              two.others place (rw a.older (first-misses place on.back (Misses-right (Some place) on.front on.back misses)))
              ∙ one.others place (rw a.newer (final-misses (Some place) None on.front (λ same. cc) (Misses-left (Some place) on.front on.back misses)));
          places = SamePlaces-join h k l (Relinks-places one newer_there) (Relinks-places two (Relinks-there one older_there));
        }

    pub links : {d : D} → Admits h chain place → place + 2 < 2 ^ 32
        → Relinks h k (Some place) (as_newest d chain.newest) → Relinks k l chain.newest (with_newer (Some place))
        → next.newest ≡ Some place → next.oldest ≡ pick chain.oldest chain.oldest (Some place) → next.len ≡ chain.len + 1
        → Links h l chain next place d
    links admits fits one two newest oldest len =
        let here : LeadsThere h (Some place) = λ j same. let at : place ≡ j = cc in (admits.entry, ap h (sym at) ∙ admits.there) in
        let first : LeadsThere h chain.newest = rw admits.linked.newest (first-there h None admits.nodes None admits.linked.run) in
        record {
          linked = λ ns e p misses there.
              put_first p misses there fits
              (rw p.newest at one) (rw p.newest at two) newest (rw p.oldest at oldest) len;
          places = SamePlaces-join h k l (Relinks-places one here) (Relinks-places two (Relinks-there one first));
        }

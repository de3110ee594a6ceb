-- What a promotion, a push and a pop make of a chain.
use Rattle.std.proofs.Common.{◌≡◌, ◌≢◌, ◌+◌, ◌<◌, ◌^◌, ◌⊎◌, ℕ, inl, inr, List, [], ◌∷◌, ◌++◌, Option, Some, None, refl, sym, ap, ◌∙◌}
use Rattle.std.proofs.lemmas.Bool.{cases_eq}
use Rattle.std.proofs.lemmas.List.{append-nil}
use Rattle.entries.specs.declared.entry.Entry.{Entry}
use Rattle.entries.specs.declared.entry.Chain.{Chain}
use Rattle.entries.specs.Linked.{Node, first, final, Misses, IsIn, IsAt, IsRun, IsLinked, IsChain, SameValues, IsOn, Unlinks, Admits, Links, HasNodes, Promotes, Pushes, Pops}
use Rattle.entries.proofs.Runs.{IsRun-split, IsRun-elsewhere, Misses-left, Misses-taken}

module _ {D : Type 0} where
  IsIn-taken : (j : ℕ) (xs : List (Node D)) (n : Node D) (ys : List (Node D)) → IsIn j (xs ++ n ∷ ys) → (j ≡ n.0) ⊎ IsIn j (xs ++ ys)
  IsIn-taken j [] n ys p = p
  IsIn-taken j (x ∷ xs) n ys (inl here) = inr (inl here)
  IsIn-taken j (x ∷ xs) n ys (inr later) = elim (IsIn-taken j xs n ys later) [ inl same ↦ inl same | inr rest ↦ inr (inr rest) ]

  -- the parts of some nodes before the last
  pub record EndsAt (ns : List (Node D)) (place : ℕ) : Type 0 where
    pub front : List (Node D)
    pub digest : D
    pub is : ns ≡ front ++ (place, digest) ∷ []

  final-some : (i : ℕ) (ns : List (Node D)) → final (Some i) ns ≢ None
  final-some i [] = λ same. cc
  final-some i (n ∷ ns) = final-some n.0 ns

  pub final_none : (ns : List (Node D)) → final None ns ≡ None → ns ≡ []
  final_none [] same = refl
  final_none (n ∷ ns) same = absurd (final-some n.0 ns same)

  ends_at : (n : Node D) (ns : List (Node D)) (place : ℕ) → final (Some n.0) ns ≡ Some place → EndsAt (n ∷ ns) place
  ends_at n [] place same = let here : n.0 ≡ place = cc in record {
    front = [];
    digest = n.1;
    is = ap (λ (i : ℕ). (i, n.1) ∷ []) here;
  }
  ends_at n (m ∷ ns) place same = let rest = ends_at m ns place same in record {
    front = n ∷ rest.front;
    digest = rest.digest;
    is = ap (λ (l : List (Node D)). n ∷ l) rest.is;
  }

  pub final_some : (ns : List (Node D)) (place : ℕ) → final None ns ≡ Some place → EndsAt ns place
  final_some [] place same = cc
  final_some (n ∷ ns) place same = ends_at n ns place same

module _ {D : Type 0} where
  pub at_place : (h : ℕ → Option (Entry D)) (chain : Chain) (xs : List (Node D)) (n : Node D) (ys : List (Node D)) → IsLinked h chain (xs ++ n ∷ ys) → IsAt h n (final None xs) (first ys None)
  at_place h chain xs n ys p = (IsRun-split h None xs (n ∷ ys) None p.run).1.0

  -- after it left its chain, the place can join it again
  pub admits : (h k : ℕ → Option (Entry D)) (chain mid : Chain) (place : ℕ) → IsOn h chain place → Unlinks h k chain mid place → Admits k mid place
  admits h k chain mid place on un =
      let at = at_place h chain on.front _ on.back on.linked in
      record {
        nodes = on.front ++ on.back;
        linked = un.linked on.front on.digest on.back on.linked;
        misses = Misses-taken on.front _ on.back on.linked.apart;
        entry = at.entry;
        there = un.kept ∙ at.there;
      }

  pub promotes : (h k l : ℕ → Option (Entry D)) (chain mid next : Chain) (place : ℕ) (digest : D) → Unlinks h k chain mid place → Links k l mid next place digest → Promotes h l chain next place digest
  promotes h k l chain mid next place digest un li = record {
    chains = λ xs d ys p.
        let at = at_place h chain xs (place, d) ys p.linked in
        record {
          linked = li.linked (xs ++ ys) at.entry (un.linked xs d ys p.linked) (Misses-taken xs _ ys p.linked.apart) (un.kept ∙ at.there);
          all = λ j e there.
              let x = li.places j e there in
              let y = un.places j x.0 x.1 in
              IsIn-taken j xs (place, d) ys (p.all j y.0 y.1);
        };
  }

  -- a free place is on no chain
  pub vacant-misses : (h : ℕ → Option (Entry D)) (place : ℕ) (before : Option ℕ) (ns : List (Node D)) (after : Option ℕ) → h place ≡ None → IsRun h before ns after → Misses (Some place) ns
  vacant-misses h place before [] after vacant p = tt
  vacant-misses h place before (n ∷ ns) after vacant p =
      ((λ same. let here : place ≡ n.0 = cc in let no : None ≡ Some p.0.entry = sym vacant ∙ ap h here ∙ p.0.there in absurd (cc)), vacant-misses h place (Some n.0) ns after vacant p.1)

  others_as_links : (h k : ℕ → Option (Entry D)) (place : ℕ) → ((j : ℕ) → j ≢ place → k j ≡ h j) → (j : ℕ) → Some place ≢ Some j → k j ≡ h j
  others_as_links h k place others j differs = others j (λ same. differs (ap Some (sym same)))

  -- a change at one place keeps a chain elsewhere
  pub IsLinked-elsewhere : (h k : ℕ → Option (Entry D)) (chain : Chain) (place : ℕ) (ns : List (Node D)) → ((j : ℕ) → j ≢ place → k j ≡ h j) → Misses (Some place) ns → IsLinked h chain ns → IsLinked k chain ns
  IsLinked-elsewhere h k chain place ns others misses p = record {
    run = IsRun-elsewhere h k (Some place) None ns None (others_as_links h k place others) misses p.run;
    apart = p.apart;
    newest = p.newest;
    oldest = p.oldest;
    len = p.len;
  }

  -- a place that was free has an entry
  pub admits_new : (h k : ℕ → Option (Entry D)) (chain : Chain) (place : ℕ) (entry : Entry D) → HasNodes h chain → h place ≡ None → k place ≡ Some entry → ((j : ℕ) → j ≢ place → k j ≡ h j) → Admits k chain place
  admits_new h k chain place entry o vacant there others =
      let misses = vacant-misses h place None o.nodes None vacant o.whole.linked.run in
      record {
        nodes = o.nodes;
        linked = IsLinked-elsewhere h k chain place o.nodes others misses o.whole.linked;
        misses = misses;
        entry = entry;
        there = there;
      }

  -- the oldest place is on the chain
  pub on_oldest : (h : ℕ → Option (Entry D)) (chain : Chain) (place : ℕ) → chain.oldest ≡ Some place → HasNodes h chain → IsOn h chain place
  on_oldest h chain place at has =
      let ends = final_some has.nodes place (sym has.whole.linked.oldest ∙ at) in
      record {
        front = ends.front;
        digest = ends.digest;
        back = [];
        linked = rw ends.is at has.whole.linked;
      }

  pub pops_none : (h : ℕ → Option (Entry D)) (chain : Chain) → chain.oldest ≡ None → (ns : List (Node D)) → IsChain h chain ns → (ns ≡ []) × (chain ≡ chain) × SameValues h h
  pops_none h chain none ns p = (final_none ns (sym p.linked.oldest ∙ none), refl, λ j. refl)

  module _ {h k l : ℕ → Option (Entry D)} {chain next : Chain} {place : ℕ} {entry : Entry D} where
    pub pushes : {digest : D} → h place ≡ None → k place ≡ Some entry → ((j : ℕ) → j ≢ place → k j ≡ h j) → Links k l chain next place digest → Pushes h l chain next place digest
    pushes vacant there others li = record {
      chains = λ ns p.
          let misses = vacant-misses h place None ns None vacant p.linked.run in
          record {
            linked = li.linked ns entry (IsLinked-elsewhere h k chain place ns others misses p.linked) misses there;
            all = λ j e now. elim (cases_eq j place) [
              | inl same ↦ inl same
              | inr differs ↦ let x = li.places j e now in inr (p.all j x.0 (sym (others j differs) ∙ x.1))
            ];
          };
    }

    pub pops : chain.oldest ≡ Some place → Unlinks h k chain next place → k place ≡ Some entry → l place ≡ None → ((j : ℕ) → j ≢ place → l j ≡ k j) → Pops h l chain next (Some entry.digest)
    pops at un there gone others ns p =
        let ends = final_some ns place (sym p.linked.oldest ∙ at) in
        let q : IsLinked h chain (ends.front ++ (place, ends.digest) ∷ []) = rw ends.is at p.linked in
        let here = at_place h chain ends.front (place, ends.digest) [] q in
        let one : here.entry ≡ entry = let same : Some here.entry ≡ Some entry = sym here.there ∙ sym un.kept ∙ there in cc in
        let read : ends.digest ≡ entry.digest = sym here.digest ∙ ap (λ (x : Entry D). x.digest) one in
        let rest : IsLinked k next ends.front = rw append-nil at (un.linked ends.front ends.digest [] q) in
        let misses : Misses (Some place) ends.front = Misses-left _ ends.front [] (Misses-taken ends.front _ [] q.apart) in (
          place,
          ends.front,
          ends.is ∙ ap (λ (d : D). ends.front ++ (place, d) ∷ []) read,
          record {
            linked = IsLinked-elsewhere k l next place ends.front others misses rest;
            all = λ j e now.
                let away : j ≢ place = λ same. let no : None ≡ Some e = sym gone ∙ ap l (sym same) ∙ now in cc in
                let x = un.places j e (sym (others j away) ∙ now) in
                let was : IsIn j (ends.front ++ (place, ends.digest) ∷ []) = rw ends.is at (p.all j x.0 x.1) in
                elim (IsIn-taken j ends.front (place, ends.digest) [] was) [
                  | inl same ↦ absurd (away same)
                  | inr found ↦ rw append-nil at found
                ];
          },
        )

  -- what stands at a place of a chain
  pub record Stands (h : ℕ → Option (Entry D)) (place : ℕ) : Type 0 where
    pub entry : Entry D
    pub there : h place ≡ Some entry
    pub fits : place + 2 < 2 ^ 32

  pub on_there : (h : ℕ → Option (Entry D)) (chain : Chain) (place : ℕ) → IsOn h chain place → Stands h place
  on_there h chain place on =
      let at = at_place h chain on.front _ on.back on.linked in
      record { entry = at.entry; there = at.there; fits = at.fits }

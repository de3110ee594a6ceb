-- What the calls on one list make of it.
use Rattle.std.proofs.Common.{Result, Ok, Err, cond, ◌≡◌, ◌+◌, ◌-◌, ◌≤◌, ℕ, inl, inr, List, [], ◌∷◌, ◌++◌, Option, Some, None, refl, sym, ap, ◌∙◌, arith}
use Rattle.std.specs.Prelude.{OnErr}
use Rattle.std.specs.List.{sum_by}
use Rattle.std.proofs.lemmas.List.{map-append}
use Rattle.std.proofs.lemmas.List.Sums.{sum_by-cons, sum_by-append}
use Rattle.entries.specs.declared.entry.Charged.{Charged}
use Rattle.entries.specs.declared.entry.Entry.{Entry}
use Rattle.entries.specs.declared.entry.Chain.{Chain}
use Rattle.entries.specs.Linked.{Node, Misses, IsIn, IsRun, IsLinked, IsChain, IsOn, HasNodes, Promotes, Pushes, Pops}
use Rattle.entries.specs.Store.{nodes, elsewhere, moved, values_of, bytes_of, IsWhole, Cuts, Trims}
use Rattle.entries.proofs.Runs.{IsRun-split, walk-run}
use Rattle.entries.proofs.Stores.{none_there, moved-parts}

-- a place of some nodes, with those before it and those after it
pub record Parts {D : Type 0} (ns : List (Node D)) (place : ℕ) : Type 0 where
  pub front : List (Node D)
  pub digest : D
  pub back : List (Node D)
  pub is : ns ≡ front ++ (place, digest) ∷ back

pub parts : {D : Type 0} (place : ℕ) (ns : List (Node D)) → IsIn place ns → Parts ns place
parts {D = D} place [] never = elim never [ ]
parts {D = D} place (n ∷ ns) (inl here) = record { front = []; digest = n.1; back = ns; is = ap (λ (i : ℕ). (i, n.1) ∷ ns) (sym here) }
parts {D = D} place (n ∷ ns) (inr later) = let p = parts place ns later in record { front = n ∷ p.front; digest = p.digest; back = p.back; is = ap (λ (l : List (Node D)). n ∷ l) p.is }

-- nothing moves where no entry stands
pub not_moved : {D : Type 0} (h : ℕ → Option (Entry D)) (c : Chain) (place : ℕ) (digest : D) (ns : List (Node D)) → h place ≡ None → IsChain h c ns → moved place digest ns ≡ ns
not_moved {D = D} h c place digest ns none p =
    let r = none_there place ns (misses None ns p.linked.run) in ap (λ b. cond b ((place, digest) ∷ elsewhere place ns) ns) r.0
  where
    misses : (before : Option ℕ) (ns : List (Node D)) → IsRun h before ns None → Misses (Some place) ns
    misses before [] p = tt
    misses before (n ∷ ns) p =
        ((λ same. let here : place ≡ n.0 = cc in let no : None ≡ Some p.0.entry = sym none ∙ ap h here ∙ p.0.there in absurd (cc)), misses (Some n.0) ns p.1)

-- a chain whose sum alone differs
abbrev pub with_bytes : ℕ → Chain → Chain
with_bytes n c = record c { bytes = n }

module _ {D : Type 0} where
  -- the nodes that a walk finds
  pub nodes-is : (h : ℕ → Option (Entry D)) (c : Chain) (ns : List (Node D)) → IsLinked h c ns → nodes h c ≡ ns
  nodes-is h c ns p = rw (p.len, p.newest) (walk-run h None ns p.run)

  IsChain-bytes : (n : ℕ) (h : ℕ → Option (Entry D)) (c : Chain) (ns : List (Node D)) → IsChain h c ns → IsChain h (with_bytes n c) ns
  IsChain-bytes n h c ns p = record {
    linked = record { run = p.linked.run; apart = p.linked.apart; newest = p.linked.newest; oldest = p.linked.oldest; len = p.linked.len };
    all = p.all;
  }

  pub bytes_of-cons : (n : Node (Charged D)) (ns : List (Node (Charged D))) → bytes_of (n ∷ ns) ≡ n.1.charge + bytes_of ns
  bytes_of-cons n ns = sum_by-cons (λ (c : Charged D). c.charge) n.1 (values_of ns)

  pub bytes_of-append : (xs ys : List (Node (Charged D))) → bytes_of (xs ++ ys) ≡ bytes_of xs + bytes_of ys
  bytes_of-append xs ys = ap (sum_by (λ (c : Charged D). c.charge)) (map-append (λ (n : Node (Charged D)). n.1) xs ys) ∙ sum_by-append (λ (c : Charged D). c.charge) (values_of xs) (values_of ys)

module _ {D : Type 0} where
  -- a chain with these nodes and their sum
  pub whole_of : (h : ℕ → Option (Entry (Charged D))) (c : Chain) (ns : List (Node (Charged D))) → IsChain h c ns → c.bytes ≡ bytes_of ns → IsWhole h c
  whole_of h c ns chain sum = let seen = nodes-is h c ns chain.linked in record { chain = rw seen chain; sum = rw seen sum }

  pub has_nodes : (h : ℕ → Option (Entry (Charged D))) (c : Chain) → IsWhole h c → HasNodes h c
  has_nodes h c whole = record { nodes = nodes h c; whole = whole.chain }

  -- a chain without links has no nodes
  pub bare : (h : ℕ → Option (Entry (Charged D))) (c : Chain) → ((j : ℕ) → h j ≡ None) → c.newest ≡ None → c.oldest ≡ None → c.len ≡ 0 → c.bytes ≡ 0 → IsWhole h c
  bare h c none newest oldest len sum = whole_of h c [] (record {
    linked = record { run = tt; apart = tt; newest = newest; oldest = oldest; len = len };
    all = λ j e there. let no : None ≡ Some e = sym (none j) ∙ there in absurd (cc);
  }) sum

  -- an entry of the list
  module _ (h : ℕ → Option (Entry (Charged D))) (c : Chain) (place : ℕ) (e : Entry (Charged D)) (whole : IsWhole h c) (there : h place ≡ Some e) where
    own_parts : Parts (nodes h c) place
    own_parts = parts place (nodes h c) (whole.chain.all place e there)

    own_chain : IsChain h c (own_parts.front ++ (place, own_parts.digest) ∷ own_parts.back)
    own_chain = rw own_parts.is at whole.chain

    pub own_on : IsOn h c place
    own_on = record { front = own_parts.front; digest = own_parts.digest; back = own_parts.back; linked = own_chain.linked }

    parts-sum : c.bytes ≡ e.digest.charge + bytes_of (own_parts.front ++ own_parts.back)
    parts-sum =
        let ps = own_parts in
        let at = (IsRun-split h _ ps.front ((place, ps.digest) ∷ ps.back) _ own_chain.linked.run).1.0 in
        let one : at.entry ≡ e = let both : Some at.entry ≡ Some e = sym at.there ∙ there in cc in
        let read : ps.digest.charge ≡ e.digest.charge = ap (λ (x : Charged D). x.charge) (sym at.digest ∙ ap (λ (x : Entry (Charged D)). x.digest) one) in
        let all : c.bytes ≡ bytes_of (ps.front ++ (place, ps.digest) ∷ ps.back) = whole.sum ∙ ap bytes_of ps.is in
        omega (arith, all, read, bytes_of-append ps.front ((place, ps.digest) ∷ ps.back), bytes_of-cons (place, ps.digest) ps.back, bytes_of-append ps.front ps.back)

    -- its charge is part of the sum
    pub place-charge : e.digest.charge ≤ c.bytes
    place-charge = omega (arith, parts-sum)

    -- what a promotion makes of the list
    pub renews : (k : ℕ → Option (Entry (Charged D))) (next : Chain) (n : ℕ) (digest : Charged D) → Promotes h k c next place digest → n ≡ (c.bytes - e.digest.charge) + digest.charge
        → IsWhole k (with_bytes n next) × (nodes k (with_bytes n next) ≡ moved place digest (nodes h c))
    renews k next n digest promotes sum =
        let ps = own_parts in
        let chain = IsChain-bytes n k next ((place, digest) ∷ (ps.front ++ ps.back)) (promotes.chains ps.front ps.digest ps.back own_chain) in
        let total : n ≡ bytes_of ((place, digest) ∷ (ps.front ++ ps.back)) = omega (arith, sum, parts-sum, bytes_of-cons (place, digest) (ps.front ++ ps.back)) in
        let is_moved : moved place digest (nodes h c) ≡ (place, digest) ∷ (ps.front ++ ps.back) =
        ap (moved place digest) ps.is ∙ moved-parts place digest ps.digest ps.front ps.back own_chain.linked.apart in (
          whole_of k (with_bytes n next) ((place, digest) ∷ (ps.front ++ ps.back)) chain total,
          nodes-is k (with_bytes n next) ((place, digest) ∷ (ps.front ++ ps.back)) chain.linked ∙ sym is_moved,
        )

  -- what a digest in front makes of the list
  pub fronts : (h k : ℕ → Option (Entry (Charged D))) (c next : Chain) (n place : ℕ) (digest : Charged D) → IsWhole h c → Pushes h k c next place digest → n ≡ c.bytes + digest.charge
      → IsWhole k (with_bytes n next) × (nodes k (with_bytes n next) ≡ (place, digest) ∷ nodes h c)
  fronts h k c next n place digest whole pushes sum =
      let ns = (place, digest) ∷ nodes h c in
      let chain = IsChain-bytes n k next ((place, digest) ∷ nodes h c) (pushes.chains (nodes h c) whole.chain) in (
        whole_of k (with_bytes n next) ((place, digest) ∷ nodes h c) chain (omega (arith, sum, whole.sum, bytes_of-cons (place, digest) (nodes h c))),
        nodes-is k (with_bytes n next) ((place, digest) ∷ nodes h c) chain.linked,
      )

  -- the charge of the oldest is part of the sum
  pub oldest-charge : (h k : ℕ → Option (Entry (Charged D))) (c next : Chain) (stale : Charged D) → HasNodes h c → c.bytes ≡ bytes_of (nodes h c) → Pops h k c next (Some stale) → stale.charge ≤ c.bytes
  oldest-charge h k c next stale has sum pops =
      let r = pops has.nodes has.whole in
      omega (arith, sum, ap bytes_of (nodes-is h c has.nodes has.whole.linked ∙ r.2), bytes_of-append r.1 ((r.0, stale) ∷ []), bytes_of-cons (r.0, stale) [])

  -- what is left of a list that is cut
  pub trims : (h k : ℕ → Option (Entry (Charged D))) (c next : Chain) (size : ℕ) (stale : Option (Charged D)) → IsWhole h c → Trims size h k c next stale
      → IsWhole k next × Cuts size stale (nodes h c) (nodes k next)
  trims h k c next size None whole t = (rw (t.1, t.2) whole, (omega (arith, whole.chain.linked.len, t.0), rw (t.1, t.2) refl))
  trims h k c next size (Some stale) whole t =
      let r = t.1 (nodes h c) whole.chain in
      let seen = nodes-is k next r.1 r.3.linked in (
        whole_of k next r.1 r.3
            (omega (arith, t.2, whole.sum, ap bytes_of r.2, bytes_of-append r.1 ((r.0, stale) ∷ []), bytes_of-cons (r.0, stale) [])),
        (omega (arith, whole.chain.linked.len, t.0), record { place = r.0; last = rw seen r.2 }),
      )

  pub Cuts-along : (size : ℕ) (stale : Option (Charged D)) (ms ns out : List (Node (Charged D))) → ms ≡ ns → Cuts size stale ms out → Cuts size stale ns out
  Cuts-along size stale ms ns out same cut = rw same at cut

-- what holds, holds on an error
pub on_err : {A E : Type 0} {P : Type 0} (r : Result A E) → P → OnErr r P
on_err (Ok a) p = tt
on_err (Err e) p = p

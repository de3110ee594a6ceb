-- What a report shows of a log.
use Rattle.std.proofs.Common.{◌≡◌, ◌≤◌, ◌<◌, ℕ, ◌+◌, ◌-◌, true, false, Bool, List, [], ◌∷◌, length, drop, arith, refl, subst, inl, inr, Contains, map}
use Rattle.std.specs.Prelude.{nat_le, nat_lt, nat_eq, ◌&&◌, ◌||◌, if◌then◌else◌}
use Rattle.std.proofs.lemmas.Bool.Decides.{nat_tests}
use Rattle.std.proofs.lemmas.Bool.{eqb-false, le-leb, leb-false, leb-true}
use Rattle.gossip.specs.declared.span.Span.{Span}
use Rattle.gossip.specs.declared.message.Message.{Message}
use Rattle.gossip.specs.Spans.{is_in, is_had, IsBefore, IsApart, IsRooted, AreFilled, IsCoverage, top_of}
use Rattle.gossip.specs.Newest.{Rise, has_stamp}
use Rattle.gossip.specs.Held.{Later}
use Rattle.gossip.specs.Showing.{span_of}
use Rattle.gossip.specs.Cutting.{shown}
use Rattle.gossip.specs.Members.{Has}
use Rattle.gossip.proofs.Fitting.{has_from, contains_from}
use Rattle.gossip.proofs.Converging.{there_is}
use Rattle.gossip.proofs.Covering.{had_up_to_top}

or_right : (a b : Bool) → b ≡ true → (a || b) ≡ true
or_right true b h = refl
or_right false b h = h

or_left : (a b : Bool) → a ≡ true → (a || b) ≡ true
or_left true b h = refl
or_left false true h = refl
or_left false false h = h

abbrev longer : Span → Message → Span
longer x m = record { from = x.from; to = m.stamp }

before : (e n : ℕ) (x : Span) (ms : List Message) → e < x.from → IsBefore e (shown n x ms)
before e n x [] h = h
before e n x (m ∷ ms) h =
    elim (nat_le m.prev x.to) as (λ t. IsBefore e (if t then shown n (longer x m) ms else (if nat_eq n 0 then x ∷ [] else x ∷ shown (n - 1) (span_of m) ms))) [
      | true ↦ before e n (longer x m) ms h
      | false ↦ (elim (nat_eq n 0) as (λ t. IsBefore e (if t then x ∷ [] else x ∷ shown (n - 1) (span_of m) ms)) [
        | true ↦ h
        | false ↦ h
      ])
    ]

rooted : (n : ℕ) (x : Span) (ms : List Message) → x.from ≡ 0 → IsRooted (shown n x ms)
rooted n x [] h = h
rooted n x (m ∷ ms) h =
    elim (nat_le m.prev x.to) as (λ t. IsRooted (if t then shown n (longer x m) ms else (if nat_eq n 0 then x ∷ [] else x ∷ shown (n - 1) (span_of m) ms))) [
      | true ↦ rooted n (longer x m) ms h
      | false ↦ (elim (nat_eq n 0) as (λ t. IsRooted (if t then x ∷ [] else x ∷ shown (n - 1) (span_of m) ms)) [
        | true ↦ h
        | false ↦ h
      ])
    ]

apart : (n : ℕ) (x : Span) (ms : List Message) → x.from ≤ x.to → Rise x.to ms → Later ms → IsApart (shown n x ms)
apart n x [] h r l = (h, tt, tt)
apart n x (m ∷ ms) h r l =
    (elim (nat_le m.prev x.to) as (λ t. nat_le m.prev x.to ≡ t → IsApart (if t then shown n (longer x m) ms else (if nat_eq n 0 then x ∷ [] else x ∷ shown (n - 1) (span_of m) ms))) [
      | true ↦ λ e. apart n (longer x m) ms (let up = r.0 in omega (arith, h, up)) r.1 l.1
      | false ↦ λ e. (elim (nat_eq n 0) as (λ t. IsApart (if t then x ∷ [] else x ∷ shown (n - 1) (span_of m) ms)) [
        | true ↦ (h, tt, tt)
        | false ↦ (h, before x.to (n - 1) (span_of m) ms (leb-false m.prev x.to e), apart (n - 1) (span_of m) ms (let g = l.0 in omega (arith, g)) r.1 l.1)
      ])
    ]) refl

few : (n : ℕ) (x : Span) (ms : List Message) → length (shown n x ms) ≤ n + 1
few n x [] = omega arith
few n x (m ∷ ms) =
    elim (nat_le m.prev x.to) as (λ t. length (if t then shown n (longer x m) ms else (if nat_eq n 0 then x ∷ [] else x ∷ shown (n - 1) (span_of m) ms)) ≤ n + 1) [
      | true ↦ few n (longer x m) ms
      | false ↦ (elim (nat_eq n 0) as (λ t. nat_eq n 0 ≡ t → length (if t then x ∷ [] else x ∷ shown (n - 1) (span_of m) ms) ≤ n + 1) [
        | true ↦ λ e. omega arith
        | false ↦ λ e. (let i = few (n - 1) (span_of m) ms in let ne = eqb-false n 0 e in omega (arith, i, ne))
      ]) refl
    ]

filled : (n : ℕ) (x : Span) (ms : List Message) → Rise x.to ms → Later ms → AreFilled (drop 1 (shown n x ms)) × (x.from < x.to → AreFilled (shown n x ms))
filled n x [] r l = (tt, λ h. (h, tt))
filled n x (m ∷ ms) r l =
    elim (nat_le m.prev x.to) as (λ t. AreFilled (drop 1 (if t then shown n (longer x m) ms else (if nat_eq n 0 then x ∷ [] else x ∷ shown (n - 1) (span_of m) ms)))
    × (x.from < x.to → AreFilled (if t then shown n (longer x m) ms else (if nat_eq n 0 then x ∷ [] else x ∷ shown (n - 1) (span_of m) ms)))) [
      | true ↦ (let i = filled n (longer x m) ms r.1 l.1 in (i.0, λ h. i.1 (let up = r.0 in omega (arith, h, up))))
      | false ↦ (elim (nat_eq n 0) as (λ t. AreFilled (drop 1 (if t then x ∷ [] else x ∷ shown (n - 1) (span_of m) ms))
          × (x.from < x.to → AreFilled (if t then x ∷ [] else x ∷ shown (n - 1) (span_of m) ms))) [
            | true ↦ (tt, λ h. (h, tt))
            | false ↦ (let i = filled (n - 1) (span_of m) ms r.1 l.1 in (i.1 l.0, λ h. (h, i.1 l.0)))
          ])
    ]

pub is_coverage : (f : ℕ) (ms : List Message) → Rise f ms → Later ms → IsCoverage 64 (shown 63 (record { from = 0; to = f }) ms)
is_coverage f ms r l = record {
  rooted = rooted 63 (record { from = 0; to = f }) ms refl;
  apart = apart 63 (record { from = 0; to = f }) ms (omega arith) r l;
  filled = (filled 63 (record { from = 0; to = f }) ms r l).0;
  few = few 63 (record { from = 0; to = f }) ms;
}

-- ---- it shows only what is covered

split : (s a b p c : ℕ) (r : Bool) → p ≤ b → ((nat_lt a s && nat_le s c) || r) ≡ true
    → ((nat_lt a s && nat_le s b) || ((nat_lt p s && nat_le s c) || r)) ≡ true
split s a b p c r h g = grind (arith, nat_tests)

skip : (p q r : Bool) → (p || r) ≡ true → (p || (q || r)) ≡ true
skip true q r h = refl
skip false q r h = or_right q r h

pub within : (s n : ℕ) (x : Span) (ms : List Message) → is_had s (shown n x ms) ≡ true → is_had s (x ∷ map span_of ms) ≡ true
within s n x [] h = h
within s n x (m ∷ ms) h =
    (elim (nat_le m.prev x.to) as (λ t. nat_le m.prev x.to ≡ t
    → is_had s (if t then shown n (longer x m) ms else (if nat_eq n 0 then x ∷ [] else x ∷ shown (n - 1) (span_of m) ms)) ≡ true
    → is_had s (x ∷ map span_of (m ∷ ms)) ≡ true) [
      | true ↦ λ e g. split s x.from x.to m.prev m.stamp (is_had s (map span_of ms)) (leb-true m.prev x.to e) (within s n (longer x m) ms g)
      | false ↦ λ e g. (elim (nat_eq n 0) as (λ t. is_had s (if t then x ∷ [] else x ∷ shown (n - 1) (span_of m) ms) ≡ true → is_had s (x ∷ map span_of (m ∷ ms)) ≡ true) [
        | true ↦ λ k. one_more (is_in s x) (is_had s (map span_of (m ∷ ms))) k
        | false ↦ λ k. under (is_in s x) (is_had s (shown (n - 1) (span_of m) ms)) (is_had s (map span_of (m ∷ ms))) k (λ j. within s (n - 1) (span_of m) ms j)
      ]) g
    ]) refl h
  where
    one_more : (p q : Bool) → (p || false) ≡ true → (p || q) ≡ true
    one_more true q k = refl
    one_more false q k = (let no : ⊥ = cc in absurd no)

    under : (p q r : Bool) → (p || q) ≡ true → (q ≡ true → r ≡ true) → (p || r) ≡ true
    under true q r k f = refl
    under false q r k f = f k

-- ---- of the listed messages it shows those up to its top

first_stays : (s n : ℕ) (x : Span) (ms : List Message) → Rise x.to ms → is_in s x ≡ true → is_had s (shown n x ms) ≡ true
first_stays s n x [] r h = or_left (is_in s x) false h
first_stays s n x (m ∷ ms) r h =
    elim (nat_le m.prev x.to) as (λ t. is_had s (if t then shown n (longer x m) ms else (if nat_eq n 0 then x ∷ [] else x ∷ shown (n - 1) (span_of m) ms)) ≡ true) [
      | true ↦ first_stays s n (longer x m) ms r.1 (wider s x.from x.to m.stamp r.0 h)
      | false ↦ (elim (nat_eq n 0) as (λ t. is_had s (if t then x ∷ [] else x ∷ shown (n - 1) (span_of m) ms) ≡ true) [
        | true ↦ or_left (is_in s x) false h
        | false ↦ or_left (is_in s x) (is_had s (shown (n - 1) (span_of m) ms)) h
      ])
    ]
  where
    wider : (s a b c : ℕ) → b < c → (nat_lt a s && nat_le s b) ≡ true → (nat_lt a s && nat_le s c) ≡ true
    wider s a b c l g = grind (arith, nat_tests)

top_cons : (x : Span) (n : ℕ) (y : Span) (ms : List Message) → top_of (x ∷ shown n y ms) ≡ top_of (shown n y ms)
top_cons x n y [] = refl
top_cons x n y (m ∷ ms) =
    elim (nat_le m.prev y.to) as (λ t. top_of (x ∷ (if t then shown n (longer y m) ms else (if nat_eq n 0 then y ∷ [] else y ∷ shown (n - 1) (span_of m) ms)))
    ≡ top_of (if t then shown n (longer y m) ms else (if nat_eq n 0 then y ∷ [] else y ∷ shown (n - 1) (span_of m) ms))) [
      | true ↦ top_cons x n (longer y m) ms
      | false ↦ (elim (nat_eq n 0) as (λ t. top_of (x ∷ (if t then y ∷ [] else y ∷ shown (n - 1) (span_of m) ms)) ≡ top_of (if t then y ∷ [] else y ∷ shown (n - 1) (span_of m) ms)) [
        | true ↦ refl
        | false ↦ refl
      ])
    ]

own : (a b : ℕ) → a < b → (nat_lt a b && nat_le b b) ≡ true
own a b h = grind (arith, nat_tests)

later_than : (s : ℕ) (ms : List Message) (m : Message) → Rise s ms → Has ms m → s < m.stamp
later_than s [] m r h = absurd h
later_than s (x ∷ xs) m r (inl e) = subst (λ (y : Message). s < y.stamp) e r.0
later_than s (x ∷ xs) m r (inr h) = (let l = r.0 in let i = later_than x.stamp xs m r.1 h in omega (arith, l, i))

up_to_top : (n : ℕ) (x : Span) (ms : List Message) (m : Message) → x.from ≤ x.to → Rise x.to ms → Later ms → Has ms m
    → m.stamp ≤ top_of (shown n x ms) → is_had m.stamp (shown n x ms) ≡ true
up_to_top n x [] m o r l h low = absurd h
up_to_top n x (y ∷ ms) m o r l h low =
    (elim (nat_le y.prev x.to) as (λ t. m.stamp ≤ top_of (if t then shown n (longer x y) ms else (if nat_eq n 0 then x ∷ [] else x ∷ shown (n - 1) (span_of y) ms))
    → is_had m.stamp (if t then shown n (longer x y) ms else (if nat_eq n 0 then x ∷ [] else x ∷ shown (n - 1) (span_of y) ms)) ≡ true) [
      | true ↦ λ g. elim h [
        | inl e ↦ subst (λ (z : Message). is_had z.stamp (shown n (longer x y) ms) ≡ true) e
            (first_stays y.stamp n (longer x y) ms r.1 (own x.from y.stamp (let up = r.0 in omega (arith, o, up))))
        | inr there ↦ up_to_top n (longer x y) ms m (let up = r.0 in omega (arith, o, up)) r.1 l.1 there g
      ]
      | false ↦ λ g. (elim (nat_eq n 0) as (λ t. m.stamp ≤ top_of (if t then x ∷ [] else x ∷ shown (n - 1) (span_of y) ms)
          → is_had m.stamp (if t then x ∷ [] else x ∷ shown (n - 1) (span_of y) ms) ≡ true) [
            | true ↦ λ k. absurd (let up = later_than x.to (y ∷ ms) m r h in let no : ⊥ = omega (arith, up, k) in no)
            | false ↦ λ k. or_right (is_in m.stamp x) (is_had m.stamp (shown (n - 1) (span_of y) ms)) (elim h as (λ _. is_had m.stamp (shown (n - 1) (span_of y) ms) ≡ true) [
              | inl e ↦ subst (λ (z : Message). is_had z.stamp (shown (n - 1) (span_of y) ms) ≡ true) e
                  (first_stays y.stamp (n - 1) (span_of y) ms r.1 (own y.prev y.stamp l.0))
              | inr there ↦ up_to_top (n - 1) (span_of y) ms m (let g' = l.0 in omega (arith, g')) r.1 l.1 there
                  (let e = top_cons x (n - 1) (span_of y) ms in omega (arith, k, e))
            ])
          ]) g
    ]) low

pub listed : (f : ℕ) (ms : List Message) (m : Message) → Rise f ms → Later ms → Contains ms m
    → is_had m.stamp (shown 63 (record { from = 0; to = f }) ms) ≡ nat_le m.stamp (top_of (shown 63 (record { from = 0; to = f }) ms))
listed f ms m r l c =
    let top = top_of (shown 63 (record { from = 0; to = f }) ms) in
    (elim (nat_le m.stamp top) as (λ t. nat_le m.stamp top ≡ t → is_had m.stamp (shown 63 (record { from = 0; to = f }) ms) ≡ t) [
      | true ↦ λ e. up_to_top 63 (record { from = 0; to = f }) ms m (omega arith) r l (has_from ms m c) (leb-true m.stamp top e)
      | false ↦ λ e. (elim (is_had m.stamp (shown 63 (record { from = 0; to = f }) ms)) as (λ t. is_had m.stamp (shown 63 (record { from = 0; to = f }) ms) ≡ t → t ≡ false) [
        | true ↦ λ g. (
            let low : m.stamp ≤ top = had_up_to_top m.stamp (shown 63 (record { from = 0; to = f }) ms) (apart 63 (record { from = 0; to = f }) ms (omega arith) r l) g in
            let over = leb-false m.stamp top e in
            absurd (let no : ⊥ = omega (arith, low, over) in no))
        | false ↦ λ g. refl
      ]) refl
    ]) refl

root : (s f : ℕ) → 0 < s → s ≤ f → (nat_lt 0 s && nat_le s f) ≡ true
root s f h g = grind (arith, nat_tests)

pub floor_shown : (s f : ℕ) (ms : List Message) → Rise f ms → 0 < s → s ≤ f → is_had s (shown 63 (record { from = 0; to = f }) ms) ≡ true
floor_shown s f ms r h g = first_stays s 63 (record { from = 0; to = f }) ms r (root s f h g)

-- what the report reaches up to and does not show is not known
pub not_known : (s f : ℕ) (ms : List Message) → Rise f ms → Later ms → 0 < s → s ≤ top_of (shown 63 (record { from = 0; to = f }) ms)
    → is_had s (shown 63 (record { from = 0; to = f }) ms) ≡ false → (nat_le s f || has_stamp s ms) ≡ false
not_known s f ms r l pos low hidden =
    (elim (nat_le s f) as (λ t. nat_le s f ≡ t → (t || has_stamp s ms) ≡ false) [
      | true ↦ λ e. absurd (let known = floor_shown s f ms r pos (leb-true s f e) in let no : ⊥ = cc in no)
      | false ↦ λ e. (elim (has_stamp s ms) as (λ t. has_stamp s ms ≡ t → t ≡ false) [
        | true ↦ λ g. absurd (
            let n = there_is s ms g in
            let at = listed f ms n.0 r l (contains_from ms n.0 n.1) in
            let at' : is_had s (shown 63 (record { from = 0; to = f }) ms) ≡ nat_le s (top_of (shown 63 (record { from = 0; to = f }) ms)) =
            subst (λ (k : ℕ). is_had k (shown 63 (record { from = 0; to = f }) ms) ≡ nat_le k (top_of (shown 63 (record { from = 0; to = f }) ms))) n.2 at in
            let yes = le-leb s (top_of (shown 63 (record { from = 0; to = f }) ms)) low in
            let no : ⊥ = cc in no)
        | false ↦ λ g. refl
      ]) refl
    ]) refl

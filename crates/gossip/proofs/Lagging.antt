-- What a peer lacks of a list.
use Rattle.std.proofs.Common.{◌≡◌, ◌≤◌, ◌<◌, ℕ, ◌+◌, true, false, Bool, List, [], ◌∷◌, arith, refl}
use Rattle.std.specs.Prelude.{nat_le, if◌then◌else◌}
use Rattle.std.proofs.lemmas.Bool.Decides.{nat_tests}
use Rattle.gossip.specs.declared.span.Span.{Span}
use Rattle.gossip.specs.declared.message.Message.{Message}
use Rattle.gossip.specs.Spans.{is_had, IsApart}
use Rattle.gossip.specs.Newest.{charge}
use Rattle.gossip.specs.Held.{total}
use Rattle.gossip.specs.Sending.{lag}
use Rattle.gossip.specs.Parts.{bytes_had, bytes_up_to}
use Rattle.gossip.proofs.Covering.{none_before}
use Rattle.gossip.proofs.Lacking.{ahead, passed, within}

-- each message was had, or is lacking
pub parts : (had : List Span) (list : List Message) → lag had list + bytes_had had list ≡ total list
parts had [] = refl
parts had (m ∷ ms) =
    let i = parts had ms in
    let h = one (is_had m.stamp had) (charge m) in
    omega (arith, i, h)
  where
    one : (b : Bool) (n : ℕ) → (if b then 0 else n) + (if b then n else 0) ≡ n
    one true n = omega arith
    one false n = omega arith

-- nothing is had of no span
pub none_had : (list : List Message) → bytes_had [] list ≡ 0
none_had [] = refl
none_had (m ∷ ms) = (let i = none_had ms in omega (arith, i))

le_true : (a b : ℕ) → a ≤ b → nat_le a b ≡ true
le_true a b h = grind (arith, nat_tests)

-- one message: with the first span it is had or up to the beginning, or else it is had by others or up to the end
one_span : (m : Message) (x : Span) (rest : List Span) → IsApart (x ∷ rest)
    → (if is_had m.stamp (x ∷ rest) then charge m else 0) + (if nat_le m.stamp x.from then charge m else 0)
    ≡ (if is_had m.stamp rest then charge m else 0) + (if nat_le m.stamp x.to then charge m else 0)
one_span m x rest ap =
    (elim (nat_le m.stamp x.from) as (λ t. nat_le m.stamp x.from ≡ t
    → (if is_had m.stamp (x ∷ rest) then charge m else 0) + (if t then charge m else 0)
    ≡ (if is_had m.stamp rest then charge m else 0) + (if nat_le m.stamp x.to then charge m else 0)) [
      | true ↦ λ e. (let low : m.stamp ≤ x.from = grind (arith, nat_tests) in
          rw (ahead m.stamp x rest low ap, none_before m.stamp x.to rest (omega (arith, low, ap.0)) ap.1 ap.2, le_true m.stamp x.to (omega (arith, low, ap.0))) refl)
      | false ↦ λ e. (let after : x.from < m.stamp = grind (arith, nat_tests) in
          (elim (nat_le m.stamp x.to) as (λ t. nat_le m.stamp x.to ≡ t
          → (if is_had m.stamp (x ∷ rest) then charge m else 0) + 0
          ≡ (if is_had m.stamp rest then charge m else 0) + (if t then charge m else 0)) [
            | true ↦ λ f. (let upto : m.stamp ≤ x.to = grind (arith, nat_tests) in
                rw (within m.stamp x rest after upto, none_before m.stamp x.to rest (omega (arith, upto)) ap.1 ap.2) (omega arith))
            | false ↦ λ f. (let beyond : x.to < m.stamp = grind (arith, nat_tests) in
                rw (passed m.stamp x rest beyond) refl)
          ]) refl)
    ]) refl

pub first_span : (x : Span) (rest : List Span) (list : List Message) → IsApart (x ∷ rest)
    → bytes_had (x ∷ rest) list + bytes_up_to x.from list ≡ bytes_had rest list + bytes_up_to x.to list
first_span x rest [] ap = refl
first_span x rest (m ∷ ms) ap =
    let i = first_span x rest ms ap in
    let h = one_span m x rest ap in
    omega (arith, i, h)

pub up_to_rises : (a b : ℕ) (list : List Message) → a ≤ b → bytes_up_to a list ≤ bytes_up_to b list
up_to_rises a b [] h = omega arith
up_to_rises a b (m ∷ ms) h =
    let i = up_to_rises a b ms h in
    let one = rises (nat_le m.stamp a) (nat_le m.stamp b) (λ e. le_true m.stamp b (grind (arith, nat_tests))) in
    omega (arith, i, one)
  where
    rises : (p q : Bool) → (p ≡ true → q ≡ true) → (if p then charge m else 0) ≤ (if q then charge m else 0)
    rises true q g = rw (g refl) (omega arith)
    rises false true g = omega arith
    rises false false g = omega arith

-- What is reported of a log is the coverage of its report.
use Rattle.std.proofs.Common.{◌≡◌, ◌≤◌, ◌<◌, ℕ, true, List, [], ◌∷◌, length, drop, refl, sym, subst, ap, Contains}
use Rattle.std.specs.Prelude.{nat_le}
use Rattle.entries.specs.Overlaid.{overlaid}
use Rattle.gossip.specs.declared.span.Span.{Span}
use Rattle.gossip.specs.declared.message.Message.{Message}
use Rattle.gossip.specs.Held.{Held}
use Rattle.gossip.specs.Showing.{covered}
use Rattle.gossip.specs.Spans.{IsCoverage, IsRooted, floor_of, is_had, top_of}
use Rattle.broadcast_c.specs.Coverages.{coverage_of}
use Rattle.broadcast_c.specs.Logs.{Reports}

-- a coverage is its floor and the spans above it
parts : (r : List Span) → IsRooted r → coverage_of (floor_of r) (drop 1 r) ≡ r
parts [] h = absurd h
parts (x ∷ xs) h = ap (λ (f : ℕ). record { from = f; to = x.to } ∷ xs) (sym h)

pub reports : (held : Held) (r out : List Span) → IsCoverage 64 r → ((s : ℕ) → is_had s r ≡ true → is_had s (covered held) ≡ true)
    → ((m : Message) → Contains held.list m → is_had m.stamp r ≡ nat_le m.stamp (top_of r))
    → ((s : ℕ) → 0 < s → s ≤ held.floor → is_had s r ≡ true)
    → Reports held (floor_of r) (length (drop 1 r)) out (overlaid (drop 1 r) out)
reports held r out is within listed up_to_floor =
    let whole = parts r is.rooted in
    record {
      spans = drop 1 r;
      filled = refl;
      count = refl;
      coverage = subst (λ (y : List Span). IsCoverage 64 y) (sym whole) is;
      within = λ s h. within s (subst (λ (y : List Span). is_had s y ≡ true) whole h);
      listed = λ m h. subst (λ (y : List Span). is_had m.stamp y ≡ nat_le m.stamp (top_of y)) (sym whole) (listed m h);
      up_to_floor = λ s pos low. subst (λ (y : List Span). is_had s y ≡ true) (sym whole) (up_to_floor s pos low);
    }

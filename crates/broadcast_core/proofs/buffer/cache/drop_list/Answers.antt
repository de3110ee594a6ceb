use Rattle.std.proofs.Common.{◌≡◌, ℕ, cond, List, None, sym, ap, ◌∙◌}
use Rattle.std.specs.List.{IsDistinct}
use Rattle.std.specs.Map.{lookup, keys_of, remove_entry}
use Rattle.std.specs.Ordering.{eq_by_cmp}
use Rattle.std.specs.Cmp.{eq_by_cmp_equiv, IsTotalOrder}
use Rattle.std.specs.declared.cmp.Ordering.{Ordering}
use Rattle.std.proofs.lemmas.Map.{lookup-remove_entry, none_passes_from_lookup}
use Rattle.std.proofs.lemmas.Map.Keys.{IsDistinct-from_sorted}
use Rattle.entries.proofs.Bucketed.{remove_none}
use Rattle.broadcast_core.proofs.Parting.{Sheds-none}
use Rattle.broadcast_core.proofs.Numbering.{IsNumbered-dropped, Drops-named, Drops-nothing}
use Rattle.broadcast_core.proofs.buffer.cache.drop_list.Goals as goal

module _ {P : Type 0} {cmp : P → P → Ordering} (order : IsTotalOrder cmp) (p : P) (numbers left : List (P × ℕ)) (removed : left ≡ remove_entry (eq_by_cmp cmp p) numbers) where
  -- the other peers keep their numbers
  others : IsDistinct (eq_by_cmp cmp) (keys_of numbers) → (q : P) → lookup (eq_by_cmp cmp q) left ≡ cond (eq_by_cmp cmp p q) None (lookup (eq_by_cmp cmp q) numbers)
  others distinct q = ap (lookup (eq_by_cmp cmp q)) removed
      ∙ lookup-remove_entry (eq_by_cmp_equiv order) (eq_by_cmp cmp p) (λ x y is. (eq_by_cmp_equiv order).congr p x y is) q numbers distinct

  -- a peer without a number changes none
  same : lookup (eq_by_cmp cmp p) numbers ≡ None → left ≡ numbers
  same none = removed ∙ remove_none (eq_by_cmp cmp p) numbers (none_passes_from_lookup (eq_by_cmp cmp p) numbers none)

pub returns-in-Some-clause-numbered : goal.returns-in-Some-clause-numbered
returns-in-Some-clause-numbered g c =
    let less = others g.met.P.Ord.total c.args.peer.now c.args.numbers.now c.remove-list.new.self c.remove-list.ensures.removed c.requires.peers in
    let distinct = IsDistinct-from_sorted g.P.Ord.cmp (keys_of c.remove-list.new.self) c.len-peers.ensures.ordered in
    IsNumbered-dropped g.P.Ord.cmp g.M.Digest.Ord.cmp (eq_by_cmp_equiv g.met.P.Ord.total) c.args.numbers.now c.remove-list.new.self c.args.peer.now c.args.shelf.now.stored c.requires less distinct
    c.in-Some.list (sym c.remove-list.ensures.value ∙ c.in-Some.is) c.remove.new.self.stored c.remove.ensures.dropped

pub returns-in-Some-clause-dropped : goal.returns-in-Some-clause-dropped
returns-in-Some-clause-dropped g c =
    let less = others g.met.P.Ord.total c.args.peer.now c.args.numbers.now c.remove-list.new.self c.remove-list.ensures.removed c.requires.peers in
    let distinct = IsDistinct-from_sorted g.P.Ord.cmp (keys_of c.remove-list.new.self) c.len-peers.ensures.ordered in
    Drops-named g.P.Ord.cmp g.M.Digest.Ord.cmp (eq_by_cmp_equiv g.met.P.Ord.total) c.args.numbers.now c.remove-list.new.self c.args.peer.now c.args.shelf.now.stored c.requires less distinct
    c.in-Some.list (sym c.remove-list.ensures.value ∙ c.in-Some.is) c.remove.new.self.stored c.remove.ensures.dropped

pub returns-in_default-clause-numbered : goal.returns-in_default-clause-numbered
returns-in_default-clause-numbered g c =
    let none = sym c.remove-list.ensures.value ∙ c.in_default.is in
    rw (same g.met.P.Ord.total c.args.peer.now c.args.numbers.now c.remove-list.new.self c.remove-list.ensures.removed none) c.requires

pub returns-in_default-clause-dropped : goal.returns-in_default-clause-dropped
returns-in_default-clause-dropped g c =
    let none = sym c.remove-list.ensures.value ∙ c.in_default.is in
    rw (same g.met.P.Ord.total c.args.peer.now c.args.numbers.now c.remove-list.new.self c.remove-list.ensures.removed none)
    (Drops-nothing g.P.Ord.cmp g.M.Digest.Ord.cmp (eq_by_cmp_equiv g.met.P.Ord.total) c.args.numbers.now c.args.peer.now c.args.shelf.now.stored c.requires none)

pub returns-in_default-clause-sheds : goal.returns-in_default-clause-sheds
returns-in_default-clause-sheds g c = Sheds-none (eq_by_cmp g.M.Digest.Ord.cmp) c.args.shelf.now

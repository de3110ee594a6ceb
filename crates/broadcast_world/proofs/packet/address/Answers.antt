use Rattle.std.proofs.Common.{◌≡◌, true, false, ◌∷◌, [], ◌++◌, length, arith, sym, ap, ◌∙◌, subst}
use Rattle.std.specs.List.{filter_map, list_any}
use Rattle.std.specs.Cmp.{eq_by_cmp_equiv}
use Rattle.std.specs.Ordering.{eq_by_cmp}
use Rattle.std.proofs.lemmas.Option.{slice_get_within}
use Rattle.broadcast_core.specs.Concerns.{AreEqual}
use Rattle.broadcast_world.specs.World.{addressed_of, node}
use Rattle.broadcast_world.proofs.Addressed.{addressed-none, addressed-some, addressed-sender, addressed-again, addressed-new, any-copied}
use Rattle.broadcast_world.proofs.Places.{AllZip-append, key_read}
use Rattle.broadcast_world.proofs.packet.address.Goals as goal
use Rattle.broadcast_world.proofs.packet.address.Goals.{then-is_same-via-then-is_same, then-is_same-via-else-is_same+then-is_among}

pub returns-in_default : goal.returns-in_default
returns-in_default g c = λ w is keys h.
    subst (λ ps. AreEqual (eq_by_cmp g.P.Ord.cmp) c.args.to.now.items ps) (sym (addressed-none g.P.Ord.cmp w c.args.sender.now c.args.key.now keys (rw is c.in_default.ensures))) h

pub offset_bounds-as_slice-place : goal.offset_bounds-as_slice-place
offset_bounds-as_slice-place g c = omega (arith, slice_get_within c.args.nodes.now c.in-Some.place c.in-Some.ensures.0 c.in-Some.ensures.1, ap (λ xs. length xs) c.as_slice.ensures.keys)

pub bounds-as_slice-place : goal.bounds-as_slice-place
bounds-as_slice-place g c = omega (arith, slice_get_within c.args.nodes.now c.in-Some.place c.in-Some.ensures.0 c.in-Some.ensures.1, ap (λ xs. length xs) c.as_slice.ensures.keys)

pub returns-then-is_same : goal.returns-then-is_same
returns-then-is_same g c = λ w is keys h.
    let same = eq_by_cmp g.P.Ord.cmp in
    let total = g.met.P.Ord.total in
    let laws = eq_by_cmp_equiv total in
    let x = c.in-Some.ensures.0 in
    let n = c.args.sender.now in
    let named = filter_map (node g.P.Ord.cmp w) keys in
    let read : c.index-as_slice-place.result ≡ x = key_read c.as_slice.result.now c.args.nodes.now c.in-Some.place x c.index-as_slice-place.result c.in-Some.ensures.1 c.as_slice.ensures.keys c.index-as_slice-place.is in
    let some = addressed-some g.P.Ord.cmp w n c.args.key.now x keys (rw is c.in-Some.ensures.2) in
    elim c.then-is_same.branch [
      | then-is_same-via-then-is_same b ↦
          let equal : same n x ≡ true = ap (same n) (sym read) ∙ sym c.is_same.ensures ∙ b.if-is_same.true in
          subst (λ ps. AreEqual same c.args.to.now.items ps) (sym (some ∙ addressed-sender same laws n x named equal)) h
      | then-is_same-via-else-is_same+then-is_among b ↦
          let other : same n x ≡ false = ap (same n) (sym read) ∙ sym c.is_same.ensures ∙ b.if-is_same.false in
          let there : list_any (λ k. same k x) c.args.to.now.items ≡ true =
          ap (λ y. list_any (λ k. same k y) c.args.to.now.items) (sym read) ∙ ap (λ ys. list_any (λ k. same k c.index-as_slice-place.result) ys) (sym b.deref.ensures.value) ∙ sym b.is_among.ensures ∙ b.if-is_among.true in
          subst (λ ps. AreEqual same c.args.to.now.items ps) (sym (some ∙ addressed-again same laws n x named other (sym (any-copied g.P.Ord.cmp w total x c.args.to.now.items (addressed_of g.P.Ord.cmp w n keys) h) ∙ there))) h
    ]

pub returns : goal.returns
returns g c = λ w is keys h.
    let same = eq_by_cmp g.P.Ord.cmp in
    let total = g.met.P.Ord.total in
    let laws = eq_by_cmp_equiv total in
    let x = c.in-Some.ensures.0 in
    let n = c.args.sender.now in
    let to = c.args.to.now.items in
    let named = filter_map (node g.P.Ord.cmp w) keys in
    let read : c.index-as_slice-place.result ≡ x = key_read c.as_slice.result.now c.args.nodes.now c.in-Some.place x c.index-as_slice-place.result c.in-Some.ensures.1 c.as_slice.ensures.keys c.index-as_slice-place.is in
    let some = addressed-some g.P.Ord.cmp w n c.args.key.now x keys (rw is c.in-Some.ensures.2) in
    let copied : same c.in_ok-clone.field-0 x ≡ true = laws.symm c.in_ok-clone.field-0 x ∙ ap (λ y. same y c.in_ok-clone.field-0) (sym read) ∙ g.met.P.PublicKey.copies _ _ c.in_ok-clone.ensures.cases in
    let other : same n x ≡ false = ap (same n) (sym read) ∙ sym c.is_same.ensures ∙ c.if-is_same.false in
    let fresh : list_any (λ k. same k x) to ≡ false =
    ap (λ y. list_any (λ k. same k y) to) (sym read) ∙ ap (λ ys. list_any (λ k. same k c.index-as_slice-place.result) ys) (sym c.deref.ensures.value) ∙ sym c.is_among.ensures ∙ c.if-is_among.false in
    subst (λ ps. AreEqual same c.push.new.self.items ps) (sym (some ∙ addressed-new same laws n x named other (sym (any-copied g.P.Ord.cmp w total x to (addressed_of g.P.Ord.cmp w n keys) h) ∙ fresh)))
    (subst (λ ps. AreEqual same ps (addressed_of g.P.Ord.cmp w n keys ++ x ∷ [])) (sym c.in_ok-push.ensures.items)
    (AllZip-append _ to (addressed_of g.P.Ord.cmp w n keys) (c.in_ok-clone.field-0 ∷ []) (x ∷ []) h (copied, tt)))

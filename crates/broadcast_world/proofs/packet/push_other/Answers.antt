use Rattle.std.proofs.Common.{◌≡◌, true, false, ◌∷◌, [], ◌++◌, sym, ◌∙◌, subst, append-nil}
use Rattle.std.specs.Cmp.{eq_by_cmp_equiv}
use Rattle.std.specs.Ordering.{eq_by_cmp}
use Rattle.broadcast_core.specs.Concerns.{AreEqual}
use Rattle.broadcast_world.proofs.Places.{AllZip-append}
use Rattle.broadcast_world.proofs.packet.push_other.Goals as goal

pub returns-then-is_same : goal.returns-then-is_same
returns-then-is_same g c = λ given h.
    let same = eq_by_cmp g.P.Ord.cmp in
    let equal : same c.args.sender.now c.args.key.now ≡ true = sym c.is_same.ensures ∙ c.if-is_same.true in
    rw equal (subst (λ ps. AreEqual same c.args.to.now.items ps) (sym (append-nil given)) h)

pub returns : goal.returns
returns g c = λ given h.
    let same = eq_by_cmp g.P.Ord.cmp in
    let laws = eq_by_cmp_equiv g.met.P.Ord.total in
    let copy = c.in_ok-clone.field-0 in
    let key = c.args.key.now in
    let copied : same copy key ≡ true = laws.symm copy key ∙ g.met.P.PublicKey.copies _ _ c.in_ok-clone.ensures.cases in
    let other : same c.args.sender.now key ≡ false = sym c.is_same.ensures ∙ c.if-is_same.false in
    rw other (subst (λ ps. AreEqual same ps (given ++ key ∷ [])) (sym c.in_ok-push.ensures.items)
    (AllZip-append _ c.args.to.now.items given (copy ∷ []) (key ∷ []) h (copied, tt)))

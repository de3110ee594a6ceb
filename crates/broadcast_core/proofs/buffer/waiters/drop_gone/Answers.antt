use Rattle.std.proofs.Common.{◌≡◌, ◌+◌, [], None, Some, length, refl, sym, ap, arith}
use Rattle.std.specs.Prelude.{unwrap_or}
use Rattle.std.specs.List.{count_by}
use Rattle.std.specs.Ordering.{eq_by_cmp}
use Rattle.broadcast_core.specs.Waiters.{is_gone}
use Rattle.broadcast_core.proofs.WaitersLemmas.{AreAwaited-written, AreAwaited-updated, length-filter_not, lists-updated}
use Rattle.broadcast_core.proofs.Cleaning.{passing, passing-set, passing-removed, lists-dropped, lists-emptied, lookup-removed}
use Rattle.broadcast_core.proofs.buffer.waiters.drop_gone.Goals as goal
use Rattle.broadcast_core.proofs.buffer.waiters.drop_gone.Goals.{then-left-eq0+in-Some-1, then-left-eq0+in-None-1, else-left-eq0}

pub overflow_sub-result : goal.overflow_sub-result
overflow_sub-result g c = omega (arith, c.len-left.ensures, c.len-before.ensures, ap length c.retain_waiting.ensures, length-filter_not (is_gone g.W.Ticketed.ticket_of c.args.gone.now) c.in-Some.waiters.now)

pub returns-clause-awaited : goal.returns-clause-awaited
returns-clause-awaited g c =
    let R = g.D.Ord.cmp in
    let d = c.args.digest.now in
    let es = c.args.by_digest.now.entries in
    let mid = (c.get_mut.follows.lender c.retain_waiting.new.waiters).entries in
    let was = sym c.in-Some.ensures.value in
    let written = c.get_mut.follows.holds c.retain_waiting.new.waiters in
    let at = (written.3 (rw was refl)).0 in
    elim c.if-left-eq0.branch [
      | then-left-eq0+in-Some-1 w ↦ rw w.by_digest-is (AreAwaited-updated g.met.D.Ord.total d None es w.remove.new.self.entries (lookup-removed R d c.retain_waiting.new.waiters es mid w.remove.new.self.entries at w.remove.ensures.updates.0) c.requires w.remove.ensures.ordered (λ ws h. absurd cc))
      | then-left-eq0+in-None-1 w ↦ rw w.by_digest-is (AreAwaited-updated g.met.D.Ord.total d None es w.remove.new.self.entries (lookup-removed R d c.retain_waiting.new.waiters es mid w.remove.new.self.entries at w.remove.ensures.updates.0) c.requires w.remove.ensures.ordered (λ ws h. absurd cc))
      | else-left-eq0 w ↦ rw w.by_digest-is (AreAwaited-written g.met.D.Ord.total d c.retain_waiting.new.waiters es mid at c.requires written.4 (omega (arith, c.len-left.ensures, w.if-left-eq0.false)))
    ]

pub returns-clause-lists : goal.returns-clause-lists
returns-clause-lists g c =
    let R = g.D.Ord.cmp in
    let d = c.args.digest.now in
    let es = c.args.by_digest.now.entries in
    let mid = (c.get_mut.follows.lender c.retain_waiting.new.waiters).entries in
    let was = sym c.in-Some.ensures.value in
    let written = c.get_mut.follows.holds c.retain_waiting.new.waiters in
    let at = (written.3 (rw was refl)).0 in
    let test = is_gone g.W.Ticketed.ticket_of c.args.gone.now in
    elim c.if-left-eq0.branch [
      | then-left-eq0+in-Some-1 w ↦ rw w.by_digest-is (lists-dropped g.met.D.Ord.total test d es w.remove.new.self.entries was c.retain_waiting.ensures
          (lists-emptied g.met.D.Ord.total d c.retain_waiting.new.waiters es w.remove.new.self.entries (omega (arith, c.len-left.ensures, w.if-left-eq0.true)) (lookup-removed R d c.retain_waiting.new.waiters es mid w.remove.new.self.entries at w.remove.ensures.updates.0)))
      | then-left-eq0+in-None-1 w ↦ rw w.by_digest-is (lists-dropped g.met.D.Ord.total test d es w.remove.new.self.entries was c.retain_waiting.ensures
          (lists-emptied g.met.D.Ord.total d c.retain_waiting.new.waiters es w.remove.new.self.entries (omega (arith, c.len-left.ensures, w.if-left-eq0.true)) (lookup-removed R d c.retain_waiting.new.waiters es mid w.remove.new.self.entries at w.remove.ensures.updates.0)))
      | else-left-eq0 w ↦ rw w.by_digest-is (lists-dropped g.met.D.Ord.total test d es mid was c.retain_waiting.ensures (lists-updated g.met.D.Ord.total d (Some c.retain_waiting.new.waiters) es mid at))
    ]

pub returns-clause-dropped : goal.returns-clause-dropped
returns-clause-dropped g c =
    let was = sym c.in-Some.ensures.value in
    let test = is_gone g.W.Ticketed.ticket_of c.args.gone.now in
    let listed = ap (λ r. count_by test (unwrap_or r [])) was in
    omega (arith, listed, c.len-left.ensures, c.len-before.ensures, ap length c.retain_waiting.ensures, length-filter_not test c.in-Some.waiters.now)

pub returns-clause-removed : goal.returns-clause-removed
returns-clause-removed g c =
    let R = g.D.Ord.cmp in
    let d = c.args.digest.now in
    let es = c.args.by_digest.now.entries in
    let mid = (c.get_mut.follows.lender c.retain_waiting.new.waiters).entries in
    let was = sym c.in-Some.ensures.value in
    let written = c.get_mut.follows.holds c.retain_waiting.new.waiters in
    let test = is_gone g.W.Ticketed.ticket_of c.args.gone.now in
    let set : passing test mid + count_by test c.in-Some.waiters.now ≡ passing test es = rw written.0 (passing-set test (eq_by_cmp R d) es c.in-Some.waiters.now c.retain_waiting.new.waiters was c.retain_waiting.ensures) in
    let there = (written.3 (rw was refl)).1 in
    let sizes = length-filter_not test c.in-Some.waiters.now in
    let kept = ap length c.retain_waiting.ensures in
    elim c.if-left-eq0.branch [
      | then-left-eq0+in-Some-1 w ↦ rw (w.by_digest-is, w.remove.ensures.entries)
          (let gone = passing-removed test (eq_by_cmp R d) mid c.retain_waiting.new.waiters there (omega (arith, c.len-left.ensures, w.if-left-eq0.true)) in omega (arith, gone, set, sizes, kept, c.len-left.ensures, c.len-before.ensures))
      | then-left-eq0+in-None-1 w ↦ rw (w.by_digest-is, w.remove.ensures.entries)
          (let gone = passing-removed test (eq_by_cmp R d) mid c.retain_waiting.new.waiters there (omega (arith, c.len-left.ensures, w.if-left-eq0.true)) in omega (arith, gone, set, sizes, kept, c.len-left.ensures, c.len-before.ensures))
      | else-left-eq0 w ↦ rw w.by_digest-is (omega (arith, set, sizes, kept, c.len-left.ensures, c.len-before.ensures))
    ]

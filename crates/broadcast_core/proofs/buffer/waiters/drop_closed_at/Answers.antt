use Rattle.std.proofs.Common.{◌≡◌, ◌+◌, None, Some, length, refl, sym, arith}
use Rattle.std.specs.Ordering.{eq_by_cmp}
use Rattle.broadcast_core.specs.Waiters.{waiting_in}
use Rattle.broadcast_core.proofs.WaitersLemmas.{AreAwaited-written, AreAwaited-updated, length-DropsClosed, lists-updated}
use Rattle.broadcast_core.proofs.Cleaning.{lists-emptied, lookup-removed}
use Rattle.broadcast_core.proofs.CleaningAt.{closed-at, waiting-set, waiting-removed}
use Rattle.broadcast_core.proofs.buffer.waiters.drop_closed_at.Goals as goal
use Rattle.broadcast_core.proofs.buffer.waiters.drop_closed_at.Goals.{then-left-eq0+in-Some-1, then-left-eq0+in-None-1, else-left-eq0}

pub overflow_sub-result : goal.overflow_sub-result
overflow_sub-result g c = omega (arith, c.len-left.ensures, c.len-before.ensures, length-DropsClosed g.W.Closable.may_answer c.in-Some.waiters.now c.retain_open.new.waiters c.retain_open.ensures)

pub returns-clause-awaited : goal.returns-clause-awaited
returns-clause-awaited g c =
    let R = g.D.Ord.cmp in
    let d = c.args.digest.now in
    let es = c.args.by_digest.now.entries in
    let mid = (c.get_mut.follows.lender c.retain_open.new.waiters).entries in
    let was = sym c.in-Some.ensures.value in
    let written = c.get_mut.follows.holds c.retain_open.new.waiters in
    let at = (written.3 (rw was refl)).0 in
    elim c.if-left-eq0.branch [
      | then-left-eq0+in-Some-1 w ↦ rw w.by_digest-is (AreAwaited-updated g.met.D.Ord.total d None es w.remove.new.self.entries (lookup-removed R d c.retain_open.new.waiters es mid w.remove.new.self.entries at w.remove.ensures.updates.0) c.requires w.remove.ensures.ordered (λ ws h. absurd cc))
      | then-left-eq0+in-None-1 w ↦ rw w.by_digest-is (AreAwaited-updated g.met.D.Ord.total d None es w.remove.new.self.entries (lookup-removed R d c.retain_open.new.waiters es mid w.remove.new.self.entries at w.remove.ensures.updates.0) c.requires w.remove.ensures.ordered (λ ws h. absurd cc))
      | else-left-eq0 w ↦ rw w.by_digest-is (AreAwaited-written g.met.D.Ord.total d c.retain_open.new.waiters es mid at c.requires written.4 (omega (arith, c.len-left.ensures, w.if-left-eq0.false)))
    ]

pub returns-clause-lists : goal.returns-clause-lists
returns-clause-lists g c =
    let R = g.D.Ord.cmp in
    let d = c.args.digest.now in
    let es = c.args.by_digest.now.entries in
    let mid = (c.get_mut.follows.lender c.retain_open.new.waiters).entries in
    let was = sym c.in-Some.ensures.value in
    let written = c.get_mut.follows.holds c.retain_open.new.waiters in
    let at = (written.3 (rw was refl)).0 in
    let answers = g.W.Closable.may_answer in
    elim c.if-left-eq0.branch [
      | then-left-eq0+in-Some-1 w ↦ rw w.by_digest-is (closed-at g.met.D.Ord.total answers d c.retain_open.new.waiters es w.remove.new.self.entries was c.retain_open.ensures
          (lists-emptied g.met.D.Ord.total d c.retain_open.new.waiters es w.remove.new.self.entries (omega (arith, c.len-left.ensures, w.if-left-eq0.true)) (lookup-removed R d c.retain_open.new.waiters es mid w.remove.new.self.entries at w.remove.ensures.updates.0)))
      | then-left-eq0+in-None-1 w ↦ rw w.by_digest-is (closed-at g.met.D.Ord.total answers d c.retain_open.new.waiters es w.remove.new.self.entries was c.retain_open.ensures
          (lists-emptied g.met.D.Ord.total d c.retain_open.new.waiters es w.remove.new.self.entries (omega (arith, c.len-left.ensures, w.if-left-eq0.true)) (lookup-removed R d c.retain_open.new.waiters es mid w.remove.new.self.entries at w.remove.ensures.updates.0)))
      | else-left-eq0 w ↦ rw w.by_digest-is (closed-at g.met.D.Ord.total answers d c.retain_open.new.waiters es mid was c.retain_open.ensures (lists-updated g.met.D.Ord.total d (Some c.retain_open.new.waiters) es mid at))
    ]

pub returns-clause-removed : goal.returns-clause-removed
returns-clause-removed g c =
    let R = g.D.Ord.cmp in
    let d = c.args.digest.now in
    let es = c.args.by_digest.now.entries in
    let mid = (c.get_mut.follows.lender c.retain_open.new.waiters).entries in
    let was = sym c.in-Some.ensures.value in
    let written = c.get_mut.follows.holds c.retain_open.new.waiters in
    let set : waiting_in mid + length c.in-Some.waiters.now ≡ waiting_in es + length c.retain_open.new.waiters = rw written.0 (waiting-set (eq_by_cmp R d) es c.in-Some.waiters.now c.retain_open.new.waiters was) in
    let there = (written.3 (rw was refl)).1 in
    let fewer = length-DropsClosed g.W.Closable.may_answer c.in-Some.waiters.now c.retain_open.new.waiters c.retain_open.ensures in
    elim c.if-left-eq0.branch [
      | then-left-eq0+in-Some-1 w ↦ rw (w.by_digest-is, w.remove.ensures.entries)
          (let gone = waiting-removed (eq_by_cmp R d) mid c.retain_open.new.waiters there (omega (arith, c.len-left.ensures, w.if-left-eq0.true)) in omega (arith, gone, set, fewer, c.len-left.ensures, c.len-before.ensures))
      | then-left-eq0+in-None-1 w ↦ rw (w.by_digest-is, w.remove.ensures.entries)
          (let gone = waiting-removed (eq_by_cmp R d) mid c.retain_open.new.waiters there (omega (arith, c.len-left.ensures, w.if-left-eq0.true)) in omega (arith, gone, set, fewer, c.len-left.ensures, c.len-before.ensures))
      | else-left-eq0 w ↦ rw w.by_digest-is (omega (arith, set, fewer, c.len-left.ensures, c.len-before.ensures))
    ]

use Rattle.std.proofs.Common.{◌≡◌, ◌<◌, true, false, length, refl, sym, arith}
use Rattle.std.specs.Prelude.{not, nat_eq}
use Rattle.std.specs.List.{list_any}
use Rattle.std.specs.VecDeque.{deque_len}
use Rattle.std.proofs.lemmas.Bool.{and_from, and_right, and_left}
use Rattle.gossip.specs.Sending.{is_lacking, is_due}
use Rattle.gossip.proofs.Finding.{behind, there, up_to_place, one_further, least}
use Rattle.gossip.proofs.kept.Kept.first_due.Goals as goal

pub loop-message-smaller-in-Some-end_of_run : goal.loop-message-smaller-in-Some-end_of_run
loop-message-smaller-in-Some-end_of_run c =
    let list = c.args.self.now.list in
    let n : deque_len list ≡ length list.items = list.ok.0 in
    let lt : c.loop-message.i < length list.items = rw (← n) (c.in-Some.ensures.variant.0 refl) in
    let at = there list.items c.loop-message.i c.in-Some.message.now lt c.in-Some.ensures.lookup in
    let on = behind c.in-Some-end_of_run.end c.args.self.now.floor c.loop-message.i list.items c.in-Some.message.now c.requires at c.in-Some-end_of_run.ensures.run.begins in
    let on' : c.loop-message.i < c.up_to-i.result = rw c.up_to-i.ensures.count on in
    omega (arith, lt, on')

pub loop-message-preserved-in-Some-end_of_run : goal.loop-message-preserved-in-Some-end_of_run
loop-message-preserved-in-Some-end_of_run c =
    let list = c.args.self.now.list in
    let n : deque_len list ≡ length list.items = list.ok.0 in
    let lt : c.loop-message.i < length list.items = rw (← n) (c.in-Some.ensures.variant.0 refl) in
    let at = there list.items c.loop-message.i c.in-Some.message.now lt c.in-Some.ensures.lookup in
    let run = c.in-Some-end_of_run.ensures.run in
    record {
      bound = rw (← n) c.up_to-i.ensures.bound;
      none = λ k m low e. up_to_place c.args.self.now.floor c.in-Some-end_of_run.end c.loop-message.i list.items c.in-Some.message.now
          (λ m. is_due c.args.reported.now c.args.sent c.args.in_flight.now m ≡ false) c.requires at c.loop-message.invariant.none
          (λ m from to. and_left (is_lacking c.args.reported.now c.args.sent m.stamp) _ (run.none m.stamp from to)) k m (rw (← c.up_to-i.ensures.count) low) e;
    }

pub returns-then-not-is_in_flight-clause-first : goal.returns-then-not-is_in_flight-clause-first
returns-then-not-is_in_flight-clause-first c =
    let list = c.args.self.now.list in
    let n : deque_len list ≡ length list.items = list.ok.0 in
    let lt : c.loop-message.i < length list.items = rw (← n) (c.in-Some.ensures.variant.0 refl) in
    let at = there list.items c.loop-message.i c.in-Some.message.now lt c.in-Some.ensures.lookup in
    let out : c.is_in_flight.result ≡ false = grind arith in
    let free : not (list_any (λ s. nat_eq s c.in-Some.message.now.stamp) c.args.in_flight.now) ≡ true = rw (← c.is_in_flight.ensures, out) refl in
    record {
      is_listed = (c.loop-message.i, lt, sym c.in-Some.ensures.lookup);
      due = and_from _ _ c.in-None.ensures.none free;
      least = least c.args.self.now.floor c.loop-message.i list.items c.in-Some.message.now (is_due c.args.reported.now c.args.sent c.args.in_flight.now)
          c.requires at c.loop-message.invariant.none;
    }

pub loop-message-preserved : goal.loop-message-preserved
loop-message-preserved c =
    let list = c.args.self.now.list in
    let n : deque_len list ≡ length list.items = list.ok.0 in
    let i = c.loop-message.i in
    let it = c.in-Some.message.now in
    let lt : i < length list.items = rw (← n) (c.in-Some.ensures.variant.0 refl) in
    let at = there list.items i it lt c.in-Some.ensures.lookup in
    let flies : c.is_in_flight.result ≡ true = grind arith in
    let due : is_due c.args.reported.now c.args.sent c.args.in_flight.now it ≡ false =
    and_right (is_lacking c.args.reported.now c.args.sent it.stamp) _ (rw (← c.is_in_flight.ensures, flies) refl) in
    record { bound = omega (arith, lt); none = one_further i list.items it (is_due c.args.reported.now c.args.sent c.args.in_flight.now) at c.loop-message.invariant.none due }

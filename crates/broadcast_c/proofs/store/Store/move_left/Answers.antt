use Rattle.std.proofs.Common.{◌≡◌, ◌≤◌, ℕ, List, [], ◌∷◌, ◌++◌, length, map, reverse, take, drop, refl, sym, ap, ◌∙◌, arith, length-append}
use Rattle.std.proofs.lemmas.List.{append-nil, reverse-append, length-drop, nil_from_length}
use Rattle.entries.proofs.Overlaying.{length-overlaid, overlaid-next, drop-next, overlaid-all, overlaid-full}
use Rattle.broadcast_core.specs.Carried.{Carried}
use Rattle.broadcast_c.specs.declared.store.held.Held.{Held}
use Rattle.broadcast_c.specs.Storing.{left_in}
use Rattle.broadcast_c.proofs.store.Store.move_left.Goals as goal

-- the handles of messages, the newest first
abbrev handles : List (Carried Held (List ℕ)) → List ℕ
handles xs = map (λ x. x.message.handle) (reverse xs)

-- that of one more is in front
handles-more : (xs : List (Carried Held (List ℕ))) (x : Carried Held (List ℕ)) → handles (xs ++ x ∷ []) ≡ x.message.handle ∷ handles xs
handles-more xs x = ap (map (λ y. y.message.handle)) (reverse-append xs (x ∷ []))

-- nothing is left behind more either
none-behind : {X : Type 0} (xs : List X) (i n : ℕ) → drop i xs ≡ [] → i ≤ n → drop n xs ≡ []
none-behind xs i n none more = nil_from_length (drop n xs) (omega (arith, more, length-drop i xs, length-drop n xs, ap length none))

pub loop-i-preserved : goal.loop-i-preserved
loop-i-preserved c =
    let all = left_in c.args.self.now in
    let rest = handles c.pop_left.new.self.left in
    let handle = ap (λ h. h.handle ∷ rest) (sym c.inner.ensures) in
    let there = sym c.loop-i.invariant.1 ∙ ap handles c.in-Some.ensures.popped ∙ handles-more c.pop_left.new.self.left c.in-Some.message ∙ handle in
    let room = ap length c.loop-i.invariant.0 ∙ length-overlaid (take c.loop-i.i all) c.args.out.now in
    rw c.loop-i.invariant.0 (
      overlaid-next all c.args.out.now c.loop-i.i _ _ there (omega (arith, c.loop-i-test.true, room)),
      sym (drop-next all c.loop-i.i _ _ there),
      c.in-Some.ensures.core ∙ c.loop-i.invariant.2,
      c.loop-i.invariant.3,
      omega (arith, c.loop-i-test.true, room),
      omega (arith, length-drop c.loop-i.i all, ap length there),
    )

pub loop-i-smaller : goal.loop-i-smaller
loop-i-smaller c = omega (arith, ap length c.in-Some.ensures.popped, length-append c.pop_left.new.self.left (c.in-Some.message ∷ []))

pub returns-after-loop-i : goal.returns-after-loop-i
returns-after-loop-i c =
    let all = left_in c.args.self.now in
    let room = ap length c.loop-i.invariant.0 ∙ length-overlaid (take c.loop-i.i all) c.args.out.now in
    let full : length c.args.out.now ≤ c.loop-i.i = omega (arith, c.loop-i-test.false, room) in
    let last : c.loop-i.i ≡ length c.args.out.now = omega (arith, full, c.loop-i.invariant.4) in
    record {
      filled = c.loop-i.invariant.0 ∙ overlaid-full all c.args.out.now c.loop-i.i full;
      rest = c.loop-i.invariant.1 ∙ ap (λ n. drop n all) last;
      count = omega (arith, ap length c.loop-i.invariant.1, length-drop c.loop-i.i all, c.loop-i.invariant.5);
      core = c.loop-i.invariant.2;
      served = c.loop-i.invariant.3;
    }

pub returns-in_default : goal.returns-in_default
returns-in_default c =
    let all = left_in c.args.self.now in
    let none = c.in_default.ensures.empty refl in
    let behind : drop c.loop-i.i all ≡ [] = sym c.loop-i.invariant.1 ∙ ap handles none in
    let empty : c.pop_left.new.self.left ≡ [] = sym (append-nil c.pop_left.new.self.left) ∙ sym c.in_default.ensures.popped ∙ none in
    record {
      filled = c.loop-i.invariant.0 ∙ overlaid-all all c.args.out.now c.loop-i.i behind;
      rest = ap handles empty ∙ sym (none-behind all c.loop-i.i (length c.args.out.now) behind c.loop-i.invariant.4);
      count = omega (arith, ap (λ xs. length (handles xs)) empty, ap length behind, length-drop c.loop-i.i all, c.loop-i.invariant.5);
      core = c.in_default.ensures.core ∙ c.loop-i.invariant.2;
      served = c.loop-i.invariant.3;
    }

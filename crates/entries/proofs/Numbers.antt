-- The bucket of a word, as their number grows.
use Rattle.std.proofs.Common.{Bool, true, false, cond, ◌≡◌, ℕ, ◌+◌, ◌-◌, ◌*◌, ◌/◌, ◌%◌, ◌^◌, ◌<◌, ◌≤◌, zero, suc, refl, sym, ap, ◌∙◌, subst, arith}
use Rattle.std.specs.Prelude.{nat_lt}
use Rattle.std.proofs.lemmas.Bool.Decides.{nat_tests}
use Rattle.std.proofs.lemmas.Nat.{mod-pow-add, mod_low, mod_below, pow_below, shl_whole, one_shl, and_mask}
use Rattle.std.specs.Prelude.{bit_and}
use Rattle.std.proofs.Math.Nat.{pow-succ'}
use Rattle.entries.specs.Parts.{number}

above_zero : (k : ℕ) → 0 < 2 ^ k
above_zero zero = omega arith
above_zero (suc k) = let h = pow_below 0 (suc k) (omega arith) in omega arith

low-small : (x k : ℕ) → x < 2 ^ k → x % 2 ^ k ≡ x
low-small x k small = let same : x ≡ 0 * 2 ^ k + x = omega arith in ap (λ m. m % 2 ^ k) same ∙ mod_low 0 k x small ∙ refl

-- the lower bits of the lower bits
low-low : (w k : ℕ) → w % 2 ^ (k + 1) % 2 ^ k ≡ w % 2 ^ k
low-low w k =
    let order : k + 1 ≡ 1 + k = omega arith in
    ap (λ n. w % 2 ^ n % 2 ^ k) order ∙ ap (λ n. n % 2 ^ k) (mod-pow-add w 1 k) ∙ mod_low (w / 2 ^ k % 2 ^ 1) k (w % 2 ^ k) (mod_below w (2 ^ k) (above_zero k))

-- what goes to the last of so many buckets came from the one with the same lower bits
pub grown-moves : (bits n w : ℕ) → number bits (n + 1) w ≡ n → number bits n w ≡ n % 2 ^ bits
grown-moves bits n w is = at (nat_lt (w % 2 ^ (bits + 1)) (n + 1)) (nat_lt (w % 2 ^ (bits + 1)) n) refl refl is
  where
    at : (b a : Bool) → nat_lt (w % 2 ^ (bits + 1)) (n + 1) ≡ b → nat_lt (w % 2 ^ (bits + 1)) n ≡ a → cond b (w % 2 ^ (bits + 1)) (w % 2 ^ bits) ≡ n → cond a (w % 2 ^ (bits + 1)) (w % 2 ^ bits) ≡ n % 2 ^ bits
    at true true is_b is_a is = absurd (grind (arith, nat_tests))
    at true false is_b is_a is = sym (low-low w bits) ∙ ap (λ m. m % 2 ^ bits) is
    at false true is_b is_a is = absurd (grind (arith, nat_tests))
    at false false is_b is_a is = sym (low-small (w % 2 ^ bits) bits (mod_below w (2 ^ bits) (above_zero bits))) ∙ ap (λ m. m % 2 ^ bits) is

-- the others stay
pub grown-stays : (bits n w : ℕ) → (number bits (n + 1) w ≡ n → ⊥) → number bits (n + 1) w ≡ number bits n w
grown-stays bits n w other = at (nat_lt (w % 2 ^ (bits + 1)) (n + 1)) (nat_lt (w % 2 ^ (bits + 1)) n) refl refl other
  where
    at : (b a : Bool) → nat_lt (w % 2 ^ (bits + 1)) (n + 1) ≡ b → nat_lt (w % 2 ^ (bits + 1)) n ≡ a → (cond b (w % 2 ^ (bits + 1)) (w % 2 ^ bits) ≡ n → ⊥) → cond b (w % 2 ^ (bits + 1)) (w % 2 ^ bits) ≡ cond a (w % 2 ^ (bits + 1)) (w % 2 ^ bits)
    at true true is_b is_a other = refl
    at true false is_b is_a other = let is : w % 2 ^ (bits + 1) ≡ n = grind (arith, nat_tests) in absurd (other is)
    at false true is_b is_a other = absurd (grind (arith, nat_tests))
    at false false is_b is_a other = refl

-- one bit more changes nothing, if each bucket of the bits so far is there and no other
pub widened-same : (bits n w : ℕ) → n ≡ 2 ^ (bits + 1) → number (bits + 1) n w ≡ number bits n w
widened-same bits n w is = at (nat_lt (w % 2 ^ (bits + 1 + 1)) n) (nat_lt (w % 2 ^ (bits + 1)) n) refl refl
  where
    low : w % 2 ^ (bits + 1) < n
    low = subst (λ m. w % 2 ^ (bits + 1) < m) (sym is) (mod_below w (2 ^ (bits + 1)) (above_zero (bits + 1)))

    at : (b a : Bool) → nat_lt (w % 2 ^ (bits + 1 + 1)) n ≡ b → nat_lt (w % 2 ^ (bits + 1)) n ≡ a → cond b (w % 2 ^ (bits + 1 + 1)) (w % 2 ^ (bits + 1)) ≡ cond a (w % 2 ^ (bits + 1)) (w % 2 ^ bits)
    at b false is_b is_a = let h = low in absurd (grind (arith, nat_tests))
    at false true is_b is_a = refl
    at true true is_b is_a =
        let small : w % 2 ^ (bits + 1 + 1) < 2 ^ (bits + 1) = grind (arith, nat_tests) in
        sym (low-small (w % 2 ^ (bits + 1 + 1)) (bits + 1) small) ∙ low-low w (bits + 1)

twice : (k : ℕ) → 2 * 2 ^ k ≡ 2 ^ (k + 1)
twice k = sym (pow-succ' 2 k) ∙ ap (λ n. 2 ^ n) (omega arith)

-- the masks of the lower bits
pub shifted : (k : ℕ) → k < 32 → 2 * 2 ^ k % 18446744073709551616 ≡ 2 ^ (k + 1)
shifted k few = shl_whole 2 2 k 64 (omega arith) (omega arith) ∙ twice k

pub wide-mask : (s k : ℕ) → k < 32 → bit_and s (2 * 2 ^ k % 18446744073709551616 - 1) ≡ s % 2 ^ (k + 1)
wide-mask s k few = ap (λ m. bit_and s (m - 1)) (shifted k few) ∙ and_mask s (k + 1)

pub low-mask : (s k : ℕ) → k < 32 → bit_and s (1 * 2 ^ k % 18446744073709551616 - 1) ≡ s % 2 ^ k
low-mask s k few = ap (λ m. bit_and s (m - 1)) (one_shl k 64 (omega arith)) ∙ and_mask s k

pub is-wide : (s k n : ℕ) → k < 32 → bit_and s (2 * 2 ^ k % 18446744073709551616 - 1) < n → bit_and s (2 * 2 ^ k % 18446744073709551616 - 1) ≡ number k n s
is-wide s k n few less = at (nat_lt (s % 2 ^ (k + 1)) n) refl
  where
    is : bit_and s (2 * 2 ^ k % 18446744073709551616 - 1) ≡ s % 2 ^ (k + 1)
    is = wide-mask s k few

    at : (b : Bool) → nat_lt (s % 2 ^ (k + 1)) n ≡ b → bit_and s (2 * 2 ^ k % 18446744073709551616 - 1) ≡ cond b (s % 2 ^ (k + 1)) (s % 2 ^ k)
    at true lt = is
    at false lt = let below = subst (λ m. m < n) is less in absurd (grind (arith, nat_tests))

pub is-low : (s k n : ℕ) → k < 32 → n ≤ bit_and s (2 * 2 ^ k % 18446744073709551616 - 1) → bit_and s (1 * 2 ^ k % 18446744073709551616 - 1) ≡ number k n s
is-low s k n few most = at (nat_lt (s % 2 ^ (k + 1)) n) refl
  where
    at : (b : Bool) → nat_lt (s % 2 ^ (k + 1)) n ≡ b → bit_and s (1 * 2 ^ k % 18446744073709551616 - 1) ≡ cond b (s % 2 ^ (k + 1)) (s % 2 ^ k)
    at true lt = let above = subst (λ m. n ≤ m) (wide-mask s k few) most in absurd (grind (arith, nat_tests))
    at false lt = low-mask s k few

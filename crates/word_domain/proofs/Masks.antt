-- Masks, and sums without their carry.
use Rattle.std.proofs.Common.{◌≡◌, ℕ, ◌+◌, ◌-◌, ◌/◌, ◌%◌, ◌^◌, ◌<◌, ◌≤◌, sym, ap, ◌∙◌, bit_and, arith, mod-eq_of_lt}
use Rattle.std.proofs.Math.Nat.{add-mod-mod, add-mod_right, mul-div_cancel}
use Rattle.std.proofs.lemmas.Nat.{and_mask, pow_below}
use Rattle.word_domain.specs.Words.{IsQuotient}

-- a mask takes a number modulo the number of words
pub and_with_mask : (w n m : ℕ) → m ≡ 2 ^ w - 1 → bit_and n m ≡ n % 2 ^ w
and_with_mask w n m e = rw e (and_mask n w)

pub two_words : (w : ℕ) → 1 ≤ w → 2 ≤ 2 ^ w
two_words w low = omega (arith, pow_below 0 w low)

-- the difference, added again
pub sum-difference : (m a b : ℕ) → a < m → b < m → (b + (a + (m - b)) % m) % m ≡ a
sum-difference m a b p q =
    let whole : b + (a + (m - b)) ≡ a + m = omega arith in
    add-mod-mod b (a + (m - b)) m ∙ ap (λ k. k % m) whole ∙ add-mod_right a m ∙ mod-eq_of_lt p

-- a quotient is what division gives
pub quotient_is : (w z a q : ℕ) → 0 < a → IsQuotient w z a q → z / a ≡ q
quotient_is w z a q p h = ap (λ k. k / a) (sym h.product) ∙ mul-div_cancel q p

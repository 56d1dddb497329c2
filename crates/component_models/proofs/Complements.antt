-- Complements of words.
use Rattle.std.proofs.Common.{◌≡◌, ℕ, zero, suc, ◌+◌, ◌-◌, ◌*◌, ◌^◌, ◌<◌, refl, sym, ap₂, ◌∙◌, arith, pow_pos, bit_and}
use Rattle.std.specs.Int.{bit_at}
use Rattle.std.proofs.lemmas.Nat.{pow_below, and-not}
use Rattle.std.proofs.lemmas.Nat.Bits.{bit_at-lt, and_pow}

abbrev pub complement_of : ℕ → ℕ → ℕ
complement_of w v = 2 ^ w - 1 - v

pub complement-lt : (w v : ℕ) → v < 2 ^ w → complement_of w v < 2 ^ w
complement-lt w v p = omega (arith, pow_pos w)

pub complement-complement : (w v : ℕ) → v < 2 ^ w → complement_of w (complement_of w v) ≡ v
complement-complement w v p = omega arith

one_of_two : (x y p : ℕ) → 0 < p → x < 2 → y < 2 → x * p + y * p ≡ p → x ≡ 1 - y
one_of_two zero zero p pos hx hy e = grind arith
one_of_two zero (suc zero) p pos hx hy e = refl
one_of_two (suc zero) zero p pos hx hy e = refl
one_of_two (suc zero) (suc zero) p pos hx hy e = grind arith
one_of_two (suc (suc x)) y p pos hx hy e = absurd (omega arith)
one_of_two x (suc (suc y)) p pos hx hy e = absurd (omega arith)

-- each bit is the other one
pub bit_at_complement : (w v i : ℕ) → v < 2 ^ w → i < w → bit_at (complement_of w v) i ≡ 1 - bit_at v i
bit_at_complement w v i p q =
    let h : bit_and (2 ^ w - 1 - v) (2 ^ i) + bit_and v (2 ^ i) ≡ 2 ^ i = and-not w v (2 ^ i) p (pow_below i w q) in
    let k : bit_at (2 ^ w - 1 - v) i * 2 ^ i + bit_at v i * 2 ^ i ≡ 2 ^ i = sym (ap₂ (λ x y. x + y) (and_pow (2 ^ w - 1 - v) i) (and_pow v i)) ∙ h in
    one_of_two _ _ (2 ^ i) (pow_pos i) (bit_at-lt _ i) (bit_at-lt _ i) k

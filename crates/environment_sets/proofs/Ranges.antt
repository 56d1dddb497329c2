-- Numbers one after another.
use Rattle.std.proofs.Common.{◌≡◌, ℕ, zero, suc, ◌+◌, ◌<◌, ◌≤◌, ◌⊎◌, inl, inr, IsTrue, List, [], ◌∷◌, ◌++◌, ap, subst, ◌∙◌, arith, zero-add}
use Rattle.std.specs.List.{range_with_len}
use Rattle.std.proofs.lemmas.Bool.Decides.{nat_tests}
use Rattle.environment_sets.specs.Lists.{IsIn, AreDistinct}
use Rattle.environment_sets.specs.Sets.{only}

pub last_or_before : (i n : ℕ) → i < n + 1 → (i ≡ n) ⊎ (i < n)
last_or_before i n low = grind arith

-- a set of one number
pub is_only : (i n : ℕ) → i ≡ n → IsTrue (only n i)
is_only i n e = grind (arith, nat_tests)

pub only_is : (i n : ℕ) → IsTrue (only n i) → i ≡ n
only_is i n h = grind (arith, nat_tests)

-- so many numbers from this one on
pub in_range : (a n i : ℕ) → IsIn (range_with_len a n) i → (a ≤ i) × (i < a + n)
in_range a zero i h = absurd h
in_range a (suc n) i (inl e) = (omega arith, omega arith)
in_range a (suc n) i (inr h) = let r : (a + 1 ≤ i) × (i < (a + 1) + n) = in_range (a + 1) n i h in (omega (arith, r.0), omega (arith, r.1))

pub to_range : (a n i : ℕ) → i < n → IsIn (range_with_len a n) (a + i)
to_range a zero i low = absurd (omega arith)
to_range a (suc n) zero low = inl (omega arith)
to_range a (suc n) (suc i) low = let m : (a + 1) + i ≡ a + suc i = omega arith in inr (subst (IsIn (range_with_len (a + 1) n)) m (to_range (a + 1) n i (omega arith)))

pub range_distinct : (a n : ℕ) → AreDistinct (range_with_len a n)
range_distinct a zero = tt
range_distinct a (suc n) = (λ y h e. let r : (a + 1 ≤ y) × (y < (a + 1) + n) = in_range (a + 1) n y h in absurd (omega (arith, r.0, e)), range_distinct (a + 1) n)

range_push : (a n : ℕ) → range_with_len a (suc n) ≡ range_with_len a n ++ (a + n) ∷ []
range_push a zero = let n : a ≡ a + 0 = omega arith in ap (λ (m : ℕ). m ∷ []) n
range_push a (suc n) = let m : (a + 1) + n ≡ a + suc n = omega arith in ap (λ (xs : List ℕ). a ∷ xs) (range_push (a + 1) n ∙ ap (λ (k : ℕ). range_with_len (a + 1) n ++ k ∷ []) m)

-- one number more
pub range_more : (n : ℕ) → range_with_len 0 (n + 1) ≡ range_with_len 0 n ++ n ∷ []
range_more n = let one : n + 1 ≡ suc n = omega arith in ap (λ (m : ℕ). range_with_len 0 m) one ∙ (range_push 0 n ∙ ap (λ (k : ℕ). range_with_len 0 n ++ k ∷ []) (zero-add n))

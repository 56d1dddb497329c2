-- What the test of a subset says.
use Rattle.std.proofs.Common.{◌≡◌, ℕ, zero, suc, ◌+◌, ◌<◌, inl, inr, Bool, true, false, not, ◌&&◌, cond, IsTrue, true≢false, refl, sym, ap, ◌∙◌, arith}
use Rattle.std.proofs.lemmas.Bool.Decides.{nat_tests}
use Rattle.std.proofs.lemmas.Bool.{false≢true, false_from_ne_true}
use Rattle.environment_sets.specs.Sets.{Set, ◌⊆◌, ◌∖◌, IsBelow, size_below, is_within}
use Rattle.environment_sets.proofs.Sizes.{size_below-none, last_or_lower}

none_of_size : (n : ℕ) (E : Set ℕ) → size_below n E ≡ 0 → (k : ℕ) → k < n → E k ≡ false
unfolding size_below
none_of_size zero E e k low = absurd (omega arith)
none_of_size (suc n) E e k low =
    elim (last_or_lower k n low) [
      | inl same ↦ ap E same ∙ last (E n) (size_below n E) e
      | inr lower ↦ none_of_size n E (omega arith) k lower
    ]
  where
    last : (b : Bool) (m : ℕ) → m + cond b 1 0 ≡ 0 → b ≡ false
    last true m e = absurd (omega arith)
    last false m e = refl

implies : (a b : Bool) → (a && not b) ≡ false → a ≡ true → b ≡ true
implies true true e h = refl
implies true false e h = absurd (true≢false e)
implies false b e h = absurd (false≢true h)

implied : (a b : Bool) → (a ≡ true → b ≡ true) → (a && not b) ≡ false
implied true b h = ap not (h refl)
implied false b h = refl

pub within_holds : (n : ℕ) (E F : Set ℕ) → IsBelow n E → IsTrue (is_within n E F) → E ⊆ F
within_holds n E F low is k h =
    let none : size_below n (E ∖ F) ≡ 0 = grind (arith, nat_tests) in implies (E k) (F k) (none_of_size n (E ∖ F) none k (low k h)) h

pub holds_within : (n : ℕ) (E F : Set ℕ) → E ⊆ F → IsTrue (is_within n E F)
holds_within n E F within = let none : size_below n (E ∖ F) ≡ 0 = size_below-none n (E ∖ F) (λ k _. implied (E k) (F k) (within k)) in grind (arith, nat_tests)

-- a test that says whether E is a subset of F is that test
pub is_within_test : (n : ℕ) (E F : Set ℕ) (b : Bool) → IsBelow n E → (IsTrue b → E ⊆ F) → (E ⊆ F → IsTrue b) → b ≡ is_within n E F
is_within_test n E F true low to from = sym (holds_within n E F (to refl))
is_within_test n E F false low to from = sym (false_from_ne_true (is_within n E F) (λ is. false≢true (from (within_holds n E F low is))))

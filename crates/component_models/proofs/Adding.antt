-- Sums without their carry.
use Rattle.std.proofs.Common.{◌≡◌, ℕ, ◌+◌, ◌-◌, ◌%◌, ◌^◌, ◌<◌, ◌≤◌, ◌⊎◌, false, ap, ◌∙◌, [], ◌∷◌, Option, IsNone, IfSome, arith, mod-eq_of_lt, pow_pos, add_comm}
use Rattle.std.proofs.Math.Nat.{add-mod-mod, mod-add-mod, add-mod_right}
use Rattle.std.proofs.lemmas.Nat.{mod_below}
use Rattle.word_domain.proofs.Masks.{sum-difference}
use Rattle.circuit_model.specs.declared.model.Primitive.TheVariants.{Add}
use Rattle.circuit_model.specs.Inference.{IsInference}
use Rattle.component_models.specs.Tables.{forced_by_two, sum_of, difference_of}
use Rattle.component_models.proofs.Functions.{three_fit, three_words, IsFunction}
use Rattle.component_models.proofs.Latin.{IsLatin, latin_is_exact}

difference-sum : (m a b : ℕ) → a < m → b < m → ((a + b) % m + (m - a)) % m ≡ b
difference-sum m a b p q =
    let whole : a + b + (m - a) ≡ b + m = omega arith in
    mod-add-mod (a + b) m (m - a) ∙ ap (λ k. k % m) whole ∙ add-mod_right b m ∙ mod-eq_of_lt q

module _ (w : ℕ) where
  adder : IsFunction Add w w w (sum_of w)
  adder = record {
    third_fits = λ a b p q. mod_below (a + b) (2 ^ w) (pow_pos w);
    tuple_of = λ a b z p q r e. record { fits = three_fit w w w [] a b z p q r; relates = e };
    by_words = λ C here t h. three_words (λ w a b z. z ≡ (a + b) % 2 ^ w) w w w C here t h.fits h.relates;
  }

  sums : IsLatin w (sum_of w) (difference_of w)
  sums = record {
    other_fits = λ z a p q. mod_below (z + (2 ^ w - a)) (2 ^ w) (pow_pos w);
    exchanged = λ a b. ap (λ k. k % 2 ^ w) (add_comm a b);
    there = λ z a p q. sum-difference (2 ^ w) z a p q;
    back = λ a b p q. difference-sum (2 ^ w) a b p q;
  }

  pub sum_is_exact : 1 ≤ w → (a b z : Option ℕ) → IfSome a (λ a. a < 2 ^ w) → IfSome b (λ b. b < 2 ^ w) → IfSome z (λ z. z < 2 ^ w) → (IsNone a ⊎ (IsNone b ⊎ IsNone z)) → IsInference Add (w ∷ w ∷ w ∷ []) (a ∷ b ∷ z ∷ []) false (forced_by_two (sum_of w) (difference_of w) a b z)
  sum_is_exact low = latin_is_exact Add (λ _. tt) w low (sum_of w) (difference_of w) adder sums

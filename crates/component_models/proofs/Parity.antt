-- Exclusive or.
use Rattle.std.proofs.Common.{◌≡◌, ℕ, ◌^◌, ◌<◌, ◌≤◌, ◌⊎◌, false, sym, ap, ◌∙◌, [], ◌∷◌, Option, IsNone, IfSome, bit_xor}
use Rattle.std.specs.Int.Bits.{xor_self, xor_assoc, xor_zero_l}
use Rattle.std.proofs.lemmas.Nat.{xor_lt, xor_comm}
use Rattle.circuit_model.specs.declared.model.Primitive.TheVariants.{Xor}
use Rattle.circuit_model.specs.Inference.{IsInference}
use Rattle.component_models.specs.Tables.{forced_by_two}
use Rattle.component_models.proofs.Latin.{IsLatin, latin_is_exact}
use Rattle.component_models.proofs.Bitwise.{xor_function}

undone : (a b : ℕ) → bit_xor a (bit_xor a b) ≡ b
undone a b = sym (xor_assoc a a b) ∙ ap (λ k. bit_xor k b) (xor_self a) ∙ xor_zero_l b

module _ (w : ℕ) where
  parities : IsLatin w bit_xor bit_xor
  parities = record {
    other_fits = λ z a p q. xor_lt w z a p q;
    exchanged = xor_comm;
    there = λ z a p q. ap (bit_xor a) (xor_comm z a) ∙ undone a z;
    back = λ a b p q. xor_comm (bit_xor a b) a ∙ undone a b;
  }

  pub xor_is_exact : 1 ≤ w → (a b z : Option ℕ) → IfSome a (λ a. a < 2 ^ w) → IfSome b (λ b. b < 2 ^ w) → IfSome z (λ z. z < 2 ^ w) → (IsNone a ⊎ (IsNone b ⊎ IsNone z)) → IsInference Xor (w ∷ w ∷ w ∷ []) (a ∷ b ∷ z ∷ []) false (forced_by_two bit_xor bit_xor a b z)
  xor_is_exact low = latin_is_exact Xor (λ _. tt) w low bit_xor bit_xor (xor_function w) parities

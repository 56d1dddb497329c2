-- Forced words fit, and are at three places.
use Rattle.std.proofs.Common.{◌≡◌, ℕ, zero, suc, ◌^◌, ◌<◌, Bool, List, [], ◌∷◌, length, get_or, Option, Some, None, IfSome, slice_get, refl, ap, arith}
use Rattle.circuit_model.specs.declared.model.Primitive.{Primitive}
use Rattle.circuit_model.specs.Inference.{IsInference, WordsFit}
use Rattle.circuit_model.proofs.Inferences.{word_fits}

-- a forced word is one of a tuple, and so it fits
pub forced_words_fit : (prim : Primitive) (widths : List ℕ) (known : List (Option ℕ)) (refuted : Bool) (forced : List (Option ℕ)) → IsInference prim widths known refuted forced → WordsFit widths forced
forced_words_fit prim widths known refuted forced i p w v e f =
    let forces = (i.forces_exactly p v).0 f in
    let some_tuple = forces.some_tuple in
    word_fits prim widths some_tuple.0 p w v some_tuple.1 e (forces.every_tuple some_tuple.0 some_tuple.1 some_tuple.2)

get_or_some : (xs : List (Option ℕ)) (p v : ℕ) → get_or xs p None ≡ Some v → slice_get xs p ≡ Some (Some v)
get_or_some [] p v e = cc
get_or_some (x ∷ xs) zero v e = ap Some e
get_or_some (x ∷ xs) (suc p) v e = get_or_some xs p v e

known_or_not : (o : Option ℕ) (P : ℕ → Type 0) → ((v : ℕ) → o ≡ Some v → P v) → IfSome o P
known_or_not None P h = tt
known_or_not (Some v) P h = h v refl

-- the word at each place, where there is one
pub fit_first : (w : ℕ) (forced : List (Option ℕ)) → WordsFit (w ∷ w ∷ w ∷ []) forced → IfSome (get_or forced 0 None) (λ v. v < 2 ^ w)
fit_first w forced fit = known_or_not _ _ (λ v e. fit 0 w v refl (get_or_some forced 0 v e))

pub fit_second : (w : ℕ) (forced : List (Option ℕ)) → WordsFit (w ∷ w ∷ w ∷ []) forced → IfSome (get_or forced 1 None) (λ v. v < 2 ^ w)
fit_second w forced fit = known_or_not _ _ (λ v e. fit 1 w v refl (get_or_some forced 1 v e))

pub fit_third : (w : ℕ) (forced : List (Option ℕ)) → WordsFit (w ∷ w ∷ w ∷ []) forced → IfSome (get_or forced 2 None) (λ v. v < 2 ^ w)
fit_third w forced fit = known_or_not _ _ (λ v e. fit 2 w v refl (get_or_some forced 2 v e))

-- three places are these three
pub places : (xs : List (Option ℕ)) → length xs ≡ 3 → xs ≡ get_or xs 0 None ∷ get_or xs 1 None ∷ get_or xs 2 None ∷ []
places [] e = absurd (omega (arith, e))
places (a ∷ []) e = absurd (omega (arith, e))
places (a ∷ b ∷ []) e = absurd (omega (arith, e))
places (a ∷ b ∷ z ∷ []) e = refl
places (a ∷ b ∷ z ∷ x ∷ xs) e = absurd (omega (arith, e))
